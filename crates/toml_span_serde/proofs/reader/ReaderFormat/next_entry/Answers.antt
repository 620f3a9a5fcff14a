use Rattle.toml_span_lex.proofs.Common.{ap}
use Rattle.toml_span_serde.specs.Tasks.{piece_content, piece_of}
use Rattle.toml_span_serde.proofs.Rows.{ahead-same}
use Rattle.toml_span_serde.proofs.reader.ReaderFormat.next_entry.Goals as goal

pub returns-in-Key-clause-gives : goal.returns-in-Key-clause-gives
returns-in-Key-clause-gives c =
    let stays = c.in_ok-look.ensures.stays in
    (ahead-same c.args.self.now c.look.new.self stays.0 stays.1, (c.in-Key.field-0.now, _, (piece_of c.in_ok-look.field-0, c.in_ok-look.ensures.next, ap piece_content c.in-Key.is)))
