use Rattle.toml_span_read.specs.Again.{ReadsAsKey}
use Rattle.toml_span_places.specs.Quoted.{key_text}
use Rattle.toml_span_places.proofs.QuotedAgain.{if_text, reads_key}
use Rattle.toml_span_places.proofs.quoted.quote_key.Goals as goal

pub returns-clause-reads : goal.returns-clause-reads
returns-clause-reads c = if_text (ReadsAsKey c.args.name.now) c.spelled_key.result (key_text c.args.name.now) (reads_key c.args.name.now c.utf8.name) c.spelled_key.ensures
