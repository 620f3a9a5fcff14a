use Rattle.toml_span_lex.proofs.Common.{refl, sym}
use Rattle.toml_span_lex.specs.Bytes.{is_keylike}
use Rattle.toml_span_lex.specs.Tokens.{keylike}
use Rattle.toml_span_read.specs.Read.{token}
use Rattle.toml_span_read.proofs.Places.{run_some}
use Rattle.toml_span_read.proofs.keys.simple_key.Goals as goal

pub returns-then-is_keylike-clause-key : goal.returns-then-is_keylike-clause-key
returns-then-is_keylike-clause-key c =
    let run = c.keylike_end-end.ensures.run in
    let some = run_some is_keylike c.args.text.now c.args.at c.keylike_end-end.result refl (rw (← c.byte_at-byte.ensures) (sym c.if-is_keylike.ensures)) run in
    (token _ (keylike c.range.result.now) _, ((some, run, c.range.ensures.value), refl), refl)
