use Rattle.toml_span_lex.proofs.Common.{inl, refl, sym}
use Rattle.toml_span_lex.specs.Bytes.{is_keylike}
use Rattle.toml_span_read.proofs.Places.{run_some}
use Rattle.toml_span_places.proofs.dotted.key_at.Goals as goal

pub returns-then-is_keylike : goal.returns-then-is_keylike
returns-then-is_keylike c =
    let run = c.keylike_end-end.ensures.run in
    let some = run_some is_keylike c.args.path.now c.args.at c.keylike_end-end.result refl (rw (← c.byte_at-byte.ensures) (sym c.if-is_keylike.ensures)) run in
    (inl (some, run, c.range.ensures.value), record { on = some; boundary = c.keylike_end-end.ensures.boundary })
