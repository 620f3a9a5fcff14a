use Rattle.toml_span_lex.proofs.Common.{◌+◌, inr, refl, sym, arith}
use Rattle.toml_span_lex.specs.Bytes.{is_keylike}
use Rattle.toml_span_read.proofs.Places.{further_byte, run_some}
use Rattle.toml_span_places.proofs.DottedLemmas.{closed_byte}
use Rattle.toml_span_places.proofs.dotted.opened_at.Goals as goal

pub returns-then-is_closed : goal.returns-then-is_closed
returns-then-is_closed c =
    let path = c.args.path.now in
    let end = c.keylike_end-end.result in
    let run = c.keylike_end-end.ensures.run in
    let some = run_some is_keylike path (c.args.at + 1) end refl (rw (← c.byte_at.ensures) (sym c.if-not-is_keylike.ensures)) run in
    let closed = sym c.if-is_closed.ensures in
    let byte = closed_byte path c.range-digits.result.now end closed in
    let further = further_byte path end c.utf8.path (omega (arith, byte)) (omega (arith, byte)) in
    ((end, c.requires, (some, run, c.range-digits.ensures.value), closed, refl), record { on = omega (arith, some); boundary = further.boundary })

pub returns-else-is_closed : goal.returns-else-is_closed
returns-else-is_closed c =
    let path = c.args.path.now in
    let end = c.keylike_end-end.result in
    let run = c.keylike_end-end.ensures.run in
    let some = run_some is_keylike path (c.args.at + 1) end refl (rw (← c.byte_at.ensures) (sym c.if-not-is_keylike.ensures)) run in
    rw c.stop-else-is_closed.ensures
    (inr (inr (end, c.range-digits.result.now, c.requires, (some, run, c.range-digits.ensures.value), sym c.if-is_closed.ensures, refl)))
