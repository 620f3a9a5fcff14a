use Rattle.toml_span_lex.proofs.Common.{arith, ◌<◌, ap, get_or, Global, ◌++◌, ◌∷◌, []}
use Rattle.toml_span_lex.specs.declared.stop.Stop.TheVariants as stops
use Rattle.toml_span_lex.proofs.MadeStrings.{no_string, scanned}
use Rattle.toml_span_lex.proofs.PieceLemmas.{Cut-more, piece_forward}
use Rattle.toml_span_lex.proofs.strings.scan_string.Goals as goal

pub pieces-preserved : goal.pieces-preserved
pieces-preserved c =
    let text = c.args.text.now in
    let q = get_or c.as_bytes.result.now c.args.at 0 in
    let m = c.opens_multi-multi.result in
    let arm = c.in-Ok-Some-default in
    let place = c.pieces.place in
    let cut = c.pieces.invariant.cut in
    let is = rw arm.field-0-0-is at arm.ensures.piece in
    let on : place < arm.next = piece_forward q m text place arm.next arm.field-0-0-0 is in
    record {
      forward = omega (arith, c.pieces.invariant.forward);
      boundary = arm.ensures.boundary;
      cut = (cut.0 ++ (arm.field-0-0-0, arm.next) ∷ [], Cut-more q m text c.content_from-from.result place arm.next cut.0 arm.field-0-0-0 cut.1 is);
    }

pub returns-in-Err : goal.returns-in-Err
returns-in-Err c =
    let cut = c.pieces.invariant.cut in
    no_string Global c.args.text.now c.args.at c.content_from-from.result _ _ (stops.Fault (c.in-Err.error, c.in-Err.next)) (ap (λ xs. get_or xs c.args.at 0) c.as_bytes.ensures.value)
    (rw c.as_bytes-2.ensures.value at c.opens_multi-multi.ensures) c.requires.quote c.content_from-from.ensures.begins
    (record { pieces = cut.0; at = c.pieces.place; cut = cut.1; fault = c.in-Err.ensures.piece })

pub returns-in-Ok-None-default : goal.returns-in-Ok-None-default
returns-in-Ok-None-default c =
    let arm = c.in-Ok-None-default in
    let cut = c.pieces.invariant.cut in
    let closes = rw arm.field-0-0-is at arm.ensures.piece in
    scanned c.args.text.now _ c.args.at c.content_from-from.result c.pieces.place arm.end _ cut.0 (ap (λ xs. get_or xs c.args.at 0) c.as_bytes.ensures.value)
    (rw c.as_bytes-2.ensures.value at c.opens_multi-multi.ensures) c.requires.quote c.content_from-from.ensures.begins cut.1 closes
