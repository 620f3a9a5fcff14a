use Rattle.toml_span_lex.proofs.Common.{◌≡◌, ◌≤◌, IfNone, IfSome, None, Option, Some, arith, common_steps, inr, length, nat_tests, rules, subst}
use Rattle.toml_span_check.specs.Every.{faults, most}
use Rattle.toml_span_check.specs.code.Every.{HasNoFault, IsRefusedAt, progress, source_of}
use Rattle.toml_span_check.specs.declared.every.ErrorAt.{ErrorAt}
use Rattle.toml_span_check.proofs.Blanks.{rest_is, text_at, text_start}
use Rattle.toml_span_check.proofs.Errors.{reads_fault, through_clash, through_none}
use Rattle.toml_span_check.proofs.every.with_faults.Goals as goal

pub blanked-requires-clause-from : goal.blanked-requires-clause-from
blanked-requires-clause-from c = text_start c.args.text.now c.utf8.text

pub blanked-requires-clause-to : goal.blanked-requires-clause-to
blanked-requires-clause-to c =
    text_at (source_of c.args.text.now c.args.reading.now) c.as_slice.result.now c.faults.found.next c.offset_of-at.result c.utf8.text c.requires.reading c.as_slice.ensures.value c.offset_of-at.ensures

pub faults-preserved : goal.faults-preserved
faults-preserved c =
    let source = source_of c.args.text.now c.args.reading.now in
    let is : c.in_ok-next.field-0 ≡ Some c.in-Some.next = search rules in
    reads_fault source c.as_str.result.now c.in-Some.next (progress c.faults.found) _ c.faults.invariant
    (rest_is source c.faults.found.next c.as_str.result.now _ c.as_slice.result.now c.offset_of-at.result c.as_str.ensures.value c.in_ok-copy.ensures c.as_slice.ensures.value c.offset_of-at.ensures)
    (subst (λ (o : Option ErrorAt). IfSome o (IsRefusedAt source c.as_str.result.now c.faults.found.next)) is c.in_ok-next.ensures.fault) c.in_ok-found.ensures

pub returns-in-None : goal.returns-in-None
returns-in-None c =
    let source = source_of c.args.text.now c.args.reading.now in
    let is : c.in_ok-next.field-0 ≡ None = search rules in
    through_none source c.as_str.result.now (progress c.faults.found) c.faults.invariant
    (rest_is source c.faults.found.next c.as_str.result.now _ c.as_slice.result.now c.offset_of-at.result c.as_str.ensures.value c.in_ok-copy.ensures c.as_slice.ensures.value c.offset_of-at.ensures)
    (subst (λ (o : Option ErrorAt). IfNone o (HasNoFault c.as_str.result.now)) is c.in_ok-next.ensures.none)

pub returns-then-next : goal.returns-then-next
returns-then-next c =
    let source = source_of c.args.text.now c.args.reading.now in
    let is : c.in_ok-next.field-0 ≡ Some c.in-Some.next = search rules in
    through_clash source c.as_str.result.now c.in-Some.next (progress c.faults.found) c.faults.invariant
    (rest_is source c.faults.found.next c.as_str.result.now _ c.as_slice.result.now c.offset_of-at.result c.as_str.ensures.value c.in_ok-copy.ensures c.as_slice.ensures.value c.offset_of-at.ensures)
    (subst (λ (o : Option ErrorAt). IfSome o (IsRefusedAt source c.as_str.result.now c.faults.found.next)) is c.in_ok-next.ensures.fault) c.if-next.true

pub returns : goal.returns
returns c =
    let full : most (length c.args.text.now) ≤ length c.faults.found.places.items = grind (arith, nat_tests, common_steps) in
    faults (progress c.faults.found) c.faults.invariant (inr (inr full))
