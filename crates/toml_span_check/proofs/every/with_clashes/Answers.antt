use Rattle.toml_span_lex.proofs.Common.{◌≡◌, ◌≤◌, Some, None, length, rules, arith, nat_tests, common_steps}
use Rattle.toml_span_check.specs.Every.{most}
use Rattle.toml_span_check.specs.code.Every.{progress, source_of}
use Rattle.toml_span_check.proofs.Errors.{checks_all, checks_many, finds_clash}
use Rattle.toml_span_check.proofs.every.with_clashes.Goals as goal

pub clashes-preserved : goal.clashes-preserved
clashes-preserved c =
    let is : c.in_ok-next.field-0 ≡ Some c.in-Some.next = search rules in
    finds_clash (source_of c.args.text.now c.args.reading.now) _ c.in_ok-next.field-0 c.in-Some.next _ _ c.clashes.invariant c.as_str.ensures.value c.in_ok-next.ensures is c.in_ok-found-in-Some.ensures

pub returns-in-None : goal.returns-in-None
returns-in-None c =
    let is : c.in_ok-next.field-0 ≡ None = search rules in
    checks_all (source_of c.args.text.now c.args.reading.now) _ c.in_ok-next.field-0 (progress c.clashes.found) c.requires.reading c.clashes.invariant c.as_str.ensures.value c.in_ok-next.ensures is

pub returns-in-Some-2 : goal.returns-in-Some-2
returns-in-Some-2 c =
    let is : c.in_ok-next_error.field-0 ≡ Some c.in-Some-2.field-0 = search rules in
    let full : most (length c.args.text.now) ≤ length c.clashes.found.places.items = grind (arith, nat_tests, common_steps) in
    checks_many (source_of c.args.text.now c.args.reading.now) _ c.in_ok-next_error.field-0 c.in-Some-2.field-0 (progress c.clashes.found) c.with_too_many.result c.requires.reading c.clashes.invariant c.as_str-2.ensures.value c.in_ok-next_error.ensures is full c.with_too_many.ensures

pub returns : goal.returns
returns c =
    let is : c.in_ok-next_error.field-0 ≡ None = search rules in
    checks_all (source_of c.args.text.now c.args.reading.now) _ c.in_ok-next_error.field-0 (progress c.clashes.found) c.requires.reading c.clashes.invariant c.as_str-2.ensures.value c.in_ok-next_error.ensures is
