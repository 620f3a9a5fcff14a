use Rattle.std.proofs.Common.{◌∙◌, ◌∷◌, ap, subst, sym, arith, map, drop, length, false, get_or, ◌+◌, suc, drop-cons, add-one}
use Rattle.std.proofs.lemmas.List.{drop_all}
use Rattle.toml_span_check.specs.Globs.{codes_of, element}
use Rattle.toml_span_check.specs.Patterns.{name_step}
use Rattle.toml_span_check.proofs.Marks.{NameMarks, name-end, name-first, name-step}
use Rattle.toml_span_check.proofs.patterns.name_matches.Goals as goal

pub loop-code-init : goal.loop-code-init
loop-code-init c =
    let pattern = codes_of c.args.pattern.now in
    subst (NameMarks pattern pattern c.args.name.now) (sym c.in_ok-marks.ensures) (name-first pattern c.args.name.now)

pub loop-code-preserved : goal.loop-code-preserved
loop-code-preserved c =
    let pattern = codes_of c.args.pattern.now in
    let name = c.args.name.now in
    let i = c.loop-code.code-index in
    let code = c.code-item.result in
    let rest = codes_of (drop (i + 1) c.args.pattern.now) in
    let first = drop-cons c.args.pattern.now i code (omega arith)
    ∙ ap (λ p. p ∷ drop (suc i) c.args.pattern.now) (sym c.code-item.is)
    ∙ ap (λ j. code ∷ drop j c.args.pattern.now) (sym (add-one i)) in
    let is = c.in_ok-marks-2.ensures ∙ ap (λ ms. name_step (element code) ms name) c.as_slice.ensures.value in
    let before = subst (λ l. NameMarks pattern l name c.loop-code.marks.items) (ap (map element) first) c.loop-code.invariant in
    subst (NameMarks pattern rest name) (sym is) (name-step pattern rest name (element code) c.loop-code.marks.items before)

pub returns : goal.returns
returns c =
    let pattern = codes_of c.args.pattern.now in
    let name = c.args.name.now in
    let rest = ap (map element) (drop_all c.loop-code.code-index c.args.pattern.now (omega arith)) in
    c.is_marked.ensures
    ∙ ap (λ ms. get_or ms (length name) false) c.as_slice-2.ensures.value
    ∙ name-end pattern name c.loop-code.marks.items (subst (λ l. NameMarks pattern l name c.loop-code.marks.items) rest c.loop-code.invariant)
