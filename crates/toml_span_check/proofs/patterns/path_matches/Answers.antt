use Rattle.std.proofs.Common.{◌∙◌, ◌∷◌, ap, subst, sym, arith, map, drop, length, true, false, get_or, replicate, ◌+◌, suc, drop-cons, add-one}
use Rattle.std.proofs.lemmas.List.{drop_all, length-map}
use Rattle.toml_span_check.specs.Globs.{codes_of, parts_of}
use Rattle.toml_span_check.specs.Patterns.{path_step}
use Rattle.toml_span_check.proofs.Marks.{PathMarks, path-end, path-first, path-step}
use Rattle.toml_span_check.proofs.patterns.path_matches.Goals as goal

pub loop-part-init : goal.loop-part-init
loop-part-init c =
    let pattern = parts_of c.args.pattern.now in
    let path = map (λ part. part.now) c.args.path.now in
    let is = c.in_ok-marks.ensures ∙ ap (λ n. true ∷ replicate n false) (sym (length-map c.args.path.now (λ part. part.now))) in
    subst (PathMarks pattern pattern path) (sym is) (path-first pattern path)

pub loop-part-preserved : goal.loop-part-preserved
loop-part-preserved c =
    let pattern = parts_of c.args.pattern.now in
    let path = map (λ part. part.now) c.args.path.now in
    let i = c.loop-part.part-index in
    let part = c.part-item.result in
    let rest = parts_of (drop (i + 1) c.args.pattern.now) in
    let first = drop-cons c.args.pattern.now i part (omega arith)
    ∙ ap (λ p. p ∷ drop (suc i) c.args.pattern.now) (sym c.part-item.is)
    ∙ ap (λ j. part ∷ drop j c.args.pattern.now) (sym (add-one i)) in
    let is = c.in_ok-marks-2.ensures
    ∙ ap (λ codes. path_step (codes_of codes) c.as_slice.result.now path) c.as_slice-in-loop-part.ensures.value
    ∙ ap (λ ms. path_step (codes_of part.items) ms path) c.as_slice.ensures.value in
    let before = subst (λ l. PathMarks pattern l path c.loop-part.marks.items) (ap parts_of first) c.loop-part.invariant in
    subst (PathMarks pattern rest path) (sym is) (path-step pattern path rest (codes_of part.items) c.loop-part.marks.items before)

pub returns : goal.returns
returns c =
    let pattern = parts_of c.args.pattern.now in
    let path = map (λ part. part.now) c.args.path.now in
    let rest = ap parts_of (drop_all c.loop-part.part-index c.args.pattern.now (omega arith)) in
    c.is_marked.ensures
    ∙ ap (λ ms. get_or ms (length c.args.path.now) false) c.as_slice-2.ensures.value
    ∙ ap (λ n. get_or c.loop-part.marks.items n false) (sym (length-map c.args.path.now (λ part. part.now)))
    ∙ path-end pattern path c.loop-part.marks.items (subst (λ l. PathMarks pattern l path c.loop-part.marks.items) rest c.loop-part.invariant)
