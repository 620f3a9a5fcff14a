use Rattle.toml_span_lex.proofs.Common.{◌≡◌, ℕ, List, [], map, option_map, length, arith, sym, subst, get_or-map, length-map}
use Rattle.toml_span_report.proofs.NearestLemmas.{IsBest, best_all, best_nearer, best_same}
use Rattle.toml_span_report.proofs.names.nearest.Goals as goal
use Rattle.toml_span_report.proofs.names.nearest.Goals.{then-distance-bound, else-distance-bound}

pub loop-name-preserved : goal.loop-name-preserved
loop-name-preserved c =
    let names : List (List ℕ) = map (λ name. name.now) c.args.names.now in
    elim c.if-distance-bound.branch [
      | then-distance-bound w ↦ rw (w.best-is, w.bound-is)
          (best_nearer c.args.word.now names c.loop-name.name-index _ _ _ _ c.loop-name.invariant
          (sym (get_or-map (λ name. name.now) c.args.names.now c.loop-name.name-index _ [] c.loop-name-test.true))
          c.in_ok-distance.ensures w.if-distance-bound.true)
      | else-distance-bound w ↦ rw (w.best-is, w.bound-is)
          (best_same c.args.word.now names c.loop-name.name-index _ _ c.in_ok-distance.distance _ c.loop-name.invariant
          (sym (get_or-map (λ name. name.now) c.args.names.now c.loop-name.name-index _ [] c.loop-name-test.true))
          c.in_ok-distance.ensures w.if-distance-bound.false)
    ]

pub returns : goal.returns
returns c =
    let word = c.args.word.now in
    let names : List (List ℕ) = map (λ name. name.now) c.args.names.now in
    let best = option_map (λ name. name.now) c.loop-name.best in
    let size : length names ≡ length c.args.names.now = length-map c.args.names.now (λ name. name.now) in
    let all : c.loop-name.name-index ≡ length names =
    (let end = c.loop-name.auto.name-index-end in let last = c.loop-name-test.false in omega arith) in
    best_all word names best c.loop-name.bound (subst (λ (i : ℕ). IsBest word names i best c.loop-name.bound) all c.loop-name.invariant)
