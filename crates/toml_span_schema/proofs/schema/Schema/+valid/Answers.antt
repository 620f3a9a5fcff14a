use Rattle.std.proofs.Common.{◌≡◌, ◌-◌, ◌++◌, ap, sym, ◌∙◌, arith, drop, map, true, false, Some}
use Rattle.std.proofs.lemmas.Grind.{common_steps}
use Rattle.toml_span_tree.specs.Value.{view}
use Rattle.toml_span_schema.specs.Applied.{applied_of}
use Rattle.toml_span_schema.specs.Parts.{part_of, value_of, whole}
use Rattle.toml_span_schema.specs.Valid.{any, covers, every, either, is_evaluated_element, judged, optional, passes, reaches, refused}
use Rattle.toml_span_schema.proofs.Judged.{allowed_by_all, left_by_all, left_more, refused_at}
use Rattle.toml_span_schema.proofs.Rests.{all_left, covers_none, every_rest, is_in_place, is_simple, kept_end, left_contains, left_if, left_in_place, left_simply, uncovered_end, uncovered_more}
use Rattle.toml_span_schema.proofs.schema.Schema.+valid.Goals as goal

pub is_valid-returns-then-not-branch : goal.is_valid-returns-then-not-branch
is_valid-returns-then-not-branch t c =
    refused_at c.args.self.now c.args.depth c.args.node (view c.args.value.now) c.keywords-placed-items.result.now
    c.loop-placed.placed-index c.placed-item.result (omega arith) c.keywords-placed-items.ensures c.loop-placed-test.true
    c.placed-item.is c.loop-placed.invariant (c.in_ok-allows.ensures ∙ ap (λ b. Some b) c.if-not-branch.true)

pub is_valid-returns : goal.is_valid-returns
is_valid-returns t c =
    allowed_by_all c.args.self.now c.args.depth c.args.node (view c.args.value.now) c.keywords-placed-items.result.now
    c.loop-placed.placed-index (omega arith) c.keywords-placed-items.ensures c.loop-placed-test.false c.loop-placed.invariant

pub allows_unevaluated-returns : goal.allows_unevaluated-returns
allows_unevaluated-returns t c =
    ap (λ ps. every (λ p. either ((judged c.args.self.now c.args.depth).evaluates c.args.nodes.0 (view c.args.value.now) p) ((judged c.args.self.now c.args.depth).valid c.args.nodes.1 (value_of p))) ps)
    (sym c.in_ok-parts.ensures ∙ ap (map part_of) (sym c.as_slice.ensures.value))
    ∙ every_rest (judged c.args.self.now c.args.depth) ((judged c.args.self.now c.args.depth).evaluates c.args.nodes.0 (view c.args.value.now)) c.args.nodes.1 (map part_of c.as_slice.result.now) (map part_of c.in_ok-rest.rest.items) c.in_ok-rest.ensures
    ∙ ap (λ l. every (passes (judged c.args.self.now c.args.depth)) (map (λ q. (c.args.nodes.1, q)) (map part_of l))) (sym c.as_slice-2.ensures.value)
    ∙ ap (every (passes (judged c.args.self.now c.args.depth)))
    (ap (λ l. map applied_of l ++ map (λ q. (c.args.nodes.1, q)) (map part_of c.as_slice-2.result.now)) (sym c.new-list.ensures.items)
    ∙ sym c.in_ok-push_to_each.ensures ∙ ap (map applied_of) (sym c.as_slice-3.ensures.value))
    ∙ c.in_ok-all_valid.ensures

pub maybe_uncovered-returns-in_ok-from_slice-in-None : goal.maybe_uncovered-returns-in_ok-from_slice-in-None
maybe_uncovered-returns-in_ok-from_slice-in-None t c =
    ap (λ o. refused (λ p. optional (λ k. covers (judged c.args.self.now c.args.depth) p (k, whole (view c.args.value.now))) (Some false) o) (map part_of c.args.parts.now)) c.in-None.is
    ∙ all_left (map part_of c.args.parts.now) ∙ ap (λ l. Some (map part_of l)) (sym c.in_ok-from_slice-in-None.ensures.items)

pub uncovered-loop-pair-preserved : goal.uncovered-loop-pair-preserved
uncovered-loop-pair-preserved t c =
    uncovered_more (judged c.args.self.now c.args.depth) c.args.list.now c.loop-pair.pair-index c.pair-item.result
    (map part_of c.as_slice.result.now) (map part_of c.in_ok-rest-2.rest.items) c.loop-pair-test.true c.pair-item.is c.in_ok-rest-2.ensures
    ∙ ap (λ l. refused (λ q. any (covers (judged c.args.self.now c.args.depth) q) (map applied_of (drop c.loop-pair.pair-index c.args.list.now))) (map part_of l)) c.as_slice.ensures.value
    ∙ c.loop-pair.invariant

pub uncovered-returns : goal.uncovered-returns
uncovered-returns t c =
    sym c.loop-pair.invariant
    ∙ uncovered_end (judged c.args.self.now c.args.depth) c.args.list.now c.loop-pair.pair-index (map part_of c.loop-pair.rest.items) c.loop-pair-test.false

pub uncovered_by-returns-in_ok-from_slice : goal.uncovered_by-returns-in_ok-from_slice
uncovered_by-returns-in_ok-from_slice t c =
    covers_none (judged c.args.self.now c.args.depth) (applied_of c.args.pair)
    (ap (λ n. (judged c.args.self.now c.args.depth).valid c.args.pair.0 n) (sym c.value-value.ensures) ∙ c.in_ok-is_valid.ensures ∙ ap (λ b. Some b) c.if-branch.false)
    (map part_of c.args.parts.now) ∙ ap (λ l. Some (map part_of l)) (sym c.in_ok-from_slice.ensures.items)

pub unevaluated-loop-placed-preserved : goal.unevaluated-loop-placed-preserved
unevaluated-loop-placed-preserved t c =
    left_more c.args.self.now c.args.depth c.args.node (view c.args.value.now) c.keywords-placed-items.result.now
    c.loop-placed.placed-index c.placed-item.result (map part_of c.loop-placed.rest.items) (map part_of c.in_ok-rest-2.rest.items)
    c.keywords-placed-items.ensures c.loop-placed-test.true c.placed-item.is
    (ap (λ l. refused (reaches c.args.self.now (judged c.args.self.now (c.args.depth - 1)) c.placed-item.result.keyword (view c.args.value.now)) (map part_of l)) (sym c.as_slice.ensures.value)
    ∙ c.in_ok-rest-2.ensures)
    ∙ c.loop-placed.invariant

pub unevaluated-returns : goal.unevaluated-returns
unevaluated-returns t c =
    left_by_all c.args.self.now c.args.depth c.args.node (view c.args.value.now) c.keywords-placed-items.result.now
    c.loop-placed.placed-index (map part_of c.args.parts.now) (map part_of c.loop-placed.rest.items) (omega arith)
    c.keywords-placed-items.ensures c.loop-placed-test.false c.loop-placed.invariant

pub unmatched-returns : goal.unmatched-returns
unmatched-returns t c =
    kept_end (is_evaluated_element (judged c.args.self.now c.args.depth) c.args.node) c.args.parts.now c.loop-part.part-index
    (map part_of c.loop-part.rest.items) c.loop-part-test.false c.loop-part.invariant

pub unreached-returns-in_ok-maybe_uncovered-in-If : goal.unreached-returns-in_ok-maybe_uncovered-in-If
unreached-returns-in_ok-maybe_uncovered-in-If t c =
    left_if c.args.self.now (judged c.args.self.now c.args.depth) c.args.keyword.now c.in-If.condition c.in-If.yes c.in-If.no (view c.args.value.now)
    c.args.parts.now c.in_ok-rest-in-If.rest.items c.as_slice.result.now c.in_ok-maybe_uncovered-in-If.field-0.items c.in-If.is
    (c.in_ok-is_valid-in-If.ensures ∙ ap (λ b. Some b) c.if-not-branch.false)
    c.in_ok-rest-in-If.ensures c.as_slice.ensures.value c.in_ok-maybe_uncovered-in-If.ensures

pub unreached-returns-in_ok-uncovered-in-AllOf : goal.unreached-returns-in_ok-uncovered-in-AllOf
unreached-returns-in_ok-uncovered-in-AllOf t c =
    let h : is_in_place c.args.keyword.now ≡ true = grind (arith, common_steps) in
    left_in_place c.args.self.now (judged c.args.self.now c.args.depth) c.args.keyword.now (view c.args.value.now)
    c.in_ok-list-in-AllOf.list.items c.as_slice-in-AllOf.result.now (map part_of c.args.parts.now) (map part_of c.in_ok-uncovered-in-AllOf.field-0.items)
    h c.in_ok-list-in-AllOf.ensures c.as_slice-in-AllOf.ensures.value c.in_ok-uncovered-in-AllOf.ensures

pub unreached-returns-in_ok-from_slice-in-Contains : goal.unreached-returns-in_ok-from_slice-in-Contains
unreached-returns-in_ok-from_slice-in-Contains t c =
    left_contains c.args.self.now (judged c.args.self.now c.args.depth) c.args.keyword.now c.in-Contains.node c.in-Contains.field-1 c.in-Contains.field-2
    c.in-Contains.evaluates (view c.args.value.now) c.args.parts.now c.in_ok-from_slice-in-Contains.field-0.items c.in-Contains.is c.if-evaluates.false
    c.in_ok-from_slice-in-Contains.ensures.items

pub unreached-returns-in_ok-simply_unreached-in_default : goal.unreached-returns-in_ok-simply_unreached-in_default
unreached-returns-in_ok-simply_unreached-in_default t c =
    let h : is_simple c.args.keyword.now ≡ true = grind (arith, common_steps) in
    left_simply c.args.self.now (judged c.args.self.now c.args.depth) c.args.keyword.now (view c.args.value.now)
    (map part_of c.args.parts.now) (map part_of c.in_ok-simply_unreached-in_default.field-0.items) h c.in_ok-simply_unreached-in_default.ensures
