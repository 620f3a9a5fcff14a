use Rattle.std.proofs.Common.{◌≡◌, ◌+◌, ◌-◌, ◌*◌, ◌≤◌, drop, map, Some}
use Rattle.toml_span_tree.specs.Value.{view}
use Rattle.toml_span_schema.specs.Applied.{applied_of}
use Rattle.toml_span_schema.specs.Parts.{part_of}
use Rattle.toml_span_schema.specs.Valid.{allows, any, count, covers, every, is_evaluated_element, judged, keywords, passes, reaches, refused}
use Rattle.toml_span_schema.proofs.Rests.{Kept}
use Rattle.toml_span_schema.proofs.schema.Schema.+valid.Given as goal

abbrev pub decreases-is_valid : goal.decreases-is_valid
decreases-is_valid l = 6 * l.depth

abbrev pub decreases-allows : goal.decreases-allows
decreases-allows l = 6 * l.depth + 5

abbrev pub decreases-allows_other : goal.decreases-allows_other
decreases-allows_other l = 6 * l.depth + 4

abbrev pub decreases-all_valid : goal.decreases-all_valid
decreases-all_valid l = 6 * l.depth + 1

abbrev pub decreases-any_valid : goal.decreases-any_valid
decreases-any_valid l = 6 * l.depth + 1

abbrev pub decreases-count_valid : goal.decreases-count_valid
decreases-count_valid l = 6 * l.depth + 1

abbrev pub decreases-allows_each : goal.decreases-allows_each
decreases-allows_each l = 6 * l.depth + 1

abbrev pub decreases-contains_enough : goal.decreases-contains_enough
decreases-contains_enough l = 6 * l.depth + 2

abbrev pub decreases-allows_unevaluated : goal.decreases-allows_unevaluated
decreases-allows_unevaluated l = 6 * l.depth + 3

abbrev pub decreases-unevaluated : goal.decreases-unevaluated
decreases-unevaluated l = 6 * l.depth

abbrev pub decreases-unreached : goal.decreases-unreached
decreases-unreached l = 6 * l.depth + 4

abbrev pub decreases-uncovered : goal.decreases-uncovered
decreases-uncovered l = 6 * l.depth + 2

abbrev pub decreases-uncovered_by : goal.decreases-uncovered_by
decreases-uncovered_by l = 6 * l.depth + 1

abbrev pub decreases-maybe_uncovered : goal.decreases-maybe_uncovered
decreases-maybe_uncovered l = 6 * l.depth + 2

abbrev pub decreases-unmatched : goal.decreases-unmatched
decreases-unmatched l = 6 * l.depth + 2

abbrev pub invariant-is_valid-loop-placed : goal.invariant-is_valid-loop-placed
invariant-is_valid-loop-placed l =
    every (λ p. allows l.self (judged l.self (l.depth - 1)) p.keyword (view l.value)) (drop l.placed-index (keywords l.self l.node))
    ≡ every (λ p. allows l.self (judged l.self (l.depth - 1)) p.keyword (view l.value)) (keywords l.self l.node)

abbrev pub invariant-all_valid-loop-pair : goal.invariant-all_valid-loop-pair
invariant-all_valid-loop-pair l =
    every (passes (judged l.self l.depth)) (map applied_of (drop l.pair-index l.list))
    ≡ every (passes (judged l.self l.depth)) (map applied_of l.list)

abbrev pub invariant-any_valid-loop-pair : goal.invariant-any_valid-loop-pair
invariant-any_valid-loop-pair l =
    any (passes (judged l.self l.depth)) (map applied_of (drop l.pair-index l.list))
    ≡ any (passes (judged l.self l.depth)) (map applied_of l.list)

abbrev pub invariant-count_valid-loop-pair : goal.invariant-count_valid-loop-pair
invariant-count_valid-loop-pair l =
    (count (passes (judged l.self l.depth)) l.count (map applied_of (drop l.pair-index l.list))
    ≡ count (passes (judged l.self l.depth)) 0 (map applied_of l.list)) × (l.count ≤ l.pair-index)

abbrev pub invariant-allows_each-loop-value : goal.invariant-allows_each-loop-value
invariant-allows_each-loop-value l =
    every (λ n. (judged l.self l.depth).valid l.node n) (map view (drop l.value-index l.values))
    ≡ every (λ n. (judged l.self l.depth).valid l.node n) (map view l.values)

abbrev pub invariant-unevaluated-loop-placed : goal.invariant-unevaluated-loop-placed
invariant-unevaluated-loop-placed l =
    refused (λ q. any (λ p. reaches l.self (judged l.self (l.depth - 1)) p.keyword (view l.value) q) (drop l.placed-index (keywords l.self l.node))) (map part_of l.rest.items)
    ≡ refused (λ q. any (λ p. reaches l.self (judged l.self (l.depth - 1)) p.keyword (view l.value) q) (keywords l.self l.node)) (map part_of l.parts)

abbrev pub invariant-uncovered-loop-pair : goal.invariant-uncovered-loop-pair
invariant-uncovered-loop-pair l =
    refused (λ q. any (covers (judged l.self l.depth) q) (map applied_of (drop l.pair-index l.list))) (map part_of l.rest.items)
    ≡ refused (λ q. any (covers (judged l.self l.depth) q) (map applied_of l.list)) (map part_of l.parts)

abbrev pub invariant-unmatched-loop-part : goal.invariant-unmatched-loop-part
invariant-unmatched-loop-part l =
    Kept (is_evaluated_element (judged l.self l.depth) l.node) (map part_of l.parts) (map part_of l.rest.items) (map part_of (drop l.part-index l.parts))
