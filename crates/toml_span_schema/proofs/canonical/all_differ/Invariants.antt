use Rattle.std.proofs.Common.{◌≡◌, ℕ, [], List, drop, take, map}
use Rattle.std.specs.BTreeSet.{contains_text}
use Rattle.std.specs.List.{list_any}
use Rattle.std.specs.Str.{bytes_eq}
use Rattle.toml_span_tree.specs.Value.{view}
use Rattle.toml_span_schema.specs.Canonical.{all_new, canonical}
use Rattle.toml_span_schema.proofs.canonical.all_differ.Given as goal

abbrev pub invariant-loop-value : goal.invariant-loop-value
invariant-loop-value l =
    (all_new (map (λ v. canonical (view v)) (take l.value-index l.values)) (map (λ v. canonical (view v)) (drop l.value-index l.values))
    ≡ all_new [] (map (λ v. canonical (view v)) l.values))
    × ((q : List ℕ) → contains_text l.seen q ≡ list_any (bytes_eq q) (map (λ v. canonical (view v)) (take l.value-index l.values)))
