use Rattle.toml_span_lex.proofs.Common.{◌≡◌, ℕ, List, ◌++◌, drop, map, get_by, slice_cmp, lookup, nat_cmp, bytes_eq}
use Rattle.toml_span_tree.specs.Error.{content_of}
use Rattle.toml_span_typed.specs.Names as spec
use Rattle.toml_span_typed.specs.Names.{Name, named}
use Rattle.toml_span_typed.proofs.de_helpers.table_helper.names.repeated.Given as goal

abbrev pub invariant-loop-name : goal.invariant-loop-name
invariant-loop-name l =
    (before : List Name) × ((q : List ℕ) → get_by (λ k. slice_cmp nat_cmp q k.now) l.places ≡ lookup (λ name. bytes_eq name q) before)
    × (map content_of l.errors.items ++ spec.repeated_after before (map named (drop l.name-index l.names)) ≡ spec.repeated (map named l.names))
