use Rattle.toml_span_lex.proofs.Common.{◌≡◌, map, refl, ap, ◌∙◌, rules, IsNonDecreasingBy-from_sort_by_key}
use Rattle.std.proofs.lemmas.Fn.{always_returns_same}
use Rattle.toml_span_tree.specs.Order.{entry_of, start_of}
use Rattle.toml_span_serde.specs.Tasks.{by_start}
use Rattle.toml_span_serde.proofs.Sorts.{sorted, sorted-map}
use Rattle.toml_span_serde.proofs.pieces.sorted_entries.Goals as goal

pub returns-clause-entries : goal.returns-clause-entries
returns-clause-entries c =
    let listed = c.in_ok-entries.entries.items in
    let up = IsNonDecreasingBy-from_sort_by_key start_of _ c.in_ok-sort_by_key.ensures.sorted (λ a r q k. search rules) in
    let stable = c.sort_by_key.ensures.stable start_of (always_returns_same _ (λ a r. r ≡ start_of a.0.now) _ (λ a r q k. search rules)) in
    ap (map entry_of) (sorted start_of listed c.sort_by_key.new.self.items up stable)
    ∙ sorted-map entry_of start_of (λ e. e.0.span.start) (λ e. refl) listed
    ∙ ap by_start c.in_ok-entries.ensures.entries
