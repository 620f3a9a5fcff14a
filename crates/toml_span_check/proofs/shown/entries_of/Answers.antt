use Rattle.toml_span_lex.proofs.Common.{◌≡◌, map, refl, ap, ◌∙◌, rules, IsNonDecreasingBy-from_sort_by_key}
use Rattle.std.proofs.lemmas.Fn.{always_returns_same}
use Rattle.toml_span_tree.specs.Order.{entry_of, start_of}
use Rattle.toml_span_check.specs.code.Entries.{sorted_by}
use Rattle.toml_span_check.proofs.Sorts.{sorted, sorted-map}
use Rattle.toml_span_check.proofs.shown.entries_of.Goals as goal

pub returns : goal.returns
returns c =
    let listed = c.in_ok-entries.entries.items in
    let up = IsNonDecreasingBy-from_sort_by_key start_of _ c.in_ok-sort_by_key.ensures.sorted (λ a r q k. search rules) in
    let stable = c.sort_by_key.ensures.stable start_of (always_returns_same _ (λ a r. r ≡ start_of a.0.now) _ (λ a r q k. search rules)) in
    rw c.if-is_sorted.false
    (ap (map entry_of) (sorted start_of listed c.sort_by_key.new.self.items up stable)
    ∙ sorted-map entry_of start_of (λ e. e.0.span.start) (λ e. refl) listed
    ∙ ap (sorted_by (λ e. e.0.span.start)) c.in_ok-entries.ensures)
