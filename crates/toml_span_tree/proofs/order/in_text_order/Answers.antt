use Rattle.toml_span_lex.proofs.Common.{List, map, subst, rules, IsNonDecreasingBy-from_sort_by_key, IsPermutation-map, IsPermutation}
use Rattle.toml_span_tree.proofs.Values.{Entry}
use Rattle.toml_span_tree.specs.Order.{entry_of, start_of}
use Rattle.toml_span_tree.proofs.order.in_text_order.Goals as goal

pub returns-clause-all : goal.returns-clause-all
returns-clause-all c =
    subst (λ (es : List Entry). IsPermutation es (map entry_of c.sort_by_key.new.self.items)) c.in_ok-entries.ensures
    (IsPermutation-map entry_of _ _ c.sort_by_key.ensures.permutation)

pub returns-clause-ordered : goal.returns-clause-ordered
returns-clause-ordered c =
    IsNonDecreasingBy-from_sort_by_key start_of _ c.in_ok-sort_by_key.ensures.sorted (λ a r q k. search rules)
