use Rattle.toml_span_lex.proofs.Common.{IsNonDecreasingBy-from_sort_by_key, IsPermutation, IsPermutation-map, List, map, rules, subst}
use Rattle.toml_span_tree.specs.Nodes.{Listed, seen}
use Rattle.toml_span_places.specs.Order.{start_of}
use Rattle.toml_span_places.proofs.order.nodes_in_text_order.Goals as goal

pub returns-clause-all : goal.returns-clause-all
returns-clause-all c =
    subst (λ (ns : List Listed). IsPermutation ns (map seen c.sort_by_key.new.self.items)) c.in_ok-list.ensures
    (IsPermutation-map seen _ _ c.sort_by_key.ensures.permutation)

pub returns-clause-ordered : goal.returns-clause-ordered
returns-clause-ordered c =
    IsNonDecreasingBy-from_sort_by_key start_of _ c.in_ok-sort_by_key.ensures.sorted (λ a r q k. search rules)
