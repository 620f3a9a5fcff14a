use Rattle.toml_span_lex.proofs.Common.{◌≡◌, ◌≤◌, ◌++◌, suc, drop, map}
use Rattle.toml_span_read.specs.Data.{parsed_value}
use Rattle.toml_span_tree.specs.Nodes.{step_of}
use Rattle.toml_span_places.specs.Mentions.{mentioned}
use Rattle.toml_span_places.proofs.ValueSizes.{assigned_mentions, assigned_size, elements_mentions, elements_size, value_size}
use Rattle.toml_span_places.proofs.mentions.+push_value.Given as goal

abbrev pub decreases-push_value : goal.decreases-push_value
decreases-push_value l = value_size (parsed_value l.value.now)

abbrev pub decreases-push_items : goal.decreases-push_items
decreases-push_items l = suc (elements_size l.items.now)

abbrev pub decreases-push_pair : goal.decreases-push_pair
decreases-push_pair l = suc (value_size (parsed_value l.pair.now.value))

abbrev pub decreases-push_pairs : goal.decreases-push_pairs
decreases-push_pairs l = suc (assigned_size l.pairs.now)

abbrev pub invariant-push_items-loop-position : goal.invariant-push_items-loop-position
invariant-push_items-loop-position l = record {
  small : elements_size (drop l.position l.items) ≤ elements_size l.items;
  out : map mentioned l.out.items ++ elements_mentions (map step_of l.path) l.position (drop l.position l.items)
      ≡ map mentioned l.fn.out.items ++ elements_mentions (map step_of l.path) 0 l.items;
}

abbrev pub invariant-push_pairs-loop-pair : goal.invariant-push_pairs-loop-pair
invariant-push_pairs-loop-pair l = record {
  small : assigned_size (drop l.pair-index l.pairs) ≤ assigned_size l.pairs;
  out : map mentioned l.out.items ++ assigned_mentions (map step_of l.path) (drop l.pair-index l.pairs)
      ≡ map mentioned l.fn.out.items ++ assigned_mentions (map step_of l.path) l.pairs;
}
