use Rattle.toml_span_lex.proofs.Common.{◌≡◌, ◌≤◌, ◌++◌, suc, drop, map}
use Rattle.toml_span_read.specs.Data.{no_items, onto, parsed_value}
use Rattle.toml_span_places.specs.Newer.{items_forms}
use Rattle.toml_span_places.proofs.Uses.{assigned_forms}
use Rattle.toml_span_places.proofs.ValueSizes.{assigned_size, elements_size, value_size}
use Rattle.toml_span_places.proofs.newer.+push_value.Given as goal

abbrev pub decreases-push_value : goal.decreases-push_value
decreases-push_value l = value_size (parsed_value l.value.now)

abbrev pub decreases-push_items : goal.decreases-push_items
decreases-push_items l = suc (elements_size l.items.now)

abbrev pub decreases-push_pair : goal.decreases-push_pair
decreases-push_pair l = suc (value_size (parsed_value l.pair.now.value))

abbrev pub decreases-push_pairs : goal.decreases-push_pairs
decreases-push_pairs l = suc (assigned_size l.pairs.now)

abbrev pub invariant-push_items-loop-item : goal.invariant-push_items-loop-item
invariant-push_items-loop-item l = record {
  small : elements_size (drop l.item-index l.items) ≤ elements_size l.items;
  out : l.out.items ++ items_forms l.text (onto (map parsed_value (drop l.item-index l.items)) no_items)
      ≡ l.fn.out.items ++ items_forms l.text (onto (map parsed_value l.items) no_items);
}

abbrev pub invariant-push_pairs-loop-position : goal.invariant-push_pairs-loop-position
invariant-push_pairs-loop-position l = record {
  small : assigned_size (drop l.position l.pairs) ≤ assigned_size l.pairs;
  out : l.out.items ++ assigned_forms l.text (drop l.position l.pairs)
      ≡ l.fn.out.items ++ assigned_forms l.text l.pairs;
}
