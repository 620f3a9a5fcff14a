use Rattle.toml_span_lex.proofs.Common.{◌≡◌, [], into_iter_items}
use Rattle.toml_span.proofs.Finishing.{Filled, EntriesFilled}
use Rattle.toml_span.proofs.branch.+finish.Given as goal

abbrev pub invariant-into_table-loop-key : goal.invariant-into_table-loop-key
invariant-into_table-loop-key l = record {
  filled : Filled l.fn.tables.entries l.key-iterator l.fn.values.entries l.values.entries;
  bare : l.fn.tables.entries ≡ [] → l.key-iterator ≡ [];
}

abbrev pub invariant-into_array-loop-entry : goal.invariant-into_array-loop-entry
invariant-into_array-loop-entry l = record {
  can : goal.iterator-into_array-loop-entry.can_next l.entry-iterator;
  ends : goal.iterator-into_array-loop-entry.is_finite l.entry-iterator;
  filled : EntriesFilled l.fn.entries.items (into_iter_items l.entry-iterator) l.array.items;
}
