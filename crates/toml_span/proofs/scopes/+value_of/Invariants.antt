use Rattle.toml_span_lex.proofs.Common.{◌≡◌, ℕ, List, map, into_iter_items}
use Rattle.toml_span_read.specs.Borrowed.{assignments_written, joined, written, AreWrittenRight}
use Rattle.toml_span.specs.code.Borrowed.{own_elements, branch_strings}
use Rattle.toml_span.specs.code.Tree.{infos}
use Rattle.toml_span.specs.Borrowed.{AreBorrowedRight}
use Rattle.toml_span.proofs.Assignments.{Placing}
use Rattle.toml_span.proofs.Values.{Elements}
use Rattle.toml_span.proofs.scopes.+value_of.Given as goal

abbrev pub invariant-array_of-loop-element : goal.invariant-array_of-loop-element
invariant-array_of-loop-element l = record {
  can : goal.iterator-array_of-loop-element.can_next l.element-iterator;
  ends : goal.iterator-array_of-loop-element.is_finite l.element-iterator;
  borrows : (text : List ℕ) → AreWrittenRight text (joined (map written l.fn.elements.items))
      → AreWrittenRight text (joined (map written (into_iter_items l.element-iterator))) × AreBorrowedRight text (own_elements l.array.items);
  finished : Elements (into_iter_items l.element-iterator) l.fn.elements.items l.array.items;
}

abbrev pub invariant-place_pairs-loop-pair : goal.invariant-place_pairs-loop-pair
invariant-place_pairs-loop-pair l = record {
  can : goal.iterator-place_pairs-loop-pair.can_next l.pair-iterator;
  ends : goal.iterator-place_pairs-loop-pair.is_finite l.pair-iterator;
  borrows : (text : List ℕ) → AreWrittenRight text (assignments_written l.fn.pairs.items) → AreBorrowedRight text (branch_strings l.fn.node)
      → AreWrittenRight text (assignments_written (into_iter_items l.pair-iterator)) × AreBorrowedRight text (branch_strings l.node) × (infos l.node ≡ infos l.fn.node);
  placing : Placing l.node (into_iter_items l.pair-iterator) l.fn.node l.fn.pairs.items;
}
