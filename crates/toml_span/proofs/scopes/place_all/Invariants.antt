use Rattle.toml_span_lex.proofs.Common.{◌≡◌, ℕ, List}
use Rattle.toml_span_read.specs.Borrowed.{assignments_written, AreWrittenRight}
use Rattle.toml_span.specs.code.Borrowed.{branch_strings}
use Rattle.toml_span.specs.code.Tree.{infos}
use Rattle.toml_span.specs.Borrowed.{AreBorrowedRight}
use Rattle.toml_span.proofs.Assignments.{Placing}
use Rattle.toml_span.proofs.scopes.place_all.Given as goal

abbrev pub invariant-loop-pair : goal.invariant-loop-pair
invariant-loop-pair l = record {
  borrows : (text : List ℕ) → AreWrittenRight text (assignments_written l.fn.pairs.items) → AreBorrowedRight text (branch_strings l.fn.node)
      → AreWrittenRight text (assignments_written l.pair-iterator) × AreBorrowedRight text (branch_strings l.node) × (infos l.node ≡ infos l.fn.node);
  placing : Placing l.node l.pair-iterator l.fn.node l.fn.pairs.items;
}
