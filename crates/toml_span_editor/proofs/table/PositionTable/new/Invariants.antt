use Rattle.toml_span_lex.proofs.Common.{◌≡◌, ◌*◌, ◌<◌, ◌≤◌, ℕ, length, slice_index_or}
use Rattle.toml_span_editor.specs.declared.positions.Position.{Position}
use Rattle.toml_span_editor.specs.Positions.{position_of}
use Rattle.toml_span_editor.proofs.table.PositionTable.new.Given as goal

abbrev pub invariant-loop-k : goal.invariant-loop-k
invariant-loop-k l = record {
  before : l.from ≤ l.k * 16;
  count : length l.marks.items ≡ l.k;
  here : l.position ≡ position_of l.encoding l.text l.from;
  marked : (k : ℕ) (d : Position) → k < length l.marks.items
      → slice_index_or l.marks.items k d ≡ position_of l.encoding l.text (k * 16);
}
