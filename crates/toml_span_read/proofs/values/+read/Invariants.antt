use Rattle.toml_span_lex.proofs.Common.{◌<◌, ◌+◌, ◌-◌, ◌*◌, length, map, IsCharBoundary}
use Rattle.toml_span_read.specs.Data.{parsed_value, parsed_assignment}
use Rattle.toml_span_read.specs.Borrowed.{AreWrittenRight, joined, written, assignments_written}
use Rattle.toml_span_read.specs.code.Earlier.{Knows}
use Rattle.toml_span_read.proofs.ValueRead.{ArrayFrom, TableFrom}
use Rattle.toml_span_read.proofs.values.+read.Given as goal

abbrev pub decreases-value : goal.decreases-value
decreases-value l = 3 * ((l.limit + 1) - l.depth) + 2

abbrev pub decreases-array : goal.decreases-array
decreases-array l = 3 * ((l.limit + 1) - l.depth) + 1

abbrev pub decreases-inline_table : goal.decreases-inline_table
decreases-inline_table l = 3 * ((l.limit + 1) - l.depth) + 1

abbrev pub decreases-pair : goal.decreases-pair
decreases-pair l = 3 * ((l.limit + 2) - l.depth)

-- what is read from here on completes the array, or the inline table
abbrev pub invariant-array-items : goal.invariant-array-items
invariant-array-items l = record {
  forward : l.at < l.next;
  boundary : IsCharBoundary l.text l.next;
  borrows : AreWrittenRight l.text (joined (map written l.items.items));
  from : ArrayFrom l.text l.limit l.depth l.at (map parsed_value l.items.items) l.next;
}

abbrev pub decreases-array-items : goal.decreases-array-items
decreases-array-items l = length l.text - l.next

abbrev pub invariant-inline_table-pairs : goal.invariant-inline_table-pairs
invariant-inline_table-pairs l = record {
  forward : l.at < l.next;
  boundary : IsCharBoundary l.text l.next;
  borrows : AreWrittenRight l.text (assignments_written l.pairs.items);
  knows : Knows l.earlier (map parsed_assignment l.pairs.items);
  from : TableFrom l.text l.limit l.depth l.at (map parsed_assignment l.pairs.items) l.next;
}

abbrev pub decreases-inline_table-pairs : goal.decreases-inline_table-pairs
decreases-inline_table-pairs l = length l.text - l.next
