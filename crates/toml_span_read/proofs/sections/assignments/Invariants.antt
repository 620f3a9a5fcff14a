use Rattle.toml_span_lex.proofs.Common.{ℕ, ◌≤◌, ◌-◌, length, map, IsCharBoundary}
use Rattle.toml_span_read.specs.Borrowed.{AreWrittenRight, assignments_written}
use Rattle.toml_span_read.specs.Data.{parsed_assignment}
use Rattle.toml_span_read.specs.code.Earlier.{Knows}
use Rattle.toml_span_read.specs.Gaps.{MaximalGap}
use Rattle.toml_span_read.proofs.LineRead.{LinesFrom}
use Rattle.toml_span_read.proofs.sections.assignments.Given as goal

-- what is read after the assignments so far completes what is read from the first line on
abbrev pub invariant-lines : goal.invariant-lines
invariant-lines l = record {
  forward : l.from ≤ l.at;
  begun : (k : ℕ) × MaximalGap l.text l.from k × (k ≤ l.at);
  boundary : IsCharBoundary l.text l.at;
  borrows : AreWrittenRight l.text (assignments_written l.found.items);
  knows : Knows l.earlier (map parsed_assignment l.found.items);
  whole : LinesFrom l.text l.limit l.from (map parsed_assignment l.found.items) l.at;
}

abbrev pub decreases-lines : goal.decreases-lines
decreases-lines l = length l.text - l.at
