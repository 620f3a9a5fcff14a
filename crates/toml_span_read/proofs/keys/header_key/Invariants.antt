use Rattle.toml_span_lex.proofs.Common.{◌≤◌, ◌-◌, true, length, IsCharBoundary}
use Rattle.toml_span_read.specs.Borrowed.{AreWrittenRight, keys_written}
use Rattle.toml_span_read.proofs.KeyLemmas.{AfterElement}
use Rattle.toml_span_read.proofs.keys.header_key.Given as goal

-- what is read from here on completes what is read from the start
abbrev pub invariant-parts : goal.invariant-parts
invariant-parts l = record {
  forward : l.at ≤ l.next;
  boundary : IsCharBoundary l.text l.next;
  borrows : AreWrittenRight l.text (keys_written l.parts.items);
  few : length l.parts.items ≤ l.limit;
  after : AfterElement true l.text l.limit l.at l.parts.items l.next;
}

abbrev pub decreases-parts : goal.decreases-parts
decreases-parts l = length l.text - l.next
