use Rattle.toml_span_lex.proofs.Common.{◌≡◌, ◌-◌, ◌⊎◌, length, map, get_or, IsCharBoundary}
use Rattle.toml_span_read.specs.Borrowed.{AreWrittenRight, sections_written}
use Rattle.toml_span_read.specs.Data.{parsed_section}
use Rattle.toml_span_read.proofs.LineRead.{DocumentFrom}
use Rattle.toml_span_read.proofs.MemoryLemmas.{Begun}
use Rattle.toml_span_read.proofs.sections.sections.Given as goal

-- what is read after the sections so far completes the document
abbrev pub invariant-sections : goal.invariant-sections
invariant-sections l = record {
  boundary : IsCharBoundary l.text l.at;
  begun : Begun l.text l.at;
  header : (l.at ≡ length l.text) ⊎ (get_or l.text l.at 0 ≡ 91);
  borrows : AreWrittenRight l.text (sections_written l.found.items);
  whole : DocumentFrom l.text l.limit (map parsed_section l.found.items) l.at;
}

abbrev pub decreases-sections : goal.decreases-sections
decreases-sections l = length l.text - l.at
