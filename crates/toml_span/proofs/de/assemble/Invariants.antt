use Rattle.toml_span_lex.proofs.Common.{◌≡◌, ◌-◌, ◌⊎◌, length, get_or, IsCharBoundary}
use Rattle.toml_span_read.proofs.MemoryLemmas.{Begun}
use Rattle.toml_span.proofs.AssemblyLemmas.{Assembling}
use Rattle.toml_span.proofs.de.assemble.Given as goal

-- the tree of the sections so far; what is read after them completes the document
abbrev pub invariant-sections : goal.invariant-sections
invariant-sections l = record {
  boundary : IsCharBoundary l.text l.at;
  begun : Begun l.text l.at;
  header : (l.at ≡ length l.text) ⊎ (get_or l.text l.at 0 ≡ 91);
  assembling : Assembling l.text l.limit l.at l.assembly;
}

abbrev pub decreases-sections : goal.decreases-sections
decreases-sections l = length l.text - l.at
