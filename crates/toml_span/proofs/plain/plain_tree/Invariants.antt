use Rattle.toml_span_lex.proofs.Common.{◌≡◌, ◌-◌, ◌⊎◌, length, get_or, IsCharBoundary}
use Rattle.toml_span.proofs.RootTable.{Growing}
use Rattle.toml_span.proofs.plain.plain_tree.Given as goal

-- the sections up to here have been read and placed; what is read after them completes the document
abbrev pub invariant-sections : goal.invariant-sections
invariant-sections l = record {
  boundary : IsCharBoundary l.text l.at;
  header : (l.at ≡ length l.text) ⊎ (get_or l.text l.at 0 ≡ 91);
  growing : Growing l.text l.limit l.at l.root;
}

abbrev pub decreases-sections : goal.decreases-sections
decreases-sections l = length l.text - l.at
