-- An allocation can fail only if there is something to store.
use Rattle.toml_span_lex.proofs.Common.{common_steps, nat_tests, ◌≡◌, ℕ, ◌<◌, ◌≤◌, List, [], ◌∷◌, ◌++◌, length, arith, Err, Some}
use Rattle.toml_span_lex.specs.declared.stop.Stop.{Stop}
use Rattle.toml_span_lex.specs.Text.{FirstPlace}
use Rattle.toml_span_read.specs.declared.section.Section.{Section}
use Rattle.toml_span_read.specs.Data.{ParsedAssignment, headerless_section, SimpleKey}
use Rattle.toml_span_read.specs.Gaps.{MaximalGap}
use Rattle.toml_span_read.specs.Keys.{SpellsKey}
use Rattle.toml_span_read.specs.Grammar.{SpellsLines, AssignmentWith, AssignmentsWith, SpellsScalar}
use Rattle.toml_span_read.specs.code.Sections.{first_sections}
use Rattle.toml_span_read.specs.Reading.{AllocatesOnlyAfterGap}
use Rattle.toml_span_read.proofs.InsideLemmas.{ascend_forward, tail_inside}
use Rattle.toml_span_read.proofs.KeyOrder.{dotted_ascend}
use Rattle.toml_span_read.proofs.SpanLaws.{value_lies}

-- From i on there is something other than comments and blank lines.
abbrev pub HoldsForm : List ℕ → ℕ → Type 0
HoldsForm text i = (k : ℕ) × MaximalGap text i k × (k < length text)

-- a key begins before the end of the text
key_within : (ps : List SimpleKey) (text : List ℕ) (i j : ℕ) → SpellsKey ps text i j → (i < length text) × (i ≤ j)
key_within ps text i j h = grind (arith, dotted_ascend, ascend_forward)

assignment_forward : (e : ParsedAssignment) (text : List ℕ) (limit i m : ℕ) → AssignmentWith SpellsScalar e text limit i m → i ≤ m
assignment_forward e text limit i m h = grind (arith, key_within, value_lies)

assignments_forward : (es before : List ParsedAssignment) (text : List ℕ) (limit i j : ℕ) → AssignmentsWith SpellsScalar es before text limit i j → i ≤ j
assignments_forward [] before text limit i j h = omega (arith, h)
assignments_forward (e ∷ es) before text limit i j (m, n, k, h, t, c, g, r) =
    omega (arith, assignment_forward e text limit i m h, (tail_inside text m n t).0, g.forward, assignments_forward es (before ++ (e ∷ [])) text limit k j r)

-- the gap at the start of the text ends at or before an offset
abbrev pub Begun : List ℕ → ℕ → Type 0
Begun text at = (start k : ℕ) × FirstPlace text start × MaximalGap text start k × (k ≤ at)

pub begun_by_lines : (es : List ParsedAssignment) (text : List ℕ) (limit start at : ℕ) → FirstPlace text start → SpellsLines es text limit start at → Begun text at
begun_by_lines es text limit start at first (k, g, h) = (start, k, first, g, assignments_forward es [] text limit k at h)

pub begun_on : (text : List ℕ) (at next : ℕ) → Begun text at → at ≤ next → Begun text next
begun_on text at next (start, k, first, g, l) on = (start, k, first, g, omega (arith, l, on))

pub keeps : (A E : Type 0) → (stop : Stop E) (text : List ℕ) (at : ℕ) → Begun text at → at < length text
    → (start : ℕ) × FirstPlace text start × AllocatesOnlyAfterGap {A = A} {E = E} text start (Err stop)
keeps A E stop text at h under = grind (arith)

-- whatever is not read since an allocation failed
pub forms_keep : {E : Type 0} (A : Type 0) (stop : Stop E) (text : List ℕ) (i : ℕ) → HoldsForm text i → AllocatesOnlyAfterGap {A = A} {E = E} text i (Err stop)
forms_keep A stop text i h = grind (arith, nat_tests, common_steps)

pub keeps_same : {E : Type 0} (A B : Type 0) (stop : Stop E) (text : List ℕ) → (start : ℕ) × FirstPlace text start × AllocatesOnlyAfterGap {A = A} {E = E} text start (Err stop)
    → (start : ℕ) × FirstPlace text start × AllocatesOnlyAfterGap {A = B} {E = E} text start (Err stop)
keeps_same A B stop text start = grind (arith)

-- assignments before the first header are something to store
pub lines_keep : (s : Section) (es : List ParsedAssignment) (text : List ℕ) (limit start at : ℕ) → first_sections (Some s) ≡ headerless_section es → FirstPlace text start
    → SpellsLines es text limit start at → (i : ℕ) × FirstPlace text i × HoldsForm text i
lines_keep s es text limit start at is first h = grind (arith, key_within)
