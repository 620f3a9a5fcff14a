-- Values are read again from the texts that spell them.
use Rattle.toml_span_lex.proofs.Common.{◌≡◌, ℕ, ◌+◌, ◌-◌, ◌≤◌, List, [], ◌∷◌, length, arith, sym, refl, subst, slice_range, codes, nat_tests, common_steps}
use Rattle.toml_span_read.specs.Keys.{SpellsSimpleKey}
use Rattle.toml_span_read.specs.Data.{SimpleKey, ParsedValue, parsed, ParsedInner, scalar, array, inline, ParsedItems, no_items, item, ParsedPairs, no_pairs, pair, ParsedAssignment, parsed_span, ParsedSection, from_to, headerless_section}
use Rattle.toml_span_read.specs.Grammar.{Spells, SpellsDocument, InnerWith, ItemsWith, PairsWith, AssignmentsWith, SpellsScalar}
use Rattle.toml_span_laws.specs.Again.{moved, assigned_again, assignment_again, SpellsAgain, ReadsAgain, ScalarReadsAgain, AllReadAgain, InnerReadAgain, ItemsReadAgain, PairsReadAgain, AssignmentsReadAgain, SectionsReadAgain}
use Rattle.toml_span_read.proofs.SpanLaws.{value_lies}
use Rattle.toml_span_read.proofs.Moves.{Copied}
use Rattle.toml_span_laws.proofs.AgainValues.{value_copied}
use Rattle.toml_span_laws.proofs.Complete.{few}
use Rattle.toml_span_laws.proofs.SpelledLine.{assigned, document}
use Rattle.toml_span_lex.specs.declared.span.Span.{Span}
use Rattle.toml_span_tree.specs.Node.{Scalar, text as text_scalar, integer, float, boolean, datetime}
use Rattle.toml_span_laws.proofs.AscendLaws.{AreParsedSections, document_sections}
use Rattle.toml_span_laws.proofs.SpelledClaims.{some-part}

-- ---- the text

again_length : (text : List ℕ) (i j : ℕ) → i ≤ j → j ≤ length text → length (assigned_again text i j) ≡ (j + 4) - i
again_length text i j on within = grind (arith, nat_tests, common_steps)

again_copied : (text : List ℕ) (i j : ℕ) → i ≤ j → j ≤ length text → Copied text (assigned_again text i j) i 4 (length (assigned_again text i j)) 0
again_copied text i j on within = grind (arith, nat_tests, common_steps)

abbrev x_key : SimpleKey
x_key = record { name = codes "x"; span = record { start = 0; end = 1 } }

x_stands : (text : List ℕ) (i j : ℕ) → 4 ≤ length (assigned_again text i j) → SpellsSimpleKey x_key (assigned_again text i j) 0 1
x_stands text i j l = grind (arith, nat_tests, common_steps)

pub document_spelled : (v : ParsedValue) (text : List ℕ) (limit d i j : ℕ) → 1 ≤ d → Spells v text limit d i j → SpellsDocument (headerless_section (assignment_again v i j ∷ [])) (assigned_again text i j) limit
document_spelled v text limit d i j deep h =
    let lies = value_lies v text limit d i j h in
    let on = lies.1 in
    let n = again_length text i j on lies.2 in
    let least = few v text limit d i j h in
    let again = (value_copied (again_copied text i j on lies.2) v limit 1 d deep).to i j 4 (length (assigned_again text i j)) (record { after = omega arith; moved = omega arith; inside = omega arith }) (record { after = on; moved = omega arith; inside = omega arith }) h in
    let x = x_stands text i j (omega arith) in
    subst (λ (m : ℕ). SpellsDocument (headerless_section (record { parts = x_key ∷ []; value = moved i 4 v; extent = from_to 0 m } ∷ [])) (assigned_again text i j) limit) n
    (document x_key (moved i 4 v) (assigned_again text i j) limit 1 x (assigned (codes "x") (slice_range text i j) x_key (moved i 4 v) limit 1 4 refl refl (omega arith) (assigned_again text i j) refl x again))

-- ---- the values of a document

-- a value whose span is the text that spells it
pub at-span : (v : ParsedValue) (text : List ℕ) (limit d i j : ℕ) → 1 ≤ d → Spells v text limit d i j → parsed_span v ≡ from_to i j → ReadsAgain text limit v
at-span v text limit d i j deep h e = subst (λ (s : Span). SpellsAgain v text limit s.start s.end) (sym e) (document_spelled v text limit d i j deep h)

pub scalar-again : (s : Scalar) (span : Span) (text : List ℕ) (limit d i j : ℕ) → 1 ≤ d → Spells (parsed (scalar s) span) text limit d i j → ScalarReadsAgain text limit s span
scalar-again (text_scalar v) span text limit d i j deep h = tt
scalar-again (integer n) span text limit d i j deep h = at-span (parsed (scalar (integer n)) span) text limit d i j deep h h.1.2
scalar-again (float x) span text limit d i j deep h = at-span (parsed (scalar (float x)) span) text limit d i j deep h h.1.2
scalar-again (boolean b) span text limit d i j deep h = at-span (parsed (scalar (boolean b)) span) text limit d i j deep h h.1.1
scalar-again (datetime x) span text limit d i j deep h = at-span (parsed (scalar (datetime x)) span) text limit d i j deep h h.1.4

mutual
  value_again : (v : ParsedValue) (text : List ℕ) (limit d i j : ℕ) → 1 ≤ d → Spells v text limit d i j → AllReadAgain text limit v
  value_again (parsed x s) text limit d i j deep (few, h) = inner_again x s text limit d i j deep few h

  inner_again : (x : ParsedInner) (s : Span) (text : List ℕ) (limit d i j : ℕ) → 1 ≤ d → d ≤ limit → InnerWith SpellsScalar x s text limit d i j → InnerReadAgain text limit x s
  inner_again (scalar x) s text limit d i j deep few h = scalar-again x s text limit d i j deep (few, h)
  inner_again (array vs) s text limit d i j deep few (here, e, k, gap, h) =
      (at-span (parsed (array vs) s) text limit d i j deep (few, (here, e, k, gap, h)) e, items_again vs text limit (d + 1) k j (omega arith) h)
  inner_again (inline ps) s text limit d i j deep few (here, e, k, gap, h) =
      (at-span (parsed (inline ps) s) text limit d i j deep (few, (here, e, k, gap, h)) e, pairs_again ps [] text limit (d + 1) k j (omega arith) h)

  items_again : (vs : ParsedItems) (text : List ℕ) (limit d i j : ℕ) → 1 ≤ d → ItemsWith SpellsScalar vs text limit d i j → ItemsReadAgain text limit vs
  items_again no_items text limit d i j deep h = tt
  items_again (item v vs) text limit d i j deep h = grind (arith, nat_tests, common_steps, items_again vs, value_again v)

  pairs_again : (ps : ParsedPairs) (es : List ParsedAssignment) (text : List ℕ) (limit d i j : ℕ) → 1 ≤ d → PairsWith SpellsScalar ps es text limit d i j → PairsReadAgain text limit ps
  pairs_again no_pairs es text limit d i j deep h = tt
  pairs_again (pair ss v x ps) es text limit d i j deep h = grind (arith, nat_tests, common_steps, pairs_again ps, value_again v)

-- ---- documents

assignments_again : (evs earlier : List ParsedAssignment) (text : List ℕ) (limit i j : ℕ) → AssignmentsWith SpellsScalar evs earlier text limit i j → AssignmentsReadAgain text limit evs
assignments_again [] earlier text limit i j h = tt
assignments_again (ev ∷ evs) earlier text limit i j h = grind (arith, nat_tests, common_steps, assignments_again evs, some-part, value_again)

sections_again : (bs : List ParsedSection) (text : List ℕ) (limit i n : ℕ) → AreParsedSections bs text limit i n → SectionsReadAgain text limit bs
sections_again [] text limit i n h = tt
sections_again (b ∷ bs) text limit i n (s, k, j, header, few, plain, on, lines, rest) = (assignments_again b.assignments [] text limit k j lines, sections_again bs text limit j n rest)

pub parsed_sections_again : (bs : List ParsedSection) (text : List ℕ) (limit : ℕ) → SpellsDocument bs text limit → SectionsReadAgain text limit bs
parsed_sections_again bs text limit h = sections_again bs text limit 0 (length text) (document_sections bs text limit h)
