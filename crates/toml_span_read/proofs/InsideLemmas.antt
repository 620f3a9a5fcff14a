-- The keys and headers of a spelled document are inside the text.
use Rattle.toml_span_lex.proofs.Common.{common_steps, nat_tests, ◌≡◌, ℕ, ◌+◌, ◌<◌, ◌≤◌, Bool, List, [], ◌∷◌, ◌++◌, length, map, arith, inl, inr}
use Rattle.toml_span_read.specs.declared.section.Section.{Section}
use Rattle.toml_span_read.specs.Data.{ParsedValue, parsed, scalar, array, inline, ParsedItems, no_items, item, ParsedPairs, no_pairs, pair, ParsedAssignment, ParsedSection, parsed_section, headerless_section, SimpleKey}
use Rattle.toml_span_read.specs.Gaps.{Tail}
use Rattle.toml_span_read.specs.Grammar.{Spells, SpellsLines, OpensHeader, ClosesHeader, SpellsHeader, SpellsSection, SpellsDocument, ItemsWith, PairsWith, AssignmentsWith, SectionsWith, SpellsScalar}
use Rattle.toml_span_read.specs.Keys.{SpellsKey}
use Rattle.toml_span_read.specs.Places.{Ascend, IsInside, PartsInside, KeysInside, ItemKeysInside, PairKeysInside, AssignmentsInside, SectionInside, SectionsInside}
use Rattle.toml_span_read.proofs.KeyOrder.{dotted_ascend}

-- ---- keys

pub ascend_forward : (ps : List SimpleKey) (i j : ℕ) → Ascend ps i j → i ≤ j
ascend_forward [] i j h = h
ascend_forward (p ∷ ps) i j (a, b, rest) = omega (arith, a, b, ascend_forward ps p.span.end j rest)

ascend_inside : (ps : List SimpleKey) (n i j : ℕ) → j ≤ n → Ascend ps i j → PartsInside n ps
ascend_inside [] n i j l h = tt
ascend_inside (p ∷ ps) n i j l h = grind (arith, ascend_forward ps p.span.end j, ascend_inside ps n p.span.end j)

dotted_inside : (ps : List SimpleKey) (text : List ℕ) (i j : ℕ) → SpellsKey ps text i j → PartsInside (length text) ps
dotted_inside ps text i j h = let f = dotted_ascend ps text i j h in ascend_inside ps (length text) i j f.1 f.0

-- ---- values

mutual
  value_keys : (v : ParsedValue) (text : List ℕ) (limit d i j : ℕ) → Spells v text limit d i j → KeysInside (length text) v
  value_keys (parsed (scalar s) span) text limit d i j h = tt
  value_keys (parsed (array vs) span) text limit d i j (l, (here, e, k, gap, items)) = items_keys vs text limit (d + 1) k j items
  value_keys (parsed (inline ps) span) text limit d i j (l, (here, e, k, gap, pairs)) = pairs_keys ps [] text limit (d + 1) k j pairs

  items_keys : (vs : ParsedItems) (text : List ℕ) (limit d i j : ℕ) → ItemsWith SpellsScalar vs text limit d i j → ItemKeysInside (length text) vs
  items_keys no_items text limit d i j h = tt
  items_keys (item v vs) text limit d i j (m, s, inl (e, close)) = (value_keys v text limit d i m s, rw e tt)
  items_keys (item v vs) text limit d i j (m, s, inr (p, sign, rest)) = (value_keys v text limit d i m s, items_keys vs text limit d p j rest)

  pairs_keys : (ps : ParsedPairs) (es : List ParsedAssignment) (text : List ℕ) (limit d i j : ℕ) → PairsWith SpellsScalar ps es text limit d i j → PairKeysInside (length text) ps
  pairs_keys no_pairs es text limit d i j h = tt
  pairs_keys (pair ss v extent ps) es text limit d i j (m, (a, b, key, few, sign, s, e), clear, inl (none, close)) =
      (dotted_inside ss text i a key, value_keys v text limit (d + length ss) b m s, rw none tt)
  pairs_keys (pair ss v extent ps) es text limit d i j (m, (a, b, key, few, sign, s, e), clear, inr (p, comma, rest)) =
      (dotted_inside ss text i a key, value_keys v text limit (d + length ss) b m s, pairs_keys ps (es ++ (record { parts = ss; value = v; extent = extent } ∷ [])) text limit d p j rest)

-- ---- assignments

assignments_keys : (evs earlier : List ParsedAssignment) (text : List ℕ) (limit i j : ℕ) → AssignmentsWith SpellsScalar evs earlier text limit i j → AssignmentsInside (length text) evs
assignments_keys [] earlier text limit i j h = tt
assignments_keys (ev ∷ evs) earlier text limit i j h = grind (arith, dotted_inside, value_keys, assignments_keys evs (earlier ++ (ev ∷ [])))

lines_keys : (evs : List ParsedAssignment) (text : List ℕ) (limit i j : ℕ) → SpellsLines evs text limit i j → AssignmentsInside (length text) evs
lines_keys evs text limit i j (k, gap, h) = assignments_keys evs [] text limit k j h

-- ---- sections

-- a block's header with its parts, and the keys of its assignments
abbrev ParsedSectionInside : ℕ → ParsedSection → Type 0
ParsedSectionInside n b = IsInside n b.header_span × PartsInside n b.header × AssignmentsInside n b.assignments

abbrev ParsedSectionsInside : ℕ → List ParsedSection → Type 0
ParsedSectionsInside n [] = Unit {0}
ParsedSectionsInside n (b ∷ bs) = ParsedSectionInside n b × ParsedSectionsInside n bs

pub opens_on : (double : Bool) (text : List ℕ) (i j : ℕ) → OpensHeader double text i j → i < j
opens_on double text i j h = grind (arith, nat_tests, common_steps)

pub shuts_on : (double : Bool) (text : List ℕ) (i j : ℕ) → ClosesHeader double text i j → i < j
shuts_on double text i j h = grind (arith, nat_tests, common_steps)

pub tail_inside : (text : List ℕ) (i j : ℕ) → Tail text i j → (i ≤ j) × (j ≤ length text)
tail_inside text i j h = grind (arith, nat_tests, common_steps)

header_inside : (ps : List SimpleKey) (double : Bool) (text : List ℕ) (limit i j : ℕ) → SpellsHeader ps double text limit i j → ((i ≤ j) × (j ≤ length text)) × PartsInside (length text) ps
header_inside ps double text limit i j h = grind (arith, nat_tests, common_steps, tail_inside, dotted_ascend, ascend_forward, opens_on, shuts_on, dotted_inside)

one_section_parsed : (b : ParsedSection) (text : List ℕ) (limit i j : ℕ) → SpellsSection b text limit i j → ParsedSectionInside (length text) b
one_section_parsed b text limit i j h =
    let f = header_inside b.header b.array text limit i h.end h.header in
    (rw h.header_span f.0, f.1, lines_keys b.assignments text limit h.end j h.lines)

sections_parsed : (bs : List ParsedSection) (text : List ℕ) (limit i : ℕ) → SectionsWith SpellsScalar bs text limit i → ParsedSectionsInside (length text) bs
sections_parsed [] text limit i h = tt
sections_parsed (b ∷ bs) text limit i (j, s, rest) = (one_section_parsed b text limit i j s, sections_parsed bs text limit j rest)

first_inside : (n : ℕ) (evs : List ParsedAssignment) (bs : List ParsedSection) → AssignmentsInside n evs → ParsedSectionsInside n bs → ParsedSectionsInside n (headerless_section evs ++ bs)
first_inside n evs bs h g = grind (arith, nat_tests, common_steps)

document_sections : (bs : List ParsedSection) (text : List ℕ) (limit : ℕ) → SpellsDocument bs text limit → ParsedSectionsInside (length text) bs
document_sections bs text limit h =
    rw h.all (first_inside (length text) h.first h.rest (lines_keys h.first text limit h.start h.end h.lines) (sections_parsed h.rest text limit h.end h.sections))

of_sections : (n : ℕ) (ss : List Section) → ParsedSectionsInside n (map parsed_section ss) → SectionsInside n ss
of_sections n [] h = tt
of_sections n (s ∷ ss) (a, rest) = (a, of_sections n ss rest)

pub section_inside : (s : Section) (text : List ℕ) (limit i j : ℕ) → SpellsSection (parsed_section s) text limit i j → SectionInside (length text) s
section_inside s text limit i j h = one_section_parsed (parsed_section s) text limit i j h

before_inside : (n : ℕ) (evs : List ParsedAssignment) → AssignmentsInside n evs → ParsedSectionsInside n (headerless_section evs)
before_inside n evs h = grind (arith)

pub first_sections_inside : (ss : List Section) (evs : List ParsedAssignment) (text : List ℕ) (limit i j : ℕ) → SpellsLines evs text limit i j → map parsed_section ss ≡ headerless_section evs → SectionsInside (length text) ss
first_sections_inside ss evs text limit i j h is = of_sections (length text) ss (rw is (before_inside (length text) evs (lines_keys evs text limit i j h)))

pub document_inside : (ss : List Section) (text : List ℕ) (limit : ℕ) → SpellsDocument (map parsed_section ss) text limit → SectionsInside (length text) ss
document_inside ss text limit h = of_sections (length text) ss (document_sections (map parsed_section ss) text limit h)
