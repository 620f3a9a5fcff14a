-- In a text that spells a document, its headers, keys and values follow each other, and their starts ascend.
use Rattle.toml_span_lex.proofs.Common.{◌≡◌, ◌⊎◌, inl, inr, refl, ℕ, ◌+◌, ◌≤◌, Bool, false, List, [], ◌∷◌, ◌++◌, length, arith, zero, suc, ◌<◌, get_or, IsStrictlyIncreasing, nat_tests, common_steps}
use Rattle.toml_span_read.specs.Data.{ParsedAssignment, ParsedSection, ParsedValue, parsed, scalar, array, inline, ParsedItems, no_items, item, ParsedPairs, no_pairs, pair, last_end, headerless_section, SimpleKey}
use Rattle.toml_span_read.specs.Places.{Ascend}
use Rattle.toml_span_read.specs.Grammar.{SpellsHeader, SpellsDocument, Spells, AssignmentsWith, SectionsWith, ItemsWith, PairsWith, SpellsScalar}
use Rattle.toml_span_laws.specs.Places.{AssignmentsAscend, SectionsAscend, part_starts, key_starts, item_key_starts, pair_key_starts, assignment_key_starts, section_key_starts, starts, item_starts, pair_starts, assignment_starts, header_starts, section_starts}
use Rattle.toml_span_read.proofs.InsideLemmas.{tail_inside, opens_on, shuts_on}
use Rattle.toml_span_read.proofs.KeyOrder.{dotted_ascend}
use Rattle.toml_span_read.proofs.SpanLaws.{value_lies}
use Rattle.toml_span.proofs.Refusals.{some_part}
use Rattle.toml_span_lex.specs.declared.span.Span.{Span}

ascend_wide : (ps : List SimpleKey) (h i j k : ℕ) → h ≤ i → j ≤ k → Ascend ps i j → Ascend ps h k
ascend_wide [] h i j k a b x = omega (arith, a, b, x)
ascend_wide (p ∷ ps) h i j k a b (x, y, z) = (omega (arith, a, x), y, ascend_wide ps p.span.end p.span.end j k (omega arith) b z)

-- the assignments from i on, which begin at n or after it
assignments_ascend : (es before : List ParsedAssignment) (text : List ℕ) (limit n i j : ℕ) → n ≤ i → AssignmentsWith SpellsScalar es before text limit i j → AssignmentsAscend es n (last_end n es) × (last_end n es ≤ j)
assignments_ascend [] before text limit n i j l h = (omega arith, omega (arith, l, h))
assignments_ascend (e ∷ es) before text limit n i j l (m, q, k, h, t, c, g, r) =
    let a = dotted_ascend e.parts text i h.key_end h.key in
    let v = value_lies e.value text limit (length e.parts) h.from m h.spelled in
    let s : h.key_end ≤ h.from = omega (arith, h.sign.before.forward, h.sign.after.forward) in
    let f : m ≤ k = omega (arith, (tail_inside text m q t).0, g.forward) in
    let more = assignments_ascend es (before ++ (e ∷ [])) text limit m k j f r in
    rw h.extent ((l, h.from, ascend_wide e.parts i i h.key_end h.from (omega arith) s a.0, v.0, more.0), more.1)

header_ascend : (ps : List SimpleKey) (many : Bool) (text : List ℕ) (limit i j : ℕ) → SpellsHeader ps many text limit i j → Ascend ps (i + 1) j
header_ascend ps many text limit i j h =
    let f = h.front in
    ascend_wide ps (i + 1) f.start f.end j (omega (arith, opens_on many text i f.inside f.opens, f.before.forward))
    (omega (arith, f.after.forward, shuts_on many text h.close h.end h.shuts, (tail_inside text h.end j h.rest).0)) (dotted_ascend ps text f.start f.end f.key).0

sections_ascend : (bs : List ParsedSection) (text : List ℕ) (limit n i : ℕ) → n ≤ i → SectionsWith SpellsScalar bs text limit i → SectionsAscend bs n (length text)
sections_ascend [] text limit n i l h = omega (arith, l, h)
sections_ascend (b ∷ bs) text limit n i l (j, s, r) =
    let e = assignments_ascend b.assignments [] text limit s.end s.lines.0 j (s.lines.1.forward) s.lines.2 in
    rw (s.header_span, s.extent) (l, ascend_wide b.header i (i + 1) s.end s.end (omega arith) (omega arith) (header_ascend b.header b.array text limit i s.end s.header), e.0, sections_ascend bs text limit (last_end s.end b.assignments) j e.1 r)

first_ascend : (es : List ParsedAssignment) (text : List ℕ) (limit k i j : ℕ) (bs : List ParsedSection) → AssignmentsWith SpellsScalar es [] text limit k j → SectionsWith SpellsScalar bs text limit j → SectionsAscend (headerless_section es ++ bs) 0 (length text)
first_ascend [] text limit k i j bs h r = sections_ascend bs text limit 0 j (omega arith) r
first_ascend (e ∷ es) text limit k i j bs h r =
    grind (arith, nat_tests, common_steps, assignments_ascend (e ∷ es) [] text limit 0 k j (omega arith) h, sections_ascend bs text limit (last_end e.extent.end es) j)

pub document_ascends : (bs : List ParsedSection) (text : List ℕ) (limit : ℕ) → SpellsDocument bs text limit → SectionsAscend bs 0 (length text)
document_ascends bs text limit x = rw x.all (first_ascend x.first text limit x.lines.0 x.start x.end x.rest x.lines.2 x.sections)

-- ---- the sections of a document, with and without a header

-- the parts of a header, after its bracket; or none
abbrev pub HeaderFrom : ParsedSection → ℕ → ℕ → Type 0
HeaderFrom b i j = ((b.header ≡ []) × (i ≤ j)) ⊎ ((i ≤ b.header_span.start) × Ascend b.header (b.header_span.start + 1) j)

pub header_from : (b : ParsedSection) (i j : ℕ) → HeaderFrom b i j → Ascend b.header i j
header_from b i j h = elim h [ inl (none, on) ↦ rw none on | inr (on, a) ↦ ascend_wide b.header i (b.header_span.start + 1) j j (omega (arith, on)) (omega arith) a ]

-- Between i and n there are these sections: each has its header, if it has one, and assignments.
abbrev pub AreParsedSections : List ParsedSection → List ℕ → ℕ → ℕ → ℕ → Type 0
AreParsedSections [] text limit i n = i ≤ n
AreParsedSections (b ∷ bs) text limit i n =
    (s k j : ℕ) × HeaderFrom b i s × (length b.header ≤ limit) × (b.header ≡ [] → b.array ≡ false) × (s ≤ k) × AssignmentsWith SpellsScalar b.assignments [] text limit k j × AreParsedSections bs text limit j n

section_parsed : (bs : List ParsedSection) (text : List ℕ) (limit h i : ℕ) → h ≤ i → SectionsWith SpellsScalar bs text limit i → AreParsedSections bs text limit h (length text)
section_parsed [] text limit h i l x = omega (arith, l, x)
section_parsed (b ∷ bs) text limit h i l (j, s, rest) = (
  s.end,
  s.lines.0,
  j,
  inr (rw s.header_span (l, header_ascend b.header b.array text limit i s.end s.header)),
  s.header.front.few,
  some_part b.array text s.header.front.start s.header.front.end b.header s.header.front.key,
  s.lines.1.forward,
  s.lines.2,
  section_parsed bs text limit j j (omega arith) rest,
)

-- the assignments before the first header, and sections from j on
pub first_sections : (es : List ParsedAssignment) (bs : List ParsedSection) (text : List ℕ) (limit i j n : ℕ) → AssignmentsWith SpellsScalar es [] text limit i j → ((h : ℕ) → h ≤ j → AreParsedSections bs text limit h n) → AreParsedSections (headerless_section es ++ bs) text limit 0 n
first_sections [] bs text limit i j n h rest = rest 0 (omega arith)
first_sections (e ∷ es) bs text limit i j n h rest = (0, i, j, inl (refl, omega arith), omega arith, (λ none. refl), omega arith, h, rest j (omega arith))

pub document_sections : (bs : List ParsedSection) (text : List ℕ) (limit : ℕ) → SpellsDocument bs text limit → AreParsedSections bs text limit 0 (length text)
document_sections bs text limit x = rw x.all (first_sections x.first x.rest text limit x.lines.0 x.end (length text) x.lines.2 (λ h l. section_parsed x.rest text limit h x.end l x.sections))

-- ---- the starts of headers, keys, arrays and inline tables

-- between i and j (exclusive) the numbers ascend
abbrev pub Rising : List ℕ → ℕ → ℕ → Type 0
Rising [] i j = i ≤ j
Rising (n ∷ ns) i j = (i ≤ n) × Rising ns (n + 1) j

pub rising_wide : (ns : List ℕ) (h i j k : ℕ) → h ≤ i → j ≤ k → Rising ns i j → Rising ns h k
rising_wide [] h i j k a b r = omega (arith, a, b, r)
rising_wide (n ∷ ns) h i j k a b (x, r) = (omega arith, rising_wide ns (n + 1) (n + 1) j k (omega arith) b r)

pub rising_on : (ns ms : List ℕ) (i j k : ℕ) → Rising ns i j → Rising ms j k → Rising (ns ++ ms) i k
rising_on [] ms i j k r s = rising_wide ms i j k k r (omega arith) s
rising_on (n ∷ ns) ms i j k (x, r) s = (x, rising_on ns ms (n + 1) j k r s)

rises_at : (ns : List ℕ) (i j k l : ℕ) → Rising ns i j → l ≡ suc k → l < length ns → get_or ns k 0 < get_or ns l 0
rises_at [] i j k l r e w = absurd (omega (arith, w))
rises_at (n ∷ []) i j k l r e w = absurd (omega (arith, e, w))
rises_at (n ∷ m ∷ ns) i j zero l r e w = rw e (omega (arith, r.1.0))
rises_at (n ∷ m ∷ ns) i j (suc k) l r e w = rw e (rises_at (m ∷ ns) (n + 1) j k (suc k) r.1 refl (omega (arith, e, w)))

rising_increases : (ns : List ℕ) (i j : ℕ) → Rising ns i j → IsStrictlyIncreasing ns
rising_increases ns i j r k l = rises_at ns i j k (k + 1) r (omega arith) l

-- ---- keys

parts_rise : (ps : List SimpleKey) (i j : ℕ) → Ascend ps i j → Rising (part_starts ps) i j
parts_rise [] i j h = h
parts_rise (p ∷ ps) i j (a, b, rest) = (a, rising_wide (part_starts ps) (p.span.start + 1) p.span.end j j (omega arith) (omega arith) (parts_rise ps p.span.end j rest))

-- ---- keys and brackets

mutual
  starts_rise : (v : ParsedValue) (text : List ℕ) (limit d i j : ℕ) → Spells v text limit d i j → Rising (starts v) i j
  starts_rise (parsed (scalar y) s) text limit d i j h = (value_lies (parsed (scalar y) s) text limit d i j h).1
  starts_rise (parsed (array vs) s) text limit d i j (few, (here, e, k, gap, h)) =
      grind (arith, nat_tests, common_steps, item_starts_rise vs text limit (d + 1) k j h, rising_wide)
  starts_rise (parsed (inline ps) s) text limit d i j (few, (here, e, k, gap, h)) =
      grind (arith, nat_tests, common_steps, pair_starts_rise ps [] text limit (d + 1) k j h, rising_wide)

  item_starts_rise : (vs : ParsedItems) (text : List ℕ) (limit d i j : ℕ) → ItemsWith SpellsScalar vs text limit d i j → Rising (item_starts vs) i j
  item_starts_rise no_items text limit d i j h = omega (arith, h.1)
  item_starts_rise (item v vs) text limit d i j h = grind (arith, nat_tests, common_steps, item_starts_rise vs, starts_rise v, rising_on, rising_wide)

  pair_starts_rise : (ps : ParsedPairs) (es : List ParsedAssignment) (text : List ℕ) (limit d i j : ℕ) → PairsWith SpellsScalar ps es text limit d i j → Rising (pair_starts ps) i j
  pair_starts_rise no_pairs es text limit d i j h = omega (arith, h.1)
  pair_starts_rise (pair ss v x ps) es text limit d i j (m, (a, b, key, few, sign, h, extent), clear, then) =
      rising_on (part_starts ss) (starts v ++ pair_starts ps) i a j (parts_rise ss i a (dotted_ascend ss text i a key).0)
      (rising_wide (starts v ++ pair_starts ps) a b j j (omega (arith, sign.before.forward, sign.after.forward)) (omega arith)
      (rising_on (starts v) (pair_starts ps) b m j (starts_rise v text limit (d + length ss) b m h) (elim then [
        | inl (e, close) ↦ rw e (omega (arith, close.before.forward, close.ends))
        | inr (p, comma, rest) ↦
            rising_wide (pair_starts ps) m p j j (omega (arith, comma.before.forward, comma.after.forward)) (omega arith)
            (pair_starts_rise ps (es ++ (record { parts = ss; value = v; extent = x } ∷ [])) text limit d p j rest)
      ])))

assignments_starts_rise : (es before : List ParsedAssignment) (text : List ℕ) (limit i j : ℕ) → AssignmentsWith SpellsScalar es before text limit i j → Rising (assignment_starts es) i j
assignments_starts_rise [] before text limit i j h = omega (arith, h)
assignments_starts_rise (e ∷ es) before text limit i j (m, n, k, h, tail, clear, gap, rest) =
    let a = dotted_ascend e.parts text i h.key_end h.key in
    let s : h.key_end ≤ h.from = omega (arith, h.sign.before.forward, h.sign.after.forward) in
    let f : m ≤ k = omega (arith, (tail_inside text m n tail).0, gap.forward) in
    rising_on (part_starts e.parts) (starts e.value ++ assignment_starts es) i h.from j
    (rising_wide (part_starts e.parts) i i h.key_end h.from (omega arith) s (parts_rise e.parts i h.key_end a.0))
    (rising_on (starts e.value) (assignment_starts es) h.from m j (starts_rise e.value text limit (length e.parts) h.from m h.spelled)
    (rising_wide (assignment_starts es) m k j j f (omega arith) (assignments_starts_rise es (before ++ (e ∷ [])) text limit k j rest)))

header_starts_rise : (b : ParsedSection) (parts : List SimpleKey) (i j : ℕ) → b.header ≡ parts → HeaderFrom b i j → Rising (header_starts b.header b.header_span) i j
header_starts_rise b parts i j is h = grind (arith, nat_tests, common_steps, header_from, parts_rise)

sections_starts_rise : (bs : List ParsedSection) (text : List ℕ) (limit i : ℕ) → AreParsedSections bs text limit i (length text) → Rising (section_starts bs) i (length text)
sections_starts_rise [] text limit i h = h
sections_starts_rise (b ∷ bs) text limit i (s, k, j, header, few, plain, on, lines, rest) =
    rising_on (header_starts b.header b.header_span) (assignment_starts b.assignments ++ section_starts bs) i s (length text) (header_starts_rise b b.header i s refl header)
    (rising_on (assignment_starts b.assignments) (section_starts bs) s j (length text)
    (rising_wide (assignment_starts b.assignments) s k j j on (omega arith) (assignments_starts_rise b.assignments [] text limit k j lines)) (sections_starts_rise bs text limit j rest))

document_starts_rise : (bs : List ParsedSection) (text : List ℕ) (limit : ℕ) → SpellsDocument bs text limit → Rising (section_starts bs) 0 (length text)
document_starts_rise bs text limit d = sections_starts_rise bs text limit 0 (document_sections bs text limit d)

pub document_starts_increase : (bs : List ParsedSection) (text : List ℕ) (limit : ℕ) → SpellsDocument bs text limit → IsStrictlyIncreasing (section_starts bs)
document_starts_increase bs text limit d = rising_increases (section_starts bs) 0 (length text) (document_starts_rise bs text limit d)

-- ---- keys only

-- if the second list ascends, so does the first
abbrev Fewer : List ℕ → List ℕ → Type 0
Fewer ms ns = (i j : ℕ) → Rising ns i j → Rising ms i j

rising_split : (ns ms : List ℕ) (i k : ℕ) → Rising (ns ++ ms) i k → (j : ℕ) × Rising ns i j × Rising ms j k
rising_split [] ms i k r = (i, omega arith, r)
rising_split (n ∷ ns) ms i k (x, r) = let (j, a, b) = rising_split ns ms (n + 1) k r in (j, (x, a), b)

fewer_on : (ms ns ls ks : List ℕ) → Fewer ms ns → Fewer ls ks → Fewer (ms ++ ls) (ns ++ ks)
fewer_on ms ns ls ks f g i k r = let (j, a, b) = rising_split ns ks i k r in rising_on ms ls i j k (f i j a) (g j k b)

after_first : (n : ℕ) (ns : List ℕ) → Fewer ns (n ∷ ns)
after_first n ns i j (x, r) = rising_wide ns i (n + 1) j j (omega (arith, x)) (omega arith) r

mutual
  value_keys : (v : ParsedValue) → Fewer (key_starts v) (starts v)
  value_keys (parsed (scalar y) s) = λ i j r. r
  value_keys (parsed (array vs) s) = λ i j r. item_keys vs i j (after_first s.start (item_starts vs) i j r)
  value_keys (parsed (inline ps) s) = λ i j r. pair_keys ps i j (after_first s.start (pair_starts ps) i j r)

  item_keys : (vs : ParsedItems) → Fewer (item_key_starts vs) (item_starts vs)
  item_keys no_items = λ i j r. r
  item_keys (item v vs) = fewer_on (key_starts v) (starts v) (item_key_starts vs) (item_starts vs) (value_keys v) (item_keys vs)

  pair_keys : (ps : ParsedPairs) → Fewer (pair_key_starts ps) (pair_starts ps)
  pair_keys no_pairs = λ i j r. r
  pair_keys (pair ss v x ps) = grind (arith, nat_tests, common_steps, pair_keys ps, value_keys v, fewer_on)

assignment_keys : (es : List ParsedAssignment) → Fewer (assignment_key_starts es) (assignment_starts es)
assignment_keys [] = λ i j r. r
assignment_keys (e ∷ es) = grind (arith, nat_tests, common_steps, assignment_keys es, fewer_on, value_keys)

header_keys : (ps : List SimpleKey) (span : Span) → Fewer (part_starts ps) (header_starts ps span)
header_keys ps span = grind (arith, nat_tests, common_steps)

section_keys : (bs : List ParsedSection) → Fewer (section_key_starts bs) (section_starts bs)
section_keys [] = λ i j r. r
section_keys (b ∷ bs) = grind (arith, nat_tests, common_steps, section_keys bs, fewer_on, header_keys, assignment_keys)

pub document_keys_increase : (bs : List ParsedSection) (text : List ℕ) (limit : ℕ) → SpellsDocument bs text limit → IsStrictlyIncreasing (section_key_starts bs)
document_keys_increase bs text limit d = rising_increases (section_key_starts bs) 0 (length text) (section_keys bs 0 (length text) (document_starts_rise bs text limit d))
