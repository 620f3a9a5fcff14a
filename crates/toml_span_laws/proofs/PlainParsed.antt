-- What was read, without its spans: moving a value changes nothing else, nor does a change of scalars that are elsewhere.
use Rattle.toml_span_lex.proofs.Common.{◌≡◌, ℕ, ◌+◌, ◌<◌, ◌≤◌, List, [], ◌∷◌, ◌++◌, map, length, Bool, inl, inr, if◌then◌else◌, ◌==◌, arith, refl, ap}
use Rattle.toml_span_tree.specs.Node.{Scalar}
use Rattle.toml_span_read.specs.Data.{SimpleKey, ParsedValue, parsed, ParsedInner, scalar, array, inline, ParsedItems, no_items, item, ParsedPairs, no_pairs, pair, ParsedAssignment, ParsedSection}
use Rattle.toml_span_read.specs.Grammar.{ItemsWith, PairsWith, AssignmentsWith, SpellsHeader, SectionsWith, SpellsScalar}
use Rattle.toml_span_read.specs.Places.{Inside, InsideItems, InsidePairs}
use Rattle.toml_span_read.proofs.SpanLaws.{value_lies}
use Rattle.toml_span_read.proofs.InsideLemmas.{tail_inside, ascend_forward, opens_on, shuts_on}
use Rattle.toml_span_read.proofs.KeyOrder.{dotted_ascend}
use Rattle.toml_span_laws.specs.Again.{moved_parts, moved, moved_items, moved_pairs}
use Rattle.toml_span_laws.specs.Replaced.{no_span}
use Rattle.toml_span_laws.proofs.AgainValues.{moved_assignment}
use Rattle.toml_span_laws.proofs.MovedLines.{moved_section}

-- what becomes of a scalar whose span starts at an offset
abbrev pub Change : Type 0
Change = ℕ → Scalar → Scalar

abbrev pub unchanged : Change
unchanged at s = s

-- the scalar that starts at `from` becomes this one
abbrev pub changed_at : ℕ → Scalar → Change
changed_at from new at s = if at == from then new else s

abbrev pub plain_part : SimpleKey → SimpleKey
plain_part p = record { name = p.name; span = no_span }

abbrev pub plain_parts : List SimpleKey → List SimpleKey
plain_parts ps = map plain_part ps

abbrev mutual
  pub plain : Change → ParsedValue → ParsedValue
  plain change (parsed k span) = parsed (plain_inner change span.start k) no_span

  pub plain_inner : Change → ℕ → ParsedInner → ParsedInner
  plain_inner change at (scalar s) = scalar (change at s)
  plain_inner change at (array vs) = array (plain_items change vs)
  plain_inner change at (inline ps) = inline (plain_pairs change ps)

  pub plain_items : Change → ParsedItems → ParsedItems
  plain_items change no_items = no_items
  plain_items change (item v vs) = item (plain change v) (plain_items change vs)

  pub plain_pairs : Change → ParsedPairs → ParsedPairs
  plain_pairs change no_pairs = no_pairs
  plain_pairs change (pair parts v extent ps) = pair (plain_parts parts) (plain change v) no_span (plain_pairs change ps)

abbrev pub plain_assignment : Change → ParsedAssignment → ParsedAssignment
plain_assignment change e = record { parts = plain_parts e.parts; value = plain change e.value; extent = no_span }

abbrev pub plain_assignments : Change → List ParsedAssignment → List ParsedAssignment
plain_assignments change es = map (plain_assignment change) es

abbrev pub plain_section : Change → ParsedSection → ParsedSection
plain_section change b = record {
  header = plain_parts b.header;
  array = b.array;
  header_span = no_span;
  extent = no_span;
  assignments = plain_assignments change b.assignments;
}

abbrev pub plain_sections : Change → List ParsedSection → List ParsedSection
plain_sections change bs = map (plain_section change) bs

-- ---- moved

pub parts_moved : (s t : ℕ) (ps : List SimpleKey) → plain_parts (moved_parts s t ps) ≡ plain_parts ps
parts_moved s t [] = refl
parts_moved s t (p ∷ ps) = ap (λ qs. plain_part p ∷ qs) (parts_moved s t ps)

mutual
  pub value_moved : (s t : ℕ) (v : ParsedValue) → plain unchanged (moved s t v) ≡ plain unchanged v
  value_moved s t (parsed (scalar x) span) = refl
  value_moved s t (parsed (array vs) span) = ap (λ z. parsed (array z) no_span) (items_moved s t vs)
  value_moved s t (parsed (inline ps) span) = ap (λ z. parsed (inline z) no_span) (pairs_moved s t ps)

  pub items_moved : (s t : ℕ) (vs : ParsedItems) → plain_items unchanged (moved_items s t vs) ≡ plain_items unchanged vs
  items_moved s t no_items = refl
  items_moved s t (item v vs) = cc (value_moved s t v, items_moved s t vs)

  pub pairs_moved : (s t : ℕ) (ps : ParsedPairs) → plain_pairs unchanged (moved_pairs s t ps) ≡ plain_pairs unchanged ps
  pairs_moved s t no_pairs = refl
  pairs_moved s t (pair ss v x ps) = cc (parts_moved s t ss, value_moved s t v, pairs_moved s t ps)

pub assignment_moved : (s t : ℕ) (e : ParsedAssignment) → plain_assignment unchanged (moved_assignment s t e) ≡ plain_assignment unchanged e
assignment_moved s t e = cc (parts_moved s t e.parts, value_moved s t e.value)

pub assignments_moved : (s t : ℕ) (es : List ParsedAssignment) → plain_assignments unchanged (map (moved_assignment s t) es) ≡ plain_assignments unchanged es
assignments_moved s t [] = refl
assignments_moved s t (e ∷ es) = cc (assignment_moved s t e, assignments_moved s t es)

pub sections_moved : (s t : ℕ) (xs : List ParsedSection) → plain_sections unchanged (map (moved_section s t) xs) ≡ plain_sections unchanged xs
sections_moved s t [] = refl
sections_moved s t (x ∷ xs) = cc (parts_moved s t x.header, assignments_moved s t x.assignments, sections_moved s t xs)

-- ---- a change elsewhere

-- the change leaves each scalar that starts at i, at j or between
abbrev pub Leaves : Change → ℕ → ℕ → Type 0
Leaves change i j = (at : ℕ) (s : Scalar) → i ≤ at → at ≤ j → change at s ≡ s

pub leaves_in : {change : Change} {i j : ℕ} (h k : ℕ) → i ≤ h → k ≤ j → Leaves change i j → Leaves change h k
leaves_in h k l m leaves at s a b = leaves at s (omega arith) (omega arith)

inside_forward : (v : ParsedValue) (i j : ℕ) → Inside v i j → i ≤ j
inside_forward (parsed k span) i j h = omega (arith, h.0, h.1, h.2)

items_forward : (vs : ParsedItems) (i j : ℕ) → InsideItems vs i j → i ≤ j
items_forward no_items i j h = h
items_forward (item v vs) i j (m, h, more) = omega (arith, inside_forward v i m h, items_forward vs m j more)

pairs_forward : (ps : ParsedPairs) (i j : ℕ) → InsidePairs ps i j → i ≤ j
pairs_forward no_pairs i j h = h
pairs_forward (pair ss v x ps) i j (a, m, key, h, from, to, more) = omega (arith, ascend_forward ss i a key, inside_forward v a m h, pairs_forward ps m j more)

mutual
  pub value_left : (change : Change) (v : ParsedValue) (i j : ℕ) → Leaves change i j → Inside v i j → plain change v ≡ plain unchanged v
  value_left change (parsed (scalar x) span) i j leaves h = ap (λ z. parsed (scalar z) no_span) (leaves span.start x h.0 (omega (arith, h.1, h.2)))
  value_left change (parsed (array vs) span) i j leaves h =
      ap (λ z. parsed (array z) no_span) (items_left change vs span.start span.end (leaves_in {change = change} span.start span.end h.0 h.2 leaves) h.3)
  value_left change (parsed (inline ps) span) i j leaves h =
      ap (λ z. parsed (inline z) no_span) (pairs_left change ps span.start span.end (leaves_in {change = change} span.start span.end h.0 h.2 leaves) h.3)

  pub items_left : (change : Change) (vs : ParsedItems) (i j : ℕ) → Leaves change i j → InsideItems vs i j → plain_items change vs ≡ plain_items unchanged vs
  items_left change no_items i j leaves h = refl
  items_left change (item v vs) i j leaves (m, h, more) =
      let o = items_forward vs m j more in
      let p = inside_forward v i m h in
      cc (value_left change v i m (leaves_in {change = change} i m (omega arith) o leaves) h, items_left change vs m j (leaves_in {change = change} m j p (omega arith) leaves) more)

  pub pairs_left : (change : Change) (ps : ParsedPairs) (i j : ℕ) → Leaves change i j → InsidePairs ps i j → plain_pairs change ps ≡ plain_pairs unchanged ps
  pairs_left change no_pairs i j leaves h = refl
  pairs_left change (pair ss v x ps) i j leaves (a, m, key, h, from, to, more) =
      let o = pairs_forward ps m j more in
      let p = inside_forward v a m h in
      let q = ascend_forward ss i a key in
      cc (value_left change v a m (leaves_in {change = change} a m q o leaves) h, pairs_left change ps m j (leaves_in {change = change} m j (omega arith) (omega arith) leaves) more)

pub header_forward : (ps : List SimpleKey) (double : Bool) (text : List ℕ) (limit i j : ℕ) → SpellsHeader ps double text limit i j → i < j
header_forward ps double text limit i j h =
    let f = h.front in
    let k = ascend_forward ps f.start f.end (dotted_ascend ps text f.start f.end f.key).0 in
    omega (arith, opens_on double text i f.inside f.opens, f.before.forward, f.after.forward, shuts_on double text h.close h.end h.shuts, (tail_inside text h.end j h.rest).0)

pub assignments_on : (es before : List ParsedAssignment) (text : List ℕ) (limit i j : ℕ) → AssignmentsWith SpellsScalar es before text limit i j → i ≤ j
assignments_on [] before text limit i j h = omega (arith, h)
assignments_on (e ∷ es) before text limit i j (m, n, k, h, t, clear, g, more) =
    let v = value_lies e.value text limit (length e.parts) h.from m h.spelled in
    let p = ascend_forward e.parts i h.key_end (dotted_ascend e.parts text i h.key_end h.key).0 in
    omega (arith, v.1, p, h.sign.before.forward, h.sign.after.forward, (tail_inside text m n t).0, g.forward, assignments_on es (before ++ (e ∷ [])) text limit k j more)

-- the same for assignments
pub assignments_left : (change : Change) (es before : List ParsedAssignment) (text : List ℕ) (limit i j : ℕ) → Leaves change i j → AssignmentsWith SpellsScalar es before text limit i j
    → plain_assignments change es ≡ plain_assignments unchanged es
assignments_left change [] before text limit i j leaves h = refl
assignments_left change (e ∷ es) before text limit i j leaves (m, n, k, h, t, clear, g, more) =
    let v = value_lies e.value text limit (length e.parts) h.from m h.spelled in
    let a = dotted_ascend e.parts text i h.key_end h.key in
    let p = ascend_forward e.parts i h.key_end a.0 in
    let q : h.key_end ≤ h.from = omega (arith, h.sign.before.forward, h.sign.after.forward) in
    let f : m ≤ k = omega (arith, (tail_inside text m n t).0, g.forward) in
    let on = assignments_on es (before ++ (e ∷ [])) text limit k j more in
    let rest = assignments_left change es (before ++ (e ∷ [])) text limit k j (leaves_in {change = change} k j (omega (arith, v.1)) (omega arith) leaves) more in
    let same = value_left change e.value h.from m (leaves_in {change = change} h.from m (omega arith) (omega (arith, on)) leaves) v.0 in
    cc (same, rest)

-- a change before i
abbrev pub LeavesFrom : Change → ℕ → Type 0
LeavesFrom change i = (at : ℕ) (s : Scalar) → i ≤ at → change at s ≡ s

pub items_after : (change : Change) (vs : ParsedItems) (text : List ℕ) (limit d i j : ℕ) → LeavesFrom change i → ItemsWith SpellsScalar vs text limit d i j → plain_items change vs ≡ plain_items unchanged vs
items_after change no_items text limit d i j leaves h = refl
items_after change (item v vs) text limit d i j leaves (m, h, rest) =
    let l = value_lies v text limit d i m h in
    let same = value_left change v i m (λ at s x y. leaves at s x) l.0 in
    let more : plain_items change vs ≡ plain_items unchanged vs = elim rest [
      | inl (e, c) ↦ rw e refl
      | inr (p, c, z) ↦ items_after change vs text limit d p j (λ at s x. leaves at s (omega (arith, l.1, c.before.forward, c.after.forward))) z
    ] in cc (same, more)

pub pairs_after : (change : Change) (ps : ParsedPairs) (es : List ParsedAssignment) (text : List ℕ) (limit d i j : ℕ) → LeavesFrom change i → PairsWith SpellsScalar ps es text limit d i j → plain_pairs change ps ≡ plain_pairs unchanged ps
pairs_after change no_pairs es text limit d i j leaves h = refl
pairs_after change (pair ss v x ps) es text limit d i j leaves (m, (a, b, key, few, sign, h, extent), clear, rest) =
    let l = value_lies v text limit (d + length ss) b m h in
    let k = ascend_forward ss i a (dotted_ascend ss text i a key).0 in
    let q : i ≤ b = omega (arith, sign.before.forward, sign.after.forward) in
    let same = value_left change v b m (λ at s x y. leaves at s (omega arith)) l.0 in
    let more : plain_pairs change ps ≡ plain_pairs unchanged ps = elim rest [
      | inl (e, c) ↦ rw e refl
      | inr (p, c, z) ↦ pairs_after change ps (es ++ (record { parts = ss; value = v; extent = x } ∷ [])) text limit d p j (λ at s x. leaves at s (omega (arith, l.1, c.before.forward, c.after.forward))) z
    ] in cc (same, more)

pub sections_after : (change : Change) (xs : List ParsedSection) (text : List ℕ) (limit i : ℕ) → LeavesFrom change i → SectionsWith SpellsScalar xs text limit i → plain_sections change xs ≡ plain_sections unchanged xs
sections_after change [] text limit i leaves h = refl
sections_after change (x ∷ xs) text limit i leaves (j, h, more) =
    let (k, g, lines) = h.lines in
    let f : i ≤ k = omega (arith, header_forward x.header x.array text limit i h.end h.header, g.forward) in
    let on = assignments_on x.assignments [] text limit k j lines in
    cc (assignments_left change x.assignments [] text limit k j (λ at s a b. leaves at s (omega arith)) lines, sections_after change xs text limit j (λ at s a. leaves at s (omega arith)) more)
