-- What is around a scalar that is replaced: with what is written in its place it is a document again.
use Rattle.toml_span_lex.proofs.Common.{◌≡◌, ℕ, ◌+◌, ◌<◌, ◌≤◌, ◌⊎◌, true, None, List, [], ◌∷◌, ◌++◌, map, length, get_or, arith, inl, inr, refl, sym, ap, ◌∙◌, false≢true, get_or_past, map-append, nat_tests, common_steps}
use Rattle.toml_span_lex.specs.declared.span.Span.{Span}
use Rattle.toml_span_lex.specs.Bytes.{is_printed}
use Rattle.toml_span_lex.specs.Text.{FirstPlace}
use Rattle.toml_span_read.specs.Data.{SimpleKey, ParsedValue, parsed, array, inline, ParsedItems, no_items, item, ParsedPairs, no_pairs, pair, ParsedAssignment, ParsedSection, from_to, last_end, headerless_section}
use Rattle.toml_span_read.specs.Earlier.{crossing}
use Rattle.toml_span_read.specs.Gaps.{GapBy, MaximalGap, Separator, Closes, Tail}
use Rattle.toml_span_read.specs.Grammar.{Spells, SpellsScalar, ItemsWith, PairsWith, AssignmentWith, AssignmentsWith, SectionWith, SectionsWith, SpellsDocument}
use Rattle.toml_span_read.specs.Keys.{SpellsKey}
use Rattle.toml_span_read.proofs.GapStarts.{value_starts, key_starts}
use Rattle.toml_span_read.proofs.InsideLemmas.{tail_inside, ascend_forward}
use Rattle.toml_span_read.proofs.KeyOrder.{dotted_ascend}
use Rattle.toml_span_read.proofs.Moves.{either, given, in_sequence}
use Rattle.toml_span_laws.proofs.Replacing.{Hole, new_text, change, to, same, copied, whole, after, left_before, left_after, past_byte, gap_to, separator_to, equals_to, value_kept, pair_kept, assignment_kept, key_kept, key_kept_before, header_kept, section_kept, value_printed, items_start}
use Rattle.toml_span_lex.proofs.OneFault.{char_unique}
use Rattle.toml_span_read.proofs.ReadSound.{SpellsPair}
use Rattle.toml_span_read.proofs.Places.{read_within}
use Rattle.toml_span_read.proofs.SpanLaws.{value_lies}
use Rattle.toml_span_laws.specs.Again.{moved_items, moved_pairs}
use Rattle.toml_span_laws.specs.Replaced.{no_span}
use Rattle.toml_span_laws.proofs.AgainStrings.{gap as gap_copied, sign, closes}
use Rattle.toml_span_laws.proofs.AgainValues.{moved_assignment, clear_same, items_copied, pairs_copied, paths_more}
use Rattle.toml_span_laws.proofs.Complete.{few, header_byte, sections_stop}
use Rattle.toml_span_laws.proofs.KeptBytes.{test}
use Rattle.toml_span_laws.proofs.KeptForms.{Past, past_less, gap, tail}
use Rattle.toml_span_laws.proofs.MovedLines.{moved_section, tail as tail_copied, lines as lines_copied, sections as sections_copied}
use Rattle.toml_span_laws.proofs.PlainParsed.{Change, unchanged, plain, plain_items, plain_pairs, plain_assignments, plain_section, plain_sections, items_moved, pairs_moved, assignments_moved, sections_moved, value_left, assignments_left, items_after, pairs_after, sections_after, header_forward, assignments_on}
use Rattle.toml_span_laws.proofs.SameFault.{first_kept, high_byte}
use Rattle.toml_span_laws.proofs.SpelledLine.{key_byte}

-- ---- what elements and pairs end in

pub items_printed : (vs : ParsedItems) (text : List ℕ) (limit d i j : ℕ) → ItemsWith SpellsScalar vs text limit d i j → is_printed (get_or text i 0) ≡ true
items_printed no_items text limit d i j h = rw (h.0) refl
items_printed (item v vs) text limit d i j (m, h, rest) = value_printed v text limit d i m h

closes_end : (c : ℕ) (text : List ℕ) (i j : ℕ) → 0 < c → Closes c text i j → (i ≤ j) × (j ≤ length text)
closes_end c text i j l s = grind (arith, nat_tests, common_steps)

items_on : (vs : ParsedItems) (text : List ℕ) (limit d i j : ℕ) → ItemsWith SpellsScalar vs text limit d i j → (i ≤ j) × (j ≤ length text)
items_on no_items text limit d i j h = let l : i < length text = read_within text i (omega (arith, h.0)) in (omega (arith, h.1), omega (arith, h.1, l))
items_on (item v vs) text limit d i j (m, h, inl (e, c)) = let l = value_lies v text limit d i m h in let z = closes_end 93 text m j (omega arith) c in (omega (arith, l.1, z.0), z.1)
items_on (item v vs) text limit d i j (m, h, inr (p, c, more)) =
    let l = value_lies v text limit d i m h in
    let z = items_on vs text limit d p j more in (omega (arith, l.1, c.before.forward, c.after.forward, z.0), z.1)

pub items_end : (vs : ParsedItems) (text : List ℕ) (limit d m j : ℕ) → ((vs ≡ no_items) × Closes 93 text m j) ⊎ ((p : ℕ) × Separator 44 text m p × ItemsWith SpellsScalar vs text limit d p j) → (m ≤ j) × (j ≤ length text)
items_end vs text limit d m j (inl (e, c)) = closes_end 93 text m j (omega arith) c
items_end vs text limit d m j (inr (p, c, more)) = let z = items_on vs text limit d p j more in (omega (arith, c.before.forward, c.after.forward, z.0), z.1)

pairs_on : (ps : ParsedPairs) (es : List ParsedAssignment) (text : List ℕ) (limit d i j : ℕ) → PairsWith SpellsScalar ps es text limit d i j → (i ≤ j) × (j ≤ length text)
pairs_on no_pairs es text limit d i j h = let l : i < length text = read_within text i (omega (arith, h.0)) in (omega (arith, h.1), omega (arith, h.1, l))
pairs_on (pair ss v x ps) es text limit d i j (m, (a, b, key, few, sign, h, extent), clear, inl (e, c)) =
    let l = value_lies v text limit (d + length ss) b m h in
    let k = ascend_forward ss i a (dotted_ascend ss text i a key).0 in
    let z = closes_end 125 text m j (omega arith) c in (omega (arith, k, sign.before.forward, sign.after.forward, l.1, z.0), z.1)
pairs_on (pair ss v x ps) es text limit d i j (m, (a, b, key, few, sign, h, extent), clear, inr (p, c, more)) =
    let l = value_lies v text limit (d + length ss) b m h in
    let k = ascend_forward ss i a (dotted_ascend ss text i a key).0 in
    let z = pairs_on ps (es ++ (record { parts = ss; value = v; extent = x } ∷ [])) text limit d p j more in
    (omega (arith, k, sign.before.forward, sign.after.forward, l.1, c.before.forward, c.after.forward, z.0), z.1)

pub pairs_end : (ps : ParsedPairs) (es : List ParsedAssignment) (text : List ℕ) (limit d m j : ℕ) → ((ps ≡ no_pairs) × Closes 125 text m j) ⊎ ((p : ℕ) × Separator 44 text m p × PairsWith SpellsScalar ps es text limit d p j) → (m ≤ j) × (j ≤ length text)
pairs_end ps es text limit d m j (inl (e, c)) = closes_end 125 text m j (omega arith) c
pairs_end ps es text limit d m j (inr (p, c, more)) = let z = pairs_on ps es text limit d p j more in (omega (arith, c.before.forward, c.after.forward, z.0), z.1)

-- ---- the new document

-- the first byte of a key or a header
key_past : (a : List ℕ) (n i j : ℕ) (ss : List SimpleKey) → SpellsKey ss a i j → i < n → Past a n i
key_past a n i j [] x l = absurd x
key_past a n i j (p ∷ ps) (m, x, more) l =
    let g = key_starts p a i m x in
    record { here = l; next = λ o. elim o [ inl y ↦ absurd (false≢true (sym g.0 ∙ rw y refl)) | inr y ↦ absurd (false≢true (sym g.1 ∙ rw y refl)) ] }

module _ (a : List ℕ) (limit : ℕ) (bs : List ParsedSection) where
  -- the new text spells these sections, which are the old ones except for spans and the scalar
  pub record Remade (h : Hole a) : Type 0 where
    pub sections : List ParsedSection
    pub spelled : SpellsDocument sections (new_text h) limit
    pub alike : plain_sections unchanged sections ≡ plain_sections (change h) bs

  -- A value at i that differs only in the scalar makes the new text such a document. The same for elements, pairs,
  -- assignments and sections.
  abbrev pub PutsValue : ℕ → ParsedValue → ℕ → ℕ → Type 0
  PutsValue d v i j = (h : Hole a) → i ≤ h.i → h.j ≤ j → (y : ParsedValue) → Spells y (new_text h) limit d i (to h j) → plain unchanged y ≡ plain (change h) v → Remade h

  abbrev pub PutsItems : ℕ → ParsedItems → ℕ → ℕ → Type 0
  PutsItems d vs i j = (h : Hole a) → i ≤ h.i → h.j ≤ j → (ys : ParsedItems) → ItemsWith SpellsScalar ys (new_text h) limit d i (to h j) → plain_items unchanged ys ≡ plain_items (change h) vs → Remade h

  abbrev pub PutsPairs : ℕ → List ParsedAssignment → ParsedPairs → ℕ → ℕ → Type 0
  PutsPairs d es ps i j = (h : Hole a) → Past a h.i i → h.j ≤ j → (ys : ParsedPairs) → PairsWith SpellsScalar ys es (new_text h) limit d i (to h j) → plain_pairs unchanged ys ≡ plain_pairs (change h) ps → Remade h

  abbrev pub PutsLines : List ParsedAssignment → List ParsedAssignment → ℕ → ℕ → Type 0
  PutsLines before es i j =
      (h : Hole a) → Past a h.i i → h.j ≤ j → (ys : List ParsedAssignment) → AssignmentsWith SpellsScalar ys before (new_text h) limit i (to h j) → plain_assignments unchanged ys ≡ plain_assignments (change h) es → Remade h

  abbrev pub PutsSections : List ParsedSection → ℕ → Type 0
  PutsSections xs i = (h : Hole a) → Past a h.i i → (ys : List ParsedSection) → SectionsWith SpellsScalar ys (new_text h) limit i → plain_sections unchanged ys ≡ plain_sections (change h) xs → Remade h

  -- ---- arrays

  pub in_array : (vs : ParsedItems) (span : Span) (d i k j : ℕ) → d ≤ limit → get_or a i 0 ≡ 91 → MaximalGap a (i + 1) k → is_printed (get_or a k 0) ≡ true → PutsValue d (parsed (array vs) span) i j → PutsItems (d + 1) vs k j
  in_array vs span d i k j least here g seen put h l r ys x e =
      let on = g.forward in
      put h (omega arith) r (parsed (array ys) (from_to i (to h j)))
      (least, (test (same h) (λ c. c) 91 i (omega arith) here, refl, k, gap_to h (i + 1) k g l seen (items_start ys (new_text h) limit (d + 1) k (to h j) x), x)) (ap (λ z. parsed (array z) no_span) e)

  -- an element, with those after it
  pub in_first : (v : ParsedValue) (vs : ParsedItems) (d i m j : ℕ) → m ≤ j → j ≤ length a → ((vs ≡ no_items) × Closes 93 a m j) ⊎ ((p : ℕ) × Separator 44 a m p × ItemsWith SpellsScalar vs a limit d p j)
      → PutsItems d (item v vs) i j → PutsValue d v i m
  in_first v vs d i m j on fits rest put h l r y x e =
      let s : ℕ = h.j in
      let t : ℕ = h.i + length h.part in
      let z = copied h in
      let least : d ≤ d = omega arith in
      let left : plain_items (change h) vs ≡ plain_items unchanged vs = elim rest [
        | inl (none, c) ↦ rw none refl
        | inr (p, c, more) ↦ items_after (change h) vs a limit d p j (left_after h p (omega (arith, c.before.forward, c.after.forward))) more
      ] in
      put h l (omega arith) (item y (moved_items s t vs))
      (to h m, x, (either (given (λ q. ap (λ (w : ParsedItems). moved_items s t w) q) (closes z 93)) (in_sequence (sign z 44) (items_copied z vs limit d d least))).to m j (to h m) (to h j) (after h m r (omega arith)) (after h j (omega arith) fits) rest)
      (cc (e, items_moved s t vs, left))

  pub in_later : (v : ParsedValue) (vs : ParsedItems) (d i m p j : ℕ) → Spells v a limit d i m → Separator 44 a m p → is_printed (get_or a p 0) ≡ true → PutsItems d (item v vs) i j → PutsItems d vs p j
  in_later v vs d i m p j x c seen put h l r ys z e =
      let lies = value_lies v a limit d i m x in
      let on = c.before.forward in
      let more = c.after.forward in
      let past = past_byte h c.at 44 c.here (λ q. absurd (omega (arith, q))) (λ q. absurd (omega (arith, q))) (omega arith) in
      put h (omega (arith, lies.1)) r (item v ys)
      (m, value_kept h v limit d i m x (past_less on past), inr (p, separator_to h 44 m p (λ q. absurd (omega (arith, q))) (λ q. absurd (omega (arith, q))) c l seen (items_start ys (new_text h) limit d p (to h j) z), z))
      (cc (e, value_left (change h) v i m (left_before h i m (omega arith)) lies.0))

  -- ---- inline tables

  pub in_table : (ps : ParsedPairs) (span : Span) (d i k j : ℕ) → d ≤ limit → get_or a i 0 ≡ 123 → MaximalGap a (i + 1) k → PutsValue d (parsed (inline ps) span) i j → PutsPairs (d + 1) [] ps k j
  in_table ps span d i k j least here g put h p r ys x e =
      let on = g.forward in
      let l = p.here in
      put h (omega arith) r (parsed (inline ys) (from_to i (to h j))) (least, (test (same h) (λ c. c) 123 i (omega arith) here, refl, k, gap (same h) (i + 1) k p g, x)) (ap (λ z. parsed (inline z) no_span) e)

  pub in_pair : (ss : List SimpleKey) (v : ParsedValue) (x : Span) (ps : ParsedPairs) (es : List ParsedAssignment) (d i y z m j : ℕ) → SpellsKey ss a i y → length ss ≤ limit → Separator 61 a y z → is_printed (get_or a z 0) ≡ true
      → crossing es (record { parts = ss; value = v; extent = x }) ≡ None → m ≤ j → j ≤ length a
      → ((ps ≡ no_pairs) × Closes 125 a m j) ⊎ ((p : ℕ) × Separator 44 a m p × PairsWith SpellsScalar ps (es ++ (record { parts = ss; value = v; extent = x } ∷ [])) a limit d p j)
      → PutsPairs d es (pair ss v x ps) i j → PutsValue (d + length ss) v z m
  in_pair ss v x ps es d i y z m j key least c seen clear on fits rest put h l r u g e =
      let s : ℕ = h.j in
      let t : ℕ = h.i + length h.part in
      let w = copied h in
      let f : ParsedAssignment = record { parts = ss; value = v; extent = x } in
      let k : ParsedAssignment = record { parts = ss; value = u; extent = from_to i (to h m) } in
      let same_depth : d ≤ d = omega arith in
      let left : plain_pairs (change h) ps ≡ plain_pairs unchanged ps = elim rest [
        | inl (none, c) ↦ rw none refl
        | inr (p, c, more) ↦ pairs_after (change h) ps (es ++ (f ∷ [])) a limit d p j (left_after h p (omega (arith, c.before.forward, c.after.forward))) more
      ] in
      let forward = ascend_forward ss i y (dotted_ascend ss a i y key).0 in
      let before = c.before.forward in
      let behind = c.after.forward in
      let at = past_byte h c.at 61 c.here (λ q. absurd (omega (arith, q))) (λ q. absurd (omega (arith, q))) (omega arith) in
      put h (key_past a h.i i y ss key (omega arith)) (omega arith) (pair ss u (from_to i (to h m)) (moved_pairs s t ps)) (
        to h m,
        (y, z, key_kept_before h ss limit i y c.at key least c.before at, least, separator_to h 61 y z (λ q. absurd (omega (arith, q))) (λ q. absurd (omega (arith, q))) c l seen (value_starts u (new_text h) limit (d + length ss) z (to h m) g), g, refl),
        clear_same es es f k refl refl clear,
        (either (given (λ q. ap (λ (w : ParsedPairs). moved_pairs s t w) q) (closes w 125)) (in_sequence (sign w 44) (pairs_copied w ps (es ++ (f ∷ [])) (es ++ (k ∷ [])) limit d d same_depth (paths_more es es f k refl refl)))).to m j (to h m) (to h j) (after h m r (omega arith)) (after h j (omega arith) fits) rest,
      ) (cc (e, pairs_moved s t ps, left))

  pub in_later_pair : (e : ParsedAssignment) (ps : ParsedPairs) (es : List ParsedAssignment) (d i m p j : ℕ) → SpellsPair e a limit d i m → crossing es e ≡ None → Separator 44 a m p
      → PutsPairs d es (pair e.parts e.value e.extent ps) i j → PutsPairs d (es ++ (e ∷ [])) ps p j
  in_later_pair e ps es d i m p j x clear c put h past r ys z q =
      let (y, from, key, least, sign, spells, extent) = x in
      let lies = value_lies e.value a limit (d + length e.parts) from m spells in
      let forward = ascend_forward e.parts i y (dotted_ascend e.parts a i y key).0 in
      let first = sign.before.forward in
      let second = sign.after.forward in
      let on = c.before.forward in
      let more = c.after.forward in
      let l = past.here in
      let at = past_byte h c.at 44 c.here (λ q. absurd (omega (arith, q))) (λ q. absurd (omega (arith, q))) (omega arith) in
      put h (key_past a h.i i y e.parts key (omega (arith, lies.1))) r (pair e.parts e.value e.extent ys)
      (m, pair_kept h e limit d i m x (past_less on at), clear, inr (p, record { at = c.at; before = gap (same h) m c.at at c.before; here = test (same h) (λ c. c) 44 c.at (omega arith) c.here; after = gap (same h) (c.at + 1) p past c.after }, z))
      (cc (q, value_left (change h) e.value from m (left_before h from m (omega arith)) lies.0))

  -- ---- lines

  pub in_line : (e : ParsedAssignment) (es before : List ParsedAssignment) (i m n k j : ℕ) → (x : AssignmentWith SpellsScalar e a limit i m) → Tail a m n → crossing before e ≡ None → MaximalGap a n k
      → AssignmentsWith SpellsScalar es (before ++ (e ∷ [])) a limit k j → k ≤ j → j ≤ length a → PutsLines before (e ∷ es) i j → PutsValue (length e.parts) e.value x.from m
  in_line e es before i m n k j x end clear g rest on fits put h l r u y q =
      let s : ℕ = h.j in
      let t : ℕ = h.i + length h.part in
      let w = copied h in
      let f : ParsedAssignment = record { parts = e.parts; value = u; extent = from_to i (to h m) } in
      let forward = ascend_forward e.parts i x.key_end (dotted_ascend e.parts a i x.key_end x.key).0 in
      let first = x.sign.before.forward in
      let second = x.sign.after.forward in
      let p = (tail_inside a m n end).0 in
      let o = g.forward in
      let starts = value_starts u (new_text h) limit (length e.parts) x.from (to h m) y in
      let left = assignments_left (change h) es (before ++ (e ∷ [])) a limit k j (λ at v c d. left_after h k (omega arith) at v c) rest in
      let sign_at = past_byte h x.sign.at 61 x.sign.here (λ q. absurd (omega (arith, q))) (λ q. absurd (omega (arith, q))) (omega arith) in
      put h (key_past a h.i i x.key_end e.parts x.key (omega arith)) (omega arith) (f ∷ map (moved_assignment s t) es) (
        to h m,
        to h n,
        to h k,
        record {
          key_end = x.key_end;
          from = x.from;
          key = key_kept h e.parts limit i x.key_end x.sign.at x.key x.few x.sign.before sign_at;
          few = x.few;
          sign = equals_to h x.key_end x.from x.sign l starts;
          spelled = y;
          extent = refl;
        },
        (tail_copied w (whole h)).to m n (to h m) (to h n) (after h m r (omega arith)) (after h n (omega arith) (omega arith)) end,
        clear_same before before e f refl refl clear,
        (gap_copied w).to n k (to h n) (to h k) (after h n (omega arith) (omega arith)) (after h k (omega arith) (omega arith)) g,
        (lines_copied w (whole h) es (before ++ (e ∷ [])) (before ++ (f ∷ [])) limit (paths_more before before e f refl refl)).to k j (to h k) (to h j) (after h k (omega arith) (omega arith)) (after h j (omega arith) fits) rest,
      ) (cc (q, assignments_moved s t es, left))

  pub in_later_line : (e : ParsedAssignment) (es before : List ParsedAssignment) (i m n k j : ℕ) → AssignmentWith SpellsScalar e a limit i m → Tail a m n → crossing before e ≡ None → MaximalGap a n k
      → PutsLines before (e ∷ es) i j → PutsLines (before ++ (e ∷ [])) es k j
  in_later_line e es before i m n k j x end clear g put h past r ys z q =
      let lies = value_lies e.value a limit (length e.parts) x.from m x.spelled in
      let forward = ascend_forward e.parts i x.key_end (dotted_ascend e.parts a i x.key_end x.key).0 in
      let first = x.sign.before.forward in
      let second = x.sign.after.forward in
      let p = (tail_inside a m n end).0 in
      let o = g.forward in
      let l = past.here in
      put h (key_past a h.i i x.key_end e.parts x.key (omega (arith, lies.1))) r (e ∷ ys)
      (m, n, k, assignment_kept h e limit i m x (past_less (omega arith) past), tail (same h) m n (omega arith) end, clear, gap (same h) n k past g, z)
      (cc (q, value_left (change h) e.value x.from m (left_before h x.from m (omega arith)) lies.0))

  -- ---- sections

  lines_kept : (h : Hole a) (es before : List ParsedAssignment) (i j : ℕ) → AssignmentsWith SpellsScalar es before a limit i j → Past a h.i j → AssignmentsWith SpellsScalar es before (new_text h) limit i j
  lines_kept h [] before i j x past = x
  lines_kept h (e ∷ es) before i j (m, n, k, x, end, clear, g, rest) past =
      let on = assignments_on es (before ++ (e ∷ [])) a limit k j rest in
      let p = (tail_inside a m n end).0 in
      let o = g.forward in
      let l = past.here in (
        m,
        n,
        k,
        assignment_kept h e limit i m x (past_less (omega arith) past),
        tail (same h) m n (omega arith) end,
        clear,
        gap (same h) n k (past_less on past) g,
        lines_kept h es (before ++ (e ∷ [])) k j rest past,
      )

  pub sections_fit : (xs : List ParsedSection) (i : ℕ) → SectionsWith SpellsScalar xs a limit i → (i ≤ length a) × (get_or a i 0 < 128)
  sections_fit [] i e = (omega (arith, e), rw (get_or_past a i 0 (omega (arith, e))) (omega arith))
  sections_fit (x ∷ xs) i (j, z, rest) = let c = header_byte x.header x.array a limit i z.end z.header in (grind (arith, nat_tests, common_steps), omega (arith, c))

  pub in_section : (x : ParsedSection) (xs : List ParsedSection) (i j : ℕ) → (z : SectionWith SpellsScalar x a limit i j) → SectionsWith SpellsScalar xs a limit j → PutsSections (x ∷ xs) i → PutsLines [] x.assignments z.lines.0 j
  in_section x xs i j z rest put h past r ys y q =
      let s : ℕ = h.j in
      let t : ℕ = h.i + length h.part in
      let w = copied h in
      let k : ℕ = z.lines.0 in
      let forward = header_forward x.header x.array a limit i z.end z.header in
      let o = z.lines.1.forward in
      let l = past.here in
      let start = past_byte h i 91 (header_byte x.header x.array a limit i z.end z.header) (λ q. absurd (omega (arith, q))) (λ q. absurd (omega (arith, q))) (omega arith) in
      put h start (record { header = x.header; array = x.array; header_span = x.header_span; extent = from_to i (last_end z.end ys); assignments = ys } ∷ map (moved_section s t) xs) (
        to h j,
        record { end = z.end; header = header_kept h x.header x.array limit i z.end z.header (past_less o past); header_span = z.header_span; lines = (k, gap (same h) z.end k past z.lines.1, y); extent = refl },
        sections_copied w (whole h) xs limit j (to h j) (after h j r (sections_fit xs j rest).0) rest,
      ) (cc (q, sections_moved s t xs, sections_after (change h) xs a limit j (left_after h j r) rest))

  pub in_later_section : (x : ParsedSection) (xs : List ParsedSection) (i j : ℕ) → SectionWith SpellsScalar x a limit i j → SectionsWith SpellsScalar xs a limit j → PutsSections (x ∷ xs) i → PutsSections xs j
  in_later_section x xs i j z rest put h past ys y q =
      let (k, g, lines) = z.lines in
      let forward = header_forward x.header x.array a limit i z.end z.header in
      let o = g.forward in
      let on = assignments_on x.assignments [] a limit k j lines in
      let l = past.here in
      let start = past_byte h i 91 (header_byte x.header x.array a limit i z.end z.header) (λ q. absurd (omega (arith, q))) (λ q. absurd (omega (arith, q))) (omega arith) in
      put h start (x ∷ ys) (j, section_kept h x limit i j z (sections_stop xs a limit j rest) (omega arith) past, y) (cc (q, assignments_left (change h) x.assignments [] a limit k j (left_before h k j l) lines))

-- ---- the document

pub gap_low : (a ks : List ℕ) (i k : ℕ) → GapBy a i ks k → get_or a k 0 < 128 → get_or a i 0 < 128
gap_low a [] i k e low = rw e low
gap_low a (e ∷ ks) i k (x, more) low = grind (arith, nat_tests, common_steps)

lines_low : (es before : List ParsedAssignment) (a : List ℕ) (limit i j : ℕ) → AssignmentsWith SpellsScalar es before a limit i j → get_or a j 0 < 128 → get_or a i 0 < 128
lines_low [] before a limit i j e low = rw e at low
lines_low (e ∷ es) before a limit i j (m, n, k, x, end, clear, g, rest) low = first_low e.parts x.key
  where
    first_low : (ss : List SimpleKey) → SpellsKey ss a i x.key_end → get_or a i 0 < 128
    first_low [] y = absurd y
    first_low (s ∷ ss) (m, y, more) = (key_byte s a i m y).1

first_to : {a : List ℕ} (h : Hole a) (i : ℕ) → FirstPlace a i → get_or a i 0 < 128 → Past a h.i i → FirstPlace (new_text h) i
first_to {a} h i f low past = first_kept a (elim f [
  | inl x ↦ (λ c m y l. (char_unique a 0 c 65279 m i y x).1)
  | inr x ↦ (λ c m y l. (let e : get_or a 0 0 < 128 = rw (x.0) at low in let g = high_byte a c m y l in absurd (omega arith)))
]) i h.i (new_text h) f past (same h)

headerless_alike : (change : Change) (ys es : List ParsedAssignment) → plain_assignments unchanged ys ≡ plain_assignments change es → plain_sections unchanged (headerless_section ys) ≡ plain_sections change (headerless_section es)
headerless_alike change [] [] e = refl
headerless_alike change [] (z ∷ es) e = absurd (cc)
headerless_alike change (y ∷ ys) [] e = absurd (cc)
headerless_alike change (y ∷ ys) (z ∷ es) e = cc e

plain_append : (change : Change) (xs ys : List ParsedSection) → plain_sections change (xs ++ ys) ≡ plain_sections change xs ++ plain_sections change ys
plain_append change xs ys = map-append (plain_section change) xs ys

module _ (a : List ℕ) (limit : ℕ) (bs : List ParsedSection) (x : SpellsDocument bs a limit) where
  start_low : get_or a x.start 0 < 128
  start_low = gap_low a x.lines.1.ends x.start x.lines.0 x.lines.1.pieces (lines_low x.first [] a limit x.lines.0 x.end x.lines.2 (sections_fit a limit bs x.rest x.end x.sections).1)

  pub before_headers : PutsLines a limit bs [] x.first x.lines.0 x.end
  before_headers h past r ys y q =
      let s : ℕ = h.j in
      let t : ℕ = h.i + length h.part in
      let moved_rest = map (moved_section s t) x.rest in
      let one = headerless_alike (change h) ys x.first q in
      record {
        sections = headerless_section ys ++ moved_rest;
        spelled = record {
          start = x.start;
          end = to h x.end;
          first = ys;
          rest = moved_rest;
          begins = first_to h x.start x.begins start_low (past_less x.lines.1.forward past);
          lines = (x.lines.0, gap (same h) x.start x.lines.0 past x.lines.1, y);
          sections = sections_copied (copied h) (whole h) x.rest limit x.end (to h x.end) (after h x.end r (sections_fit a limit bs x.rest x.end x.sections).0) x.sections;
          all = refl;
        };
        alike = rw (x.all) (cc (plain_append unchanged (headerless_section ys) moved_rest, plain_append (change h) (headerless_section x.first) x.rest, one, sections_moved s t x.rest, sections_after (change h) x.rest a limit x.end (left_after h x.end r) x.sections));
      }

  pub in_sections : PutsSections a limit bs x.rest x.end
  in_sections h past ys y q =
      let on = assignments_on x.first [] a limit x.lines.0 x.end x.lines.2 in
      let l = past.here in
      let one = headerless_alike (change h) x.first x.first (sym (assignments_left (change h) x.first [] a limit x.lines.0 x.end (left_before h x.lines.0 x.end l) x.lines.2)) in
      record {
        sections = headerless_section x.first ++ ys;
        spelled = record {
          start = x.start;
          end = x.end;
          first = x.first;
          rest = ys;
          begins = first_to h x.start x.begins start_low (past_less (omega (arith, x.lines.1.forward)) past);
          lines = (x.lines.0, gap (same h) x.start x.lines.0 (past_less on past) x.lines.1, lines_kept a limit bs h x.first [] x.lines.0 x.end x.lines.2 past);
          sections = y;
          all = refl;
        };
        alike = rw (x.all) (cc (plain_append unchanged (headerless_section x.first) ys, plain_append (change h) (headerless_section x.first) x.rest, one, q));
      }
