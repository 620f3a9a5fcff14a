-- What spells a document within a limit spells it within a higher one, and what spells it without dates spells it with
-- them.
use Rattle.toml_span_lex.proofs.Common.{◌≡◌, ℕ, ◌+◌, ◌≤◌, false, List, [], ◌∷◌, ◌++◌, length, get_or, arith, inl, inr, refl, ◌==◌, nat_tests, common_steps}
use Rattle.toml_span_lex.specs.declared.span.Span.{Span}
use Rattle.toml_span_lex.specs.Bytes.{is_blank}
use Rattle.toml_span_lex.proofs.Runs.{crlf_first}
use Rattle.toml_span_tree.specs.Node.{Scalar, text as text_scalar, integer, float, boolean, datetime}
use Rattle.toml_span_read.specs.Gaps.{GapBy, MaximalGap, Tail}
use Rattle.toml_span_read.specs.Data.{ParsedValue, parsed, ParsedInner, scalar, array, inline, ParsedItems, no_items, item, ParsedPairs, no_pairs, pair, ParsedAssignment, ParsedSection}
use Rattle.toml_span_read.specs.Grammar.{Scalars, SpellsScalar, Spells, SpellsWith, InnerWith, ItemsWith, PairsWith, HeaderFront, SpellsHeader, AssignmentsWith, LinesWith, SectionsWith, DocumentWith, SpellsDocument}
use Rattle.toml_span_read.proofs.NumberLemmas.{is_false, byte_is, clash}
use Rattle.toml_span_laws.specs.Undated.{UndatedScalar, SpellsUndated, SpellsUndatedDocument}
use Rattle.toml_span_read.proofs.Undated.{no_date}

-- ---- there is no colon after a value in brackets, or after an assignment

-- no gap precedes a colon
gap_none : (text : List ℕ) (ns : List ℕ) (i j : ℕ) → get_or text i 0 ≡ 58 → GapBy text i ns j → i ≡ j
gap_none text [] i j h e = e
gap_none text (n ∷ ns) i j h (inl p, more) = absurd (clash is_blank (get_or text i 0) 58 p.0 h refl)
gap_none text (n ∷ ns) i j h (inr (inl (inl p)), more) = absurd (omega (arith, p.0))
gap_none text (n ∷ ns) i j h (inr (inl (inr p)), more) = absurd (omega (arith, crlf_first text i p.0))
gap_none text (n ∷ ns) i j h (inr (inr p), more) = absurd (omega (arith, p.0))

no_colon : (c : ℕ) (text : List ℕ) (i j : ℕ) → (c == 58) ≡ false → MaximalGap text i j → get_or text j 0 ≡ c → (get_or text i 0 == 58) ≡ false
no_colon c text i j n g h = grind (arith, nat_tests, common_steps, byte_is, clash, gap_none, is_false)

tail_no_colon : (text : List ℕ) (i j : ℕ) → Tail text i j → (get_or text i 0 == 58) ≡ false
tail_no_colon text i j (k, s, e) = grind (arith, nat_tests, common_steps)

-- ---- values and the document, where Q holds for the offsets at which there is no colon

module _ (S S' : Scalars) (text : List ℕ) (limit wider : ℕ) (more : limit ≤ wider) (Q : ℕ → Type 0) (free : (j : ℕ) → (get_or text j 0 == 58) ≡ false → Q j)
    (scalars : (s : Scalar) (span : Span) (i j : ℕ) → Q j → S s span text i j → S' s span text i j) where
  mutual
    pub value : (v : ParsedValue) (d i j : ℕ) → Q j → SpellsWith S v text limit d i j → SpellsWith S' v text wider d i j
    value (parsed x s) d i j q (few, h) = (omega arith, inner x s d i j q h)

    inner : (x : ParsedInner) (s : Span) (d i j : ℕ) → Q j → InnerWith S x s text limit d i j → InnerWith S' x s text wider d i j
    inner (scalar y) s d i j q h = scalars y s i j q h
    inner (array vs) s d i j q (here, span, k, gap, h) = (here, span, k, gap, items vs (d + 1) k j h)
    inner (inline ps) s d i j q (here, span, k, gap, h) = (here, span, k, gap, pairs ps [] (d + 1) k j h)

    items : (vs : ParsedItems) (d i j : ℕ) → ItemsWith S vs text limit d i j → ItemsWith S' vs text wider d i j
    items no_items d i j h = h
    items (item v vs) d i j (m, h, inl (e, close)) = (m, value v d i m (free m (no_colon 93 text m close.at refl close.before close.here)) h, inl (e, close))
    items (item v vs) d i j (m, h, inr (p, sign, rest)) = (m, value v d i m (free m (no_colon 44 text m sign.at refl sign.before sign.here)) h, inr (p, sign, items vs d p j rest))

    pairs : (ps : ParsedPairs) (es : List ParsedAssignment) (d i j : ℕ) → PairsWith S ps es text limit d i j → PairsWith S' ps es text wider d i j
    pairs no_pairs es d i j h = h
    pairs (pair ss v x ps) es d i j (m, (a, b, key, few, sign, h, extent), clear, inl (e, close)) =
        (m, (a, b, key, omega arith, sign, value v (d + length ss) b m (free m (no_colon 125 text m close.at refl close.before close.here)) h, extent), clear, inl (e, close))
    pairs (pair ss v x ps) es d i j (m, (a, b, key, few, sign, h, extent), clear, inr (p, comma, rest)) = (
      m,
      (a, b, key, omega arith, sign, value v (d + length ss) b m (free m (no_colon 44 text m comma.at refl comma.before comma.here)) h, extent),
      clear,
      inr (p, comma, pairs ps (es ++ (record { parts = ss; value = v; extent = x } ∷ [])) d p j rest),
    )

  assignments : (es before : List ParsedAssignment) (i j : ℕ) → AssignmentsWith S es before text limit i j → AssignmentsWith S' es before text wider i j
  assignments [] before i j h = h
  assignments (e ∷ es) before i j (m, n, k, h, tail, clear, gap, rest) = (
    m,
    n,
    k,
    record { key_end = h.key_end; from = h.from; key = h.key; few = omega (arith, h.few); sign = h.sign; spelled = value e.value (length e.parts) h.from m (free m (tail_no_colon text m n tail)) h.spelled; extent = h.extent },
    tail,
    clear,
    gap,
    assignments es (before ++ (e ∷ [])) k j rest,
  )

  lines : (es : List ParsedAssignment) (i j : ℕ) → LinesWith S es text limit i j → LinesWith S' es text wider i j
  lines es i j (k, gap, h) = (k, gap, assignments es [] k j h)

  header : (b : ParsedSection) (i j : ℕ) → SpellsHeader b.header b.array text limit i j → SpellsHeader b.header b.array text wider i j
  header b i j h =
      let f = h.front in
      let front : HeaderFront b.header b.array text wider i h.close = record { inside = f.inside; start = f.start; end = f.end; opens = f.opens; before = f.before; key = f.key; few = omega (arith, f.few); after = f.after } in
      record { close = h.close; end = h.end; front = front; shuts = h.shuts; rest = h.rest }

  sections : (bs : List ParsedSection) (i : ℕ) → SectionsWith S bs text limit i → SectionsWith S' bs text wider i
  sections [] i h = h
  sections (b ∷ bs) i (j, s, rest) =
      grind (arith, nat_tests, common_steps, sections bs j rest, header, header b i s.end s.header, lines, lines b.assignments s.end j s.lines)

  pub document : (bs : List ParsedSection) → DocumentWith S bs text limit → DocumentWith S' bs text wider
  document bs d = grind (arith, nat_tests, common_steps, lines, lines d.first d.start d.end d.lines, sections, sections d.rest d.end d.sections)

-- ---- within a higher limit

pub value_wider : (v : ParsedValue) (text : List ℕ) (limit wider d i j : ℕ) → limit ≤ wider → Spells v text limit d i j → Spells v text wider d i j
value_wider v text limit wider d i j l h = value SpellsScalar SpellsScalar text limit wider l (λ j. Unit {0}) (λ j n. tt) (λ s span i j q x. x) v d i j tt h

pub document_wider : (bs : List ParsedSection) (text : List ℕ) (limit wider : ℕ) → limit ≤ wider → SpellsDocument bs text limit → SpellsDocument bs text wider
document_wider bs text limit wider l d = document SpellsScalar SpellsScalar text limit wider l (λ j. Unit {0}) (λ j n. tt) (λ s span i j q x. x) bs d

-- ---- with dates

scalar_dated : (text : List ℕ) (s : Scalar) (span : Span) (i j : ℕ) → (get_or text j 0 == 58) ≡ false → UndatedScalar s span text i j → SpellsScalar s span text i j
scalar_dated text (text_scalar v) span i j n h = h
scalar_dated text (boolean b) span i j n h = h
scalar_dated text (datetime d) span i j n h = absurd h
scalar_dated text (integer x) span i j n (h, e) = (no_date (integer x) text i j h n, h, e)
scalar_dated text (float x) span i j n (h, e) = (no_date (float x) text i j h n, h, e)

pub value_dated : (v : ParsedValue) (text : List ℕ) (limit d i j : ℕ) → (get_or text j 0 == 58) ≡ false → SpellsUndated v text limit d i j → Spells v text limit d i j
value_dated v text limit d i j n h = value UndatedScalar SpellsScalar text limit limit (omega arith) (λ j. (get_or text j 0 == 58) ≡ false) (λ j x. x) (scalar_dated text) v d i j n h

pub document_dated : (bs : List ParsedSection) (text : List ℕ) (limit : ℕ) → SpellsUndatedDocument bs text limit → SpellsDocument bs text limit
document_dated bs text limit h = document UndatedScalar SpellsScalar text limit limit (omega arith) (λ j. (get_or text j 0 == 58) ≡ false) (λ j x. x) (scalar_dated text) bs h
