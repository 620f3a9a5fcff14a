-- The spans of a value are within the text that spells it.
use Rattle.toml_span_lex.proofs.Common.{common_steps, nat_tests, ◌≡◌, ℕ, ◌+◌, ◌<◌, ◌≤◌, List, [], ◌∷◌, ◌++◌, length, arith, inl, inr}
use Rattle.toml_span_lex.specs.declared.span.Span.{Span}
use Rattle.toml_span_tree.specs.Node.{Scalar, text as text_scalar, integer, float, boolean, datetime}
use Rattle.toml_span_read.specs.Gaps.{Separator, Closes}
use Rattle.toml_span_read.specs.Data.{SimpleKey, ParsedValue, parsed, ParsedInner, scalar, array, inline, ParsedItems, no_items, item, ParsedPairs, no_pairs, pair, ParsedAssignment, from_to}
use Rattle.toml_span_read.specs.Places.{Ascend, Inside, InsideItems, InsidePairs}
use Rattle.toml_span_read.specs.Grammar.{SpellsScalar, Spells, InnerWith, ItemsWith, PairsWith}
use Rattle.toml_span_read.proofs.NumberReads.{number_on}
use Rattle.toml_span_read.proofs.Places.{read_within}
use Rattle.toml_span_read.proofs.KeyOrder.{Lies, string_lies, dotted_ascend}
use Rattle.toml_span_read.proofs.InsideLemmas.{ascend_forward}

-- ---- scalars

whole : (text : List ℕ) (i j : ℕ) (s : Span) → s ≡ from_to i j → (i ≤ j) × (j ≤ length text) → Lies text i j s
whole text i j s e h = rw e (record { begins = omega arith; forward = h.0; ends = omega arith; within = h.1 })

scalar_lies : (s : Scalar) (span : Span) (t : List ℕ) (i j : ℕ) → SpellsScalar s span t i j → Lies t i j span
scalar_lies (text_scalar v) span t i j (src, m, h) = (string_lies t v src i j span m h).0
scalar_lies (boolean b) span t i j (run, e) = whole t i j span e (run.1.forward, run.1.within)
scalar_lies (datetime d) span t i j (b, c, is, same, e) = whole t i j span e (grind (arith, nat_tests, common_steps))
scalar_lies (integer n) span t i j (b, h, e) = whole t i j span e (number_on (integer n) t i j h)
scalar_lies (float x) span t i j (b, h, e) = whole t i j span e (number_on (float x) t i j h)

-- ---- values

sign_onward : (c : ℕ) (text : List ℕ) (i j : ℕ) → Separator c text i j → i ≤ j
sign_onward c text i j s = omega (arith, s.before.forward, s.after.forward)

closes_on : (c : ℕ) (text : List ℕ) (i j : ℕ) → 0 < c → Closes c text i j → (i ≤ j) × (j ≤ length text)
closes_on c text i j l s = grind (arith, nat_tests, common_steps)

-- a value that begins at i or after it begins at n or after it, if n is not after i
nearer : (v : ParsedValue) (n i j : ℕ) → n ≤ i → Inside v i j → Inside v n j
nearer (parsed k span) n i j l (begins, forward, ends, inner) = (omega arith, forward, ends, inner)

ascend_nearer : (ps : List SimpleKey) (n i j : ℕ) → n ≤ i → Ascend ps i j → Ascend ps n j
ascend_nearer [] n i j l h = omega arith
ascend_nearer (p ∷ ps) n i j l (begins, some, rest) = (omega arith, some, rest)

mutual
  pub value_lies : (v : ParsedValue) (text : List ℕ) (limit d i j : ℕ) → Spells v text limit d i j → Inside v i j × (i ≤ j) × (j ≤ length text)
  value_lies (parsed x s) text limit d i j (few, h) = inner_lies x s text limit d i j h

  inner_lies : (x : ParsedInner) (s : Span) (text : List ℕ) (limit d i j : ℕ) → InnerWith SpellsScalar x s text limit d i j → Inside (parsed x s) i j × (i ≤ j) × (j ≤ length text)
  inner_lies (scalar x) s text limit d i j h =
      let a = scalar_lies x s text i j h in ((a.begins, a.forward, a.ends, tt), omega (arith, a.begins, a.forward, a.ends), a.within)
  inner_lies (array vs) s text limit d i j (here, e, k, gap, h) =
      let a = items_lie vs text limit (d + 1) i k j (omega (arith, gap.forward)) h in (rw e (omega arith, a.1, omega arith, a.0), a.1, a.2)
  inner_lies (inline ps) s text limit d i j (here, e, k, gap, h) =
      let a = pairs_lie ps [] text limit (d + 1) i k j (omega (arith, gap.forward)) h in (rw e (omega arith, a.1, omega arith, a.0), a.1, a.2)

  items_lie : (vs : ParsedItems) (text : List ℕ) (limit d n i j : ℕ) → n ≤ i → ItemsWith SpellsScalar vs text limit d i j → InsideItems vs n j × (n ≤ j) × (j ≤ length text)
  items_lie no_items text limit d n i j l h = let w : i < length text = read_within text i (omega (arith, h.0)) in (omega (arith, h.1), omega (arith, h.1), omega (arith, h.1, w))
  items_lie (item v vs) text limit d n i j l (m, h, rest) =
      let a = value_lies v text limit d i m h in
      let r : InsideItems vs m j × (m ≤ j) × (j ≤ length text) = elim rest [
        | inl (e, close) ↦ let c = closes_on 93 text m j (omega arith) close in (rw e c.0, c.0, c.1)
        | inr (p, sign, more) ↦ items_lie vs text limit d m p j (sign_onward 44 text m p sign) more
      ] in
      ((m, nearer v n i m l a.0, r.0), omega (arith, l, a.1, r.1), r.2)

  pairs_lie : (ps : ParsedPairs) (es : List ParsedAssignment) (text : List ℕ) (limit d n i j : ℕ) → n ≤ i → PairsWith SpellsScalar ps es text limit d i j → InsidePairs ps n j × (n ≤ j) × (j ≤ length text)
  pairs_lie no_pairs es text limit d n i j l h = let w : i < length text = read_within text i (omega (arith, h.0)) in (omega (arith, h.1), omega (arith, h.1), omega (arith, h.1, w))
  pairs_lie (pair ss v x ps) es text limit d n i j l (m, (a, b, key, few, sign, h, extent), clear, rest) =
      let k = dotted_ascend ss text i a key in
      let s = sign_onward 61 text a b sign in
      let u = value_lies v text limit (d + length ss) b m h in
      let f = ascend_forward ss i a k.0 in
      let r : InsidePairs ps m j × (m ≤ j) × (j ≤ length text) = elim rest [
        | inl (e, close) ↦ let c = closes_on 125 text m j (omega arith) close in (rw e c.0, c.0, c.1)
        | inr (p, comma, more) ↦ pairs_lie ps (es ++ (record { parts = ss; value = v; extent = x } ∷ [])) text limit d m p j (sign_onward 44 text m p comma) more
      ] in
      ((a, m, ascend_nearer ss n i a l k.0, nearer v a b m s u.0, (rw extent (omega arith)), (rw extent (omega arith)), r.0), omega (arith, l, f, s, u.1, r.1), r.2)
