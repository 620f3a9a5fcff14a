-- Where a key or a value begins, no gap does.
use Rattle.toml_span_lex.proofs.Common.{◌≡◌, ℕ, ◌+◌, ◌<◌, true, false, Some, List, [], ◌∷◌, length, get_or, arith, inl, inr, refl, ◌==◌, ◌||◌, and_parts, nat_tests, common_steps}
use Rattle.toml_span_lex.specs.Bytes.{is_blank, is_keylike, MaximalRun}
use Rattle.toml_span_lex.specs.declared.span.Span.{Span}
use Rattle.toml_span_tree.specs.Node.{Scalar, text as text_scalar, integer, float, boolean, datetime, finite, infinite, not_a_number}
use Rattle.toml_span_read.specs.Data.{ParsedValue, parsed, scalar, array, inline, SimpleKey}
use Rattle.toml_span_read.specs.Gaps.{begins_gap, MaximalGap}
use Rattle.toml_span_read.specs.Grammar.{SpellsScalar, Spells}
use Rattle.toml_span_read.specs.Keys.{SpellsSimpleKey}
use Rattle.toml_span_read.specs.Numbers.{SpecialFloat}
use Rattle.toml_span_read.specs.Numerals.{is_digit_in, after_sign, radix_at}
use Rattle.toml_span_read.proofs.NumberLemmas.{digit_keylike, slice_first}
use Rattle.toml_span_read.proofs.ShortIntegers.{decimal_keylike}

-- ---- the first byte of a value or a key begins no gap

abbrev pub NoGap : ℕ → Type 0
NoGap c = ((is_blank c || c == 10) ≡ false) × ((c == 13) ≡ false) × ((c == 35) ≡ false)

pub no_gap : (text : List ℕ) (i : ℕ) → NoGap (get_or text i 0) → begins_gap text i ≡ false
no_gap text i h = rw (h.0, h.1, h.2) refl

pub no_gap_is : (text : List ℕ) (i c : ℕ) → get_or text i 0 ≡ c → NoGap c → begins_gap text i ≡ false
no_gap_is text i c e h = no_gap text i (rw e h)

pub keylike_no_gap : (c : ℕ) → is_keylike c ≡ true → NoGap c
keylike_no_gap c h = grind (arith, nat_tests, common_steps)

-- a sign, or what there is without one
signed_no_gap : (text : List ℕ) (i : ℕ) → (after_sign text i ≡ i → is_keylike (get_or text i 0) ≡ true) → NoGap (get_or text i 0)
signed_no_gap text i h = grind (arith, nat_tests, common_steps)

digits_no_gap : (text : List ℕ) (i : ℕ) → is_digit_in 10 (get_or text (after_sign text i) 0) ≡ true → NoGap (get_or text i 0)
digits_no_gap text i h = signed_no_gap text i (λ at. digit_keylike 10 (get_or text i 0) (rw at at h))

radix_no_gap : (text : List ℕ) (i radix : ℕ) → radix_at text i ≡ Some radix → NoGap (get_or text i 0)
radix_no_gap text i radix h = grind (arith, nat_tests, common_steps)

-- the text of a special float, after its sign
word_no_gap : (text : List ℕ) (i j c : ℕ) (cs : List ℕ) → SpecialFloat (c ∷ cs) text i j → is_keylike c ≡ true → NoGap (get_or text i 0)
word_no_gap text i j c cs h k = signed_no_gap text i (λ at. rw ((slice_first text i j c cs (rw at at h.some) h.within (rw at at h.letters)).0) k)

scalar_starts : (s : Scalar) (span : Span) (text : List ℕ) (i j : ℕ) → SpellsScalar s span text i j → NoGap (get_or text i 0)
scalar_starts (text_scalar v) span text i j (source, multi, h) = elim h.quote [ inl e ↦ rw e (refl, refl, refl) | inr e ↦ rw e (refl, refl, refl) ]
scalar_starts (integer z) span text i j (no_date, inl h, is) = digits_no_gap text i h.digits.digits.begins
scalar_starts (integer z) span text i j (no_date, inr h, is) = radix_no_gap text i h.radix h.prefix
scalar_starts (float (finite digits)) span text i j (no_date, h, is) = digits_no_gap text i h.0.integer_part.digits.begins
scalar_starts (float (infinite b)) span text i j (no_date, h, is) = word_no_gap text i j 105 (110 ∷ 102 ∷ []) h.0 refl
scalar_starts (float (not_a_number b)) span text i j (no_date, h, is) = word_no_gap text i j 110 (97 ∷ 110 ∷ []) h.0 refl
scalar_starts (boolean b) span text i j (h, is) = keylike_no_gap (get_or text i 0) (h.1.passes i (omega arith) h.0)
scalar_starts (datetime d) span text i j h = keylike_no_gap (get_or text i 0) (decimal_keylike (get_or text i 0) (and_parts _ _ (and_parts _ _ h.0).0).0)

pub value_starts : (v : ParsedValue) (text : List ℕ) (limit d i j : ℕ) → Spells v text limit d i j → begins_gap text i ≡ false
value_starts (parsed (scalar s) span) text limit d i j h = no_gap text i (scalar_starts s span text i j h.1)
value_starts (parsed (array vs) span) text limit d i j h = no_gap_is text i 91 h.1.0 (refl, refl, refl)
value_starts (parsed (inline ps) span) text limit d i j h = no_gap_is text i 123 h.1.0 (refl, refl, refl)

pub key_starts : (s : SimpleKey) (text : List ℕ) (i j : ℕ) → SpellsSimpleKey s text i j → NoGap (get_or text i 0)
key_starts s text i j h = grind (arith, nat_tests, common_steps)

-- ---- gaps

pub nothing : (text : List ℕ) (i : ℕ) → begins_gap text i ≡ false → MaximalGap text i i
nothing text i h = record { ends = []; pieces = refl; forward = omega arith; stops = h }

pub blank_run : (text : List ℕ) (i : ℕ) → get_or text i 0 ≡ 32 → i < length text → is_blank (get_or text (i + 1) 0) ≡ false → MaximalRun is_blank text i (i + 1)
blank_run text i e l h = grind (arith, nat_tests, common_steps)
