-- Integers of a few digits only.
use Rattle.toml_span_lex.proofs.Common.{common_steps, ◌≡◌, ℕ, ◌+◌, ◌-◌, ◌<◌, ◌≤◌, true, false, drop, List, length, get_or, arith, inl, inr, refl, sym, ◌∙◌, ℤ, ◌*◌, slice_range, ◌==◌, Ok, IsUtf8, IsCharBoundary, cases_lt, false≢true, or_left, nat_tests, is_ascii_digit, digit_value}
use Rattle.toml_span_lex.specs.Bytes.{is_keylike}
use Rattle.toml_span_lex.proofs.Runs.{boundary_after}
use Rattle.toml_span_tree.specs.Node.{integer}
use Rattle.toml_span_read.specs.declared.value.ValKind.{ValKind}
use Rattle.toml_span_read.specs.Data.{parsed_kind, scalar}
use Rattle.toml_span_read.specs.Dates.{begins_date}
use Rattle.toml_span_read.specs.code.Gaps.{Further}
use Rattle.toml_span_read.specs.Numbers.{DecimalInteger, IsSigned}
use Rattle.toml_span_read.specs.Numerals.{is_digit_in, magnitude, after_sign}
use Rattle.toml_span_read.specs.Faults.{begins_number}
use Rattle.toml_span_read.specs.Numerals.{number}
use Rattle.toml_span_read.specs.Read as read
use Rattle.toml_span_read.specs.code.Values.{ScalarGives}
use Rattle.toml_span_read.proofs.NumberComplete.{number_complete}
use Rattle.toml_span_read.proofs.ValueRead.{number_first}
use Rattle.toml_span_read.proofs.NumberLemmas.{is_false, digit_figure, no_keylike_figure, digit_no_underscore, no_sign, stands_alone, Summed, sum_goes_on, range_length, range_at}

-- ---- digits

pub decimal_digit : (c : ℕ) → is_ascii_digit c ≡ true → is_digit_in 10 c ≡ true
decimal_digit c h = grind (arith, nat_tests)

pub decimal_value : (c : ℕ) → is_ascii_digit c ≡ true → digit_value c ≡ c - 48
decimal_value c h = grind (arith, nat_tests)

pub decimal_keylike : (c : ℕ) → is_ascii_digit c ≡ true → is_keylike c ≡ true
decimal_keylike c h = grind arith

abbrev pub Decimals : List ℕ → ℕ → ℕ → Type 0
Decimals text i j = (k : ℕ) → i ≤ k → k < j → is_ascii_digit (get_or text k 0) ≡ true

-- ---- no date begins with them

-- if there is a decimal digit at k, k is among the digits
among : (text : List ℕ) (i j k : ℕ) → is_keylike (get_or text j 0) ≡ false → k ≤ j → is_ascii_digit (get_or text k 0) ≡ true → k < j
among text i j k n le h = grind (arith, cases_lt, false≢true, decimal_keylike)

no_dash : (text : List ℕ) (i j k : ℕ) → Decimals text i j → is_keylike (get_or text j 0) ≡ false → i ≤ k → k ≤ j → (get_or text k 0 == 45) ≡ true → ⊥
no_dash text i j k h n a b e = grind (arith, nat_tests, common_steps)

no_colon : (text : List ℕ) (i j k : ℕ) → Decimals text i j → (get_or text j 0 == 58) ≡ false → i ≤ k → k ≤ j → (get_or text k 0 == 58) ≡ true → ⊥
no_colon text i j k h n a b e = grind (arith, nat_tests, common_steps)

date_no : (text : List ℕ) (i j : ℕ) → i < j → Decimals text i j → is_keylike (get_or text j 0) ≡ false → (get_or text j 0 == 58) ≡ false → begins_date text i ≡ true → ⊥
date_no text i j l h n c b =
    grind (arith, among text i j (i + 1) n, among text i j (i + 2) n, among text i j (i + 3) n, no_colon text i j (i + 2) h c, no_dash text i j (i + 4) h n)

-- ---- the number that they denote

-- the digits from `from` to `at` have been read, and denote v
pub record FewDigits (text : List ℕ) (from at v : ℕ) : Type 0 where
  pub digits : Decimals text from at
  pub sum : (j : ℕ) → at ≤ j → j ≤ length text → Summed 10 v (drop (at - from) (slice_range text from j)) (slice_range text from j)

pub few_more : (text : List ℕ) (from at v w : ℕ) → from ≤ at → is_ascii_digit (get_or text at 0) ≡ true → w ≡ v * 10 + (get_or text at 0 - 48) → FewDigits text from at v → FewDigits text from (at + 1) w
few_more text from at v w f h e s = record {
  digits = λ k a b. elim (cases_lt k at) [ inl x ↦ s.digits k a x | inr x ↦ let same : k ≡ at = omega arith in rw same h ];
  sum = λ j a l. (
      let ds : List ℕ = slice_range text from j in
      let is : get_or ds (at - from) 0 ≡ get_or text at 0 = range_at text from j at f (omega arith) in
      let below : at - from < length ds = omega (arith, range_length text from j l) in
      let next : (at + 1) - from ≡ (at - from) + 1 = omega arith in
      let digit : is_digit_in 10 (get_or ds (at - from) 0) ≡ true = rw is (decimal_digit (get_or text at 0) h) in
      let value : w ≡ v * 10 + digit_value (get_or ds (at - from) 0) = rw (is, decimal_value (get_or text at 0) h) e in
      rw next (sum_goes_on 10 v w (at - from) ds below digit value (s.sum j (omega arith) l))
      );
}

-- ---- the integer

pub short_spelled : (n : ℤ) (text : List ℕ) (i j m : ℕ) → i < j → j ≤ length text → Decimals text i j → m ≡ magnitude 10 text i j → (get_or text i 0 ≡ 48 → j ≡ i + 1) → is_keylike (get_or text j 0) ≡ false → (get_or text j 0 == 46) ≡ false
    → (get_or text j 0 == 58) ≡ false → IsSigned false m n → (begins_date text i ≡ false) × DecimalInteger n text i j
short_spelled n text i j m l w h v lead k dot colon value =
    let first = h i (omega arith) l in
    let plus : (get_or text i 0 == 43) ≡ false = grind (arith, nat_tests) in
    let dash : (get_or text i 0 == 45) ≡ false = grind (arith, nat_tests) in
    let b : after_sign text i ≡ i = no_sign text i plus dash in (
      is_false _ (date_no text i j l h k colon),
      record {
        digits = rw b (record { digits = grind (arith, decimal_digit, digit_figure, no_keylike_figure, digit_no_underscore); leading = lead });
        ends = stands_alone text j k dot;
        value = rw (b, dash, ← v) value;
      },
    )

pub short_made : (kind : ValKind) (n : ℤ) (text : List ℕ) (i j m : ℕ) → parsed_kind kind ≡ scalar (integer n) → i < j → j ≤ length text → Decimals text i j → m ≡ magnitude 10 text i j
    → (get_or text i 0 ≡ 48 → j ≡ i + 1) → is_keylike (get_or text j 0) ≡ false → (get_or text j 0 == 46) ≡ false → (get_or text j 0 == 58) ≡ false → IsSigned false m n → ScalarGives (read.bare text i) (Ok (kind, j))
short_made kind n text i j m e l w h v lead k dot colon value =
    let s = short_spelled n text i j m l w h v lead k dot colon value in
    let read : number text i ≡ Ok (integer n, j) = number_complete (integer n) text i j (inl s.1) in
    (integer n, e, inr (s.0, sym read ∙ sym (number_first text i (or_left (begins_number (get_or text i 0)) _ (rw (h i (omega arith) l) refl)))))

pub short_further : (text : List ℕ) (i j : ℕ) → IsUtf8 text → IsCharBoundary text i → i < j → j ≤ length text → Decimals text i j → Further text i j
short_further text i j u b l w h = record { on = l; boundary = boundary_after is_ascii_digit text i j (λ c d. grind arith) u b (omega arith) w h }
