-- Character boundaries, and the start of a line.
use Rattle.toml_span_lex.proofs.Common.{◌≡◌, ℕ, zero, suc, ◌+◌, ◌-◌, ◌<◌, ◌≤◌, true, List, [], ◌∷◌, ◌++◌, length, get_or, arith, refl, inl, inr, ◌==◌, ◌||◌, if◌then◌else◌, slice_index, IsUtf8, IsCharBoundary, cases_lt, cond_both, nat_tests, IsCharBoundary-after_ascii, IsCharBoundary-past_char, common_steps}
use lib.Utf8.{encode}
use Rattle.toml_span_report.specs.Places.{is_between, floor_boundary, line_start, bom_end}

pub between_true : (text : List ℕ) (i : ℕ) → IsCharBoundary text i → is_between text i ≡ true
between_true text i h = grind (arith, nat_tests, common_steps)

pub true_between : (text : List ℕ) (i : ℕ) → is_between text i ≡ true → IsCharBoundary text i
true_between text i h = (grind (arith, nat_tests), λ lt big. grind (arith, nat_tests))

-- the nearest character boundary at or before an offset is its `floor_boundary`
pub floor_boundary_is : (text : List ℕ) (at r : ℕ) → r ≤ at → IsCharBoundary text r → ((i : ℕ) → r < i → i ≤ at → ¬ (IsCharBoundary text i)) → r ≡ floor_boundary text at
unfolding floor_boundary
floor_boundary_is text zero r le b none = omega arith
floor_boundary_is text (suc i) r le b none = cond_both (is_between text (suc i)) (suc i) (floor_boundary text i) (λ n. r ≡ n)
    (λ here. elim (cases_lt r (suc i)) [
      | inl lt ↦ absurd (none (suc i) lt (omega arith) (true_between text (suc i) here))
      | inr ge ↦ omega arith
    ])
    (λ past. elim (cases_lt r (suc i)) [
      | inl lt ↦ floor_boundary_is text i r (omega arith) b (λ j above below. none j above (omega arith))
      | inr ge ↦ let same : r ≡ suc i = omega arith in let met = between_true text (suc i) (rw same at b) in cc
    ])

-- the start of the line of an offset, from that of the offset one byte before it
pub line_start-step : (text : List ℕ) (n : ℕ) → 0 < n → line_start text n ≡ (if n == bom_end text || slice_index text (n - 1) == 10 then n else line_start text (n - 1))
unfolding line_start
line_start-step text n some = grind (arith, nat_tests, common_steps)

pub line_start-zero : (text : List ℕ) → 0 ≡ line_start text 0
unfolding line_start
line_start-zero text = refl

pub after_feed : (text : List ℕ) (n : ℕ) → IsUtf8 text → 0 < n → n ≤ length text → get_or text (n - 1) 0 ≡ 10 → IsCharBoundary text n
after_feed text n utf8 some within feed =
    let e : n ≡ n - 1 + 1 = omega arith in
    rw e (IsCharBoundary-after_ascii text (n - 1) utf8 (omega arith) (omega arith))

-- a byte order mark is a character of three bytes
pub mark_boundary : (text : List ℕ) → IsUtf8 text → get_or text 0 0 ≡ 0xEF → get_or text 1 0 ≡ 0xBB → get_or text 2 0 ≡ 0xBF → IsCharBoundary text 3
unfolding encode
mark_boundary [] utf8 one two three = cc
mark_boundary (a ∷ []) utf8 one two three = cc
mark_boundary (a ∷ b ∷ []) utf8 one two three = cc
mark_boundary (a ∷ b ∷ c ∷ rest) utf8 one two three =
    let first : a ≡ 0xEF = one in
    let second : b ≡ 0xBB = two in
    let third : c ≡ 0xBF = three in
    let mark : 0xEF ∷ 0xBB ∷ 0xBF ∷ rest ≡ encode 0xFEFF ++ rest = refl in
    let whole : a ∷ b ∷ c ∷ rest ≡ encode 0xFEFF ++ rest = cc in
    IsCharBoundary-past_char (a ∷ b ∷ c ∷ rest) rest 0 0xFEFF (omega arith) utf8 whole
