-- A date that begins in a part of a text begins in a copy of that part.
use Rattle.toml_span_lex.proofs.Common.{◌≡◌, ℕ, ◌+◌, ◌<◌, ◌≤◌, true, List, get_or, arith, inl, inr, sym, refl, ◌==◌, ◌&&◌, is_ascii_digit, or_cases, and_parts}
use Rattle.std.proofs.lemmas.Bool.{eqb-true}
use Rattle.toml_span_read.specs.Dates.{begins_date, is_date_byte}
use Rattle.toml_span_read.proofs.ShortIntegers.{decimal_keylike}

pub digit_date : (c : ℕ) → is_ascii_digit c ≡ true → is_date_byte c ≡ true
digit_date c h = rw (decimal_keylike c h) refl

pub this_date : (c k : ℕ) → is_date_byte k ≡ true → (c == k) ≡ true → is_date_byte c ≡ true
this_date c k d h = rw (eqb-true c k h) d

-- a date begins in another text too, if bytes of dates extend to an offset up to which the texts are equal
pub date_carried : (a b : List ℕ) (i k end : ℕ) → ((m : ℕ) → m ≤ end → is_date_byte (get_or a (i + m) 0) ≡ true → (m < end) × (get_or a (i + m) 0 ≡ get_or b (k + m) 0)) → begins_date a i ≡ true → begins_date b k ≡ true
date_carried a b i k end step h =
    let zi : i + 0 ≡ i = omega arith in
    let zk : k + 0 ≡ k = omega arith in
    let x = and_parts (is_ascii_digit (get_or a i 0) && is_ascii_digit (get_or a (i + 1) 0)) _ h in
    let y = and_parts (is_ascii_digit (get_or a i 0)) (is_ascii_digit (get_or a (i + 1) 0)) x.0 in
    let s0 : (0 < end) × (get_or a i 0 ≡ get_or b k 0) = rw (zi, zk) at (step 0 (omega arith) (rw zi (digit_date (get_or a i 0) y.0))) in
    let s1 = step 1 (omega arith) (digit_date (get_or a (i + 1) 0) y.1) in
    elim (or_cases (get_or a (i + 2) 0 == 58) _ x.1) [
      | inl c ↦ let s2 = step 2 (omega arith) (this_date (get_or a (i + 2) 0) 58 refl c) in rw (sym s0.1, sym s1.1, sym s2.1, y.0, y.1, c) refl
      | inr d ↦
          let f = and_parts (is_ascii_digit (get_or a (i + 2) 0) && is_ascii_digit (get_or a (i + 3) 0)) (get_or a (i + 4) 0 == 45) d in
          let g = and_parts (is_ascii_digit (get_or a (i + 2) 0)) (is_ascii_digit (get_or a (i + 3) 0)) f.0 in
          let s2 = step 2 (omega arith) (digit_date (get_or a (i + 2) 0) g.0) in
          let s3 = step 3 (omega arith) (digit_date (get_or a (i + 3) 0) g.1) in
          let s4 = step 4 (omega arith) (this_date (get_or a (i + 4) 0) 45 refl f.1) in
          rw (sym s0.1, sym s1.1, sym s2.1, sym s3.1, sym s4.1) h
    ]
