-- Hexadecimal digits.
use Rattle.toml_span_lex.proofs.Common.{◌≡◌, ℕ, ◌+◌, ◌*◌, ◌^◌, ◌<◌, ◌≤◌, true, false, List, length, get_or, drop, arith, inl, inr, sym, ◌∙◌, get_or-drop, length-drop, refl, pow_more, cases_lt, digit_value}
use Rattle.std.proofs.Math.Pow.{pow_mono}
use Rattle.std.proofs.lemmas.Int.Digits.{digits_value_more}
use Rattle.toml_span_lex.specs.Escapes.{is_hex, HexRun, hex_value}

pub room : (v d k : ℕ) → v < 2 ^ (4 * k) → k < 8 → d < 16 → v * 16 + d < 2 ^ 32
room v d k b l h = let m : 2 ^ (4 * k) ≤ 2 ^ 28 = pow_mono {j = 28} (omega arith) in omega (arith, m)

four : (m n : ℕ) → n ≡ m + 4 → 2 ^ n ≡ 2 ^ m * 16
four m n e = rw e (let p : 2 ^ (((m + 1) + 1) + 1 + 1) ≡ 2 ^ m * 2 * 2 * 2 * 2 = rw (pow_more, pow_more, pow_more, pow_more) refl in
    let q : m + 4 ≡ ((m + 1) + 1) + 1 + 1 = omega arith in rw q (p ∙ omega arith))

pub grows : (v d k : ℕ) → v < 2 ^ (4 * k) → d < 16 → v * 16 + d < 2 ^ (4 * (k + 1))
grows v d k b h =
    let e : 2 ^ (4 * (k + 1)) ≡ 2 ^ (4 * k) * 16 = four (4 * k) (4 * (k + 1)) (omega arith) in
    rw e (omega arith)

pub hex_value_more : (text : List ℕ) (a k : ℕ) → a + k < length text → hex_value text a (k + 1) ≡ hex_value text a k * 16 + digit_value (get_or text (a + k) 0)
hex_value_more text a k l =
    rw (digits_value_more 16 (drop a text) k (omega (arith, length-drop a text)), get_or-drop) refl

pub hex_value_step : (text : List ℕ) (a k v d : ℕ) → a + k < length text → v ≡ hex_value text a k → d ≡ digit_value (get_or text (a + k) 0) → v * 16 + d ≡ hex_value text a (k + 1)
hex_value_step text a k v d l e h = rw (e, h) (sym (hex_value_more text a k l))

-- one more digit
pub HexRun-more : (text : List ℕ) (a b : ℕ) → HexRun text a b → b < length text → is_hex (get_or text b 0) ≡ true → HexRun text a (b + 1)
HexRun-more text a b r l h = record { within = omega arith; digits = λ k f g. elim (cases_lt k b) [ inl lt ↦ r.digits k f lt | inr ge ↦ let e : k ≡ b = omega arith in rw e h ] }

pub hex_ascii : (c : ℕ) → is_hex c ≡ true → c < 128
hex_ascii c h = grind arith

pub past_hex : (c : ℕ) → 128 ≤ c → is_hex c ≡ false
past_hex c h = grind arith
