-- Escapes.
use Rattle.toml_span_lex.proofs.Common.{◌≡◌, ℕ, ◌<◌, ◌≤◌, false, Some, None, arith, sym, ◌∙◌, refl, nat_tests}
use Rattle.toml_span_lex.specs.Escapes.{simple_escape, hex_len, opens_escape}

pub past_escape : (c : ℕ) → 128 ≤ c → opens_escape c ≡ false
past_escape c h = grind (arith, nat_tests)

pub simple_ascii : (b c : ℕ) → simple_escape b ≡ Some c → b < 128
simple_ascii b c e = grind (arith, nat_tests)

pub closed : (b n : ℕ) → simple_escape b ≡ None → n ≡ hex_len b → n ≤ 0 → opens_escape b ≡ false
closed b n e l h = let z : n ≡ 0 = omega arith in rw (e, sym l ∙ z) refl
