-- The bytes of a file before the first one that is not UTF-8.
use Rattle.toml_span_lex.proofs.Common.{◌≡◌, ◌≤◌, ℕ, List, IsUtf8, length, take, subst, sym, arith}
use Rattle.std.specs.Str.{IsValidUpTo}

pub front_within : (bytes : List ℕ) (n : ℕ) → IsValidUpTo bytes n → n ≤ length bytes
front_within bytes n front = omega (arith, front.short)

-- they are UTF-8
pub front_is_utf8 : (bytes part : List ℕ) (n : ℕ) → IsValidUpTo bytes n → part ≡ take n bytes → ¬ (IsUtf8 part) → ⊥
front_is_utf8 bytes part n front is none = none (subst IsUtf8 (sym is) front.front)
