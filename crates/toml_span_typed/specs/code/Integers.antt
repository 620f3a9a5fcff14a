-- Conversions between integer types.
use Rattle.std.specs.Prelude.{◌≡◌, ℤ, Option, None, Some, Result, MatchResult}

-- The conversion returns the number that `held` returns for the integer, or an error if that is None.
abbrev pub Converts : {T E : Type 0} → (ℤ → Result T E → Type 0) → (ℤ → Option T) → Type 0
Converts gives held = (z : ℤ) (r : Result _ _) → gives z r → MatchResult r (λ n. held z ≡ Some n) (λ _. held z ≡ None)
