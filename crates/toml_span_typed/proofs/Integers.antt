-- What the conversions of integers give.
use Rattle.toml_span_lex.proofs.Common.{ℕ, ◌^◌, OkIff, FitsSigned, unsigned_abs, arith, nat_tests, hbits}
use Rattle.std.specs.Int.{FitsUnsignedBits, Width}
use Rattle.toml_span_typed.specs.code.Integers.{Converts}
use Rattle.toml_span_typed.specs.Reads.{signed, unsigned}

-- a conversion to an unsigned type with this many bits
pub unsigned_converts : (bits : ℕ) {E : Type 0}
    → Converts {E = E} (λ z r. OkIff r (FitsUnsignedBits bits z) (unsigned_abs z)) (unsigned (2 ^ bits))
unsigned_converts bits z r h = grind (arith, nat_tests)

-- a conversion to a signed type of this width
pub signed_converts : (w : Width) {E : Type 0}
    → Converts {E = E} (λ z r. OkIff r (FitsSigned w z) z) (signed (2 ^ hbits w))
signed_converts w z r h = grind (arith, nat_tests)
