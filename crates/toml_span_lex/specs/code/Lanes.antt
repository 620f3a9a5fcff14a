-- Masks of sixteen bytes.
use Rattle.std.specs.Prelude.{ℕ, List, Bool, map}
use Rattle.std.specs.Simd.Lanes.{mask_l}

-- The number whose bit k is set if and only if byte k passes the test p.
abbrev pub marked : (ℕ → Bool) → List ℕ → ℕ
marked p bytes = mask_l (map p bytes)
