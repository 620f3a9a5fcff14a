-- A step of the comparison of a compiled schema with its JSON.
use Rattle.std.proofs.Common.{◌≡◌, ℕ, zero, suc, ◌-◌, ◌<◌, false, ap, refl, arith}
use Rattle.json.specs.Json.{Json}
use Rattle.toml_span_schema.specs.Compiled.{compiled, inner, step}
use Rattle.toml_span_schema.specs.Valid.{keywords}
use Rattle.toml_span_schema.specs.declared.schema.Schema.{Schema}

pub compiled_more : (s : Schema) (d n : ℕ) (j : Json) (k : ℕ) → 0 < n
    → step (inner s (compiled s d (n - 1))) s d j (keywords s k) ≡ compiled s d n j k
unfolding compiled
compiled_more s d zero j k h = absurd (omega arith)
compiled_more s d (suc n) j k h =
    let e : suc n - 1 ≡ n = omega arith in ap (λ m. step (inner s (compiled s d m)) s d j (keywords s k)) e

pub compiled_none : (s : Schema) (d n : ℕ) (j : Json) (k : ℕ) → n ≡ 0 → false ≡ compiled s d n j k
unfolding compiled
compiled_none s d zero j k h = refl
compiled_none s d (suc n) j k h = absurd (omega arith)
