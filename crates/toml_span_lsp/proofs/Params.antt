-- Integers in parameters.
use Rattle.toml_span_lex.proofs.Common.{◌≡◌, ◌∙◌, ℕ, List, Option, Some, None, Result, Ok, Err, OkIff, IfSome, MatchOption, sym, subst}
use Rattle.std.specs.Prelude.{ok_or}
use Rattle.std.specs.Str.Parse.{ParsesUnsigned}
use Rattle.std.specs.Result.{result_ok}
use Rattle.json.specs.Find.{as_number, get}
use Rattle.json.specs.Json.{Json}
use Rattle.json.specs.Json as json
use Rattle.toml_span_lsp.specs.Params.{HasCount, IsCount}

-- what `as_u64` returns for a value
pub count_is : (value : Json) (count : ℕ) → MatchOption (as_number value) (Some count ≡ None) (λ s. ParsesUnsigned 64 10 s (ok_or (Some count) s)) → IsCount value count
count_is json.null count h = cc
count_is (json.boolean b) count h = cc
count_is (json.number s) count h = (h.0.0, h.1)
count_is (json.string s) count h = cc
count_is (json.array js) count h = cc
count_is (json.object ms) count h = cc

-- a count as a `usize`
pub count_read : {E : Type 0} (r : Result ℕ E) (o : Option ℕ) (v count : ℕ) (P : Type 0) (name : List ℕ) (value j : Json) → Some j ≡ get name value → o ≡ result_ok r
    → OkIff r P v → v ≡ count → IsCount j count → IfSome o (HasCount name value)
count_read (Ok x) o v count P name value j found is ok same one =
    subst (λ (q : Option ℕ). IfSome q (HasCount name value)) (sym is) (j, sym found, subst (IsCount j) (sym (ok.1 ∙ same)) one)
count_read (Err e) o v count P name value j found is ok same one = subst (λ (q : Option ℕ). IfSome q (HasCount name value)) (sym is) tt
