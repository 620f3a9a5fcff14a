-- The part of a path after the last slash.
use Rattle.std.proofs.Common.{◌≡◌, ◌∙◌, ◌==◌, ◌||◌, ap, ℕ, Bool, true, false, cond, List, [], ◌∷◌, ◌++◌, arith, get_or, refl}
use Rattle.std.proofs.lemmas.Bool.{ne_eqb}
use Rattle.std.proofs.lemmas.List.{get_or_default}
use Rattle.std.proofs.lemmas.List.Folds.{list_any_none}
use Rattle.std.proofs.lemmas.Str.Pattern.{NoCharPasses-char}
use Rattle.std.specs.Str.{NoCharPasses}
use Rattle.toml_span_check.specs.Folders.{last_name}
use Rattle.toml_span_check.specs.Patterns.{contains}

pub last_name-without : (path : List ℕ) → contains 47 path ≡ false → last_name path ≡ path
last_name-without [] none = refl
last_name-without (b ∷ bs) none = ap (λ t. cond t (last_name bs) (b ∷ bs)) none

or-true : (t : Bool) → (t || true) ≡ true
or-true true = refl
or-true false = refl

contains-slash : (front back : List ℕ) → contains 47 (front ++ 47 ∷ back) ≡ true
contains-slash [] back = refl
contains-slash (b ∷ bs) back = ap (λ t. (b == 47) || t) (contains-slash bs back) ∙ or-true (b == 47)

pub last_name-after : (front back : List ℕ) → contains 47 back ≡ false → last_name (front ++ 47 ∷ back) ≡ back
last_name-after [] back none = last_name-without back none
last_name-after (b ∷ bs) back none =
    ap (λ t. cond t (last_name (bs ++ 47 ∷ back)) (b ∷ bs ++ 47 ∷ back)) (contains-slash (b ∷ bs) back) ∙ last_name-after bs back none

pub no-slash : (bs : List ℕ) → NoCharPasses (λ d. d == 47) bs → contains 47 bs ≡ false
no-slash bs none =
    list_any_none (λ b. b == 47) bs
    (λ k d short. ne_eqb (get_or bs k d) 47 (λ is. NoCharPasses-char 47 bs k none (omega arith) short (get_or_default bs k 0 d short ∙ is)))
