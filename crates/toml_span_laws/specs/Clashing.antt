-- Claims in one scope: which of them clash, and which two clash first by the offsets of their keys.
use Rattle.std.specs.Prelude.{◌≡◌, ◌<◌, ◌⊎◌, List, [], ◌∷◌, ◌++◌, Some}
use Rattle.toml_span.specs.Claims.{Claim, Claims, no_claims, claimed, scope}
use Rattle.toml_span.specs.Clashes.{NamedClash, clash}
use Rattle.toml_span_laws.specs.Order.{claim_start}

-- The claim is in the list.
abbrev pub IsIn : Claim → List Claim → Type 0
IsIn c [] = ⊥
IsIn c (d ∷ ds) = (c ≡ d) ⊎ IsIn c ds

-- The claim d clashes with the earlier claim c.
abbrev pub DoClash : Claim → Claim → Type 0
DoClash c d = (t : NamedClash) × (clash c d ≡ Some t)

-- The claim d clashes with c, an earlier claim of its scope. `earlier` has the claims of the outer scope that come
-- before the given `Claims`.
abbrev pub IsPair : List Claim → Claims → Claim → Claim → Type 0
IsPair earlier no_claims c d = ⊥
IsPair earlier (claimed x cs) c d = ((d ≡ x) × IsIn c earlier × DoClash c d) ⊎ IsPair (earlier ++ (x ∷ [])) cs c d
IsPair earlier (scope inner cs) c d = IsPair [] inner c d ⊎ IsPair earlier cs c d

-- The claim d clashes with c, an earlier claim of its scope. The claim d starts before every other claim that clashes
-- with an earlier one of its scope, and c starts before every other earlier claim that clashes with d.
pub record IsFirstPair (earlier : List Claim) (cs : Claims) (c d : Claim) : Type 0 where
  pub pair : IsPair earlier cs c d
  pub first : (e f : Claim) → IsPair earlier cs e f → (f ≡ d) ⊎ (claim_start d < claim_start f)
  pub partner : (e : Claim) → IsPair earlier cs e d → (e ≡ c) ⊎ (claim_start c < claim_start e)

-- ---- claims of one scope

-- the claims of the outer scope, without those of inner scopes
abbrev pub own : Claims → List Claim
own no_claims = []
own (claimed c cs) = c ∷ own cs
own (scope inner cs) = own cs

-- Both claims belong to the same inner scope.
abbrev pub ShareInside : Claims → Claim → Claim → Type 0
ShareInside no_claims c d = ⊥
ShareInside (claimed x cs) c d = ShareInside cs c d
ShareInside (scope inner cs) c d = (IsIn c (own inner) × IsIn d (own inner)) ⊎ ShareInside inner c d
    ⊎ ShareInside cs c d

-- Both claims belong to the same scope, the outer one or an inner one.
abbrev pub ShareScope : Claims → Claim → Claim → Type 0
ShareScope cs c d = (IsIn c (own cs) × IsIn d (own cs)) ⊎ ShareInside cs c d
