-- Claims without clashes, form by form.
use Rattle.std.specs.Option.{option_or}
use Rattle.toml_span_lex.proofs.Common.{⊤, ◌≡◌, List, [], ◌∷◌, ◌++◌, Option, Some, None, option_map, refl, ◌⊎◌, inl, inr, arith, nat_tests, common_steps}
use Rattle.toml_span.specs.Claims.{Claim, Claims, no_claims, claimed, scope}
use Rattle.toml_span.specs.Clashes.{clash_among, clash_after}

-- none of the earlier claims clashes with it
abbrev pub IsFree : List Claim → Claim → Type 0
IsFree earlier later = clash_among earlier later ≡ None

-- no claim clashes with an earlier one of its scope
abbrev pub AreFree : List Claim → Claims → Type 0
AreFree earlier no_claims = ⊤
AreFree earlier (claimed c cs) = IsFree earlier c × AreFree (earlier ++ (c ∷ [])) cs
AreFree earlier (scope inner cs) = AreFree [] inner × AreFree earlier cs

pub cases_option : {A : Type 0} (o : Option A) → (o ≡ None) ⊎ ((x : A) × (o ≡ Some x))
cases_option None = inl refl
cases_option (Some x) = inr (x, refl)

pub mapped : {A B : Type 0} (f : A → B) (o : Option A) (y : B) → option_map f o ≡ Some y → (x : A) × (o ≡ Some x) × (f x ≡ y)
mapped f o y h = grind (arith, nat_tests, common_steps)

both-none : {A : Type 0} (x y : Option A) → option_or x y ≡ None → (x ≡ None) × (y ≡ None)
both-none x y h = grind (arith, nat_tests, common_steps)

pub are-free : (earlier : List Claim) (cs : Claims) → clash_after earlier cs ≡ None → AreFree earlier cs
unfolding clash_after
are-free earlier no_claims none = tt
are-free earlier (claimed c cs) none = grind (arith, nat_tests, common_steps, are-free (earlier ++ (c ∷ [])) cs, both-none)
are-free earlier (scope inner cs) none = grind (arith, nat_tests, common_steps, are-free [] inner, are-free earlier cs)

pub none-after : (earlier : List Claim) (cs : Claims) → AreFree earlier cs → clash_after earlier cs ≡ None
unfolding clash_after
none-after earlier no_claims free = refl
none-after earlier (claimed c cs) free = rw (free.0) (none-after (earlier ++ (c ∷ [])) cs free.1)
none-after earlier (scope inner cs) free = rw (none-after [] inner free.0) (none-after earlier cs free.1)
