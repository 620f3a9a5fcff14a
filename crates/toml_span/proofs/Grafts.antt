-- States below a step, and claims one after another.
use Rattle.std.specs.Option.{option_or}
use Rattle.toml_span_lex.proofs.Common.{◌≡◌, true, false, [], ◌∷◌, Option, None, refl, sym, ap, ◌∙◌, inl, inr, cases_Bool, bytes_eq-Decides, arith, nat_tests, common_steps}
use Rattle.toml_span_tree.specs.Path.{Path, Step}
use Rattle.toml_span_read.specs.Paths.{same_step, same_path}
use Rattle.toml_span_read.proofs.PathLemmas.{same_step-eq, same_step-self}
use Rattle.toml_span.specs.Claims.{Claims, no_claims, claimed, scope, followed}
use Rattle.toml_span.specs.code.Machine.{Cell, CellMap, no_cells, change, with_claim, with_inner, show_all, put_all, clash_found, graft}
use Rattle.toml_span.specs.code.Relative.{step_down, under}

pub fun_ext : {A B : Type 0} {f g : A → B} → ((x : A) → f x ≡ g x) → f ≡ g
fun_ext h = λ i x. h x i

-- at the empty path, and below each step
pub path_ext : {A : Type 0} {f g : Path → A} → f [] ≡ g [] → ((s : Step) (p : Path) → f (s ∷ p) ≡ g (s ∷ p)) → f ≡ g
path_ext {A} {f} {g} here below = fun_ext at
  where
    at : (p : Path) → f p ≡ g p
    at [] = here
    at (s ∷ p) = below s p

-- a state that is `sub` below a step, and f elsewhere
pub graft-is : {A : Type 0} (s : Step) (f sub g : Path → A) → g [] ≡ f [] → (λ q. g (s ∷ q)) ≡ sub
    → ((t : Step) (q : Path) → same_step s t ≡ false → g (t ∷ q) ≡ f (t ∷ q)) → g ≡ graft s f sub
unfolding graft
graft-is s f sub g here below apart = fun_ext at
  where
    at : (p : Path) → g p ≡ graft s f sub p
    at [] = here
    at (t ∷ q) =
        elim (cases_Bool (same_step s t)) [
          | inl same ↦ rw same (ap (λ u. g (u ∷ q)) (sym (same_step-eq s t same)) ∙ ap (λ h. h q) below)
          | inr other ↦ rw other (apart t q other)
        ]

pub graft-itself : {A : Type 0} (s : Step) (f : Path → A) → graft s f (λ q. f (s ∷ q)) ≡ f
graft-itself s f = sym (graft-is s f (λ q. f (s ∷ q)) f refl refl (λ t q off. refl))

pub sub-graft : {A : Type 0} (s : Step) (f sub : Path → A) → (λ q. graft s f sub (s ∷ q)) ≡ sub
unfolding graft
sub-graft s f sub = fun_ext (λ q. rw (same_step-self s))

pub graft-graft : {A : Type 0} (s : Step) (f a b : Path → A) → graft s (graft s f a) b ≡ graft s f b
unfolding graft
graft-graft s f a b = graft-is s f b (graft s (graft s f a) b) refl (sub-graft s (graft s f a) b) (λ t q off. rw off)

-- ---- claims below a step

-- a change below a step is the same change, seen from there
sub-change-under : (s : Step) (st : CellMap) (p : Path) (f : Cell → Cell) → (λ q. change st (s ∷ p) f (s ∷ q)) ≡ change (λ q. st (s ∷ q)) p f
unfolding change same_path
sub-change-under s st p f = fun_ext (λ q. rw (same_step-self s))

change-under : (s : Step) (st : CellMap) (p : Path) (f : Cell → Cell) → change st (s ∷ p) f ≡ graft s st (change (λ q. st (s ∷ q)) p f)
unfolding change same_path
change-under s st p f = graft-is s st (change (λ q. st (s ∷ q)) p f) (change st (s ∷ p) f) refl (sub-change-under s st p f) (λ t q off. rw off)

-- further claims below the step
more-under : (run : CellMap → Claims → CellMap) (s : Step) (st sub : CellMap) (cs : Claims) → ((f : CellMap) → run f (under s cs) ≡ graft s f (run (λ q. f (s ∷ q)) cs))
    → run (graft s st sub) (under s cs) ≡ graft s st (run sub cs)
more-under run s st sub cs h = h (graft s st sub) ∙ ap (λ f. graft s (graft s st sub) (run f cs)) (sub-graft s st sub) ∙ graft-graft s st sub (run sub cs)

pub show_all-under : (s : Step) (st : CellMap) (cs : Claims) → show_all st (under s cs) ≡ graft s st (show_all (λ q. st (s ∷ q)) cs)
unfolding show_all under
show_all-under s st no_claims = sym (graft-itself s st)
show_all-under s st (claimed c cs) =
    ap (λ f. show_all f (under s cs)) (change-under s st c.path (with_inner c)) ∙ more-under show_all s st (change (λ q. st (s ∷ q)) c.path (with_inner c)) cs
    (λ f. show_all-under s f cs)
show_all-under s st (scope inner cs) =
    ap (λ f. show_all f (under s cs)) (show_all-under s st inner) ∙ more-under show_all s st (show_all (λ q. st (s ∷ q)) inner) cs (λ f. show_all-under s f cs)

pub put_all-under : (s : Step) (st : CellMap) (cs : Claims) → put_all st (under s cs) ≡ graft s st (put_all (λ q. st (s ∷ q)) cs)
unfolding put_all under
put_all-under s st no_claims = sym (graft-itself s st)
put_all-under s st (claimed c cs) =
    ap (λ f. put_all f (under s cs)) (change-under s st c.path (with_claim c)) ∙ more-under put_all s st (change (λ q. st (s ∷ q)) c.path (with_claim c)) cs (λ f. put_all-under s f cs)
put_all-under s st (scope inner cs) =
    ap (λ f. put_all f (under s cs)) (show_all-under s st inner) ∙ more-under put_all s st (show_all (λ q. st (s ∷ q)) inner) cs (λ f. put_all-under s f cs)

pub reported-under : (s : Step) (st : CellMap) (cs : Claims) → clash_found st (under s cs) ≡ clash_found (λ q. st (s ∷ q)) cs
unfolding clash_found under
reported-under s st no_claims = refl
reported-under s st (claimed c cs) = grind (arith, nat_tests, common_steps, sub-change-under, reported-under s (change st (s ∷ c.path) (with_claim c)) cs)
reported-under s st (scope inner cs) =
    ap (λ o. option_or o (clash_found (show_all st (under s inner)) (under s cs))) (reported-under s no_cells inner)
    ∙ ap (option_or (clash_found no_cells inner))
    (reported-under s (show_all st (under s inner)) cs ∙ ap (λ f. clash_found f cs) (ap (λ f q. f (s ∷ q)) (show_all-under s st inner) ∙ sub-graft s st (show_all (λ q. st (s ∷ q)) inner)))

pub under-followed : (s : Step) (xs ys : Claims) → under s (followed xs ys) ≡ followed (under s xs) (under s ys)
unfolding under followed
under-followed s no_claims ys = refl
under-followed s (claimed c cs) ys = ap (claimed (step_down s c)) (under-followed s cs ys)
under-followed s (scope inner cs) ys = ap (scope (under s inner)) (under-followed s cs ys)

-- ---- claims one after another

pub followed-assoc : (xs ys zs : Claims) → followed (followed xs ys) zs ≡ followed xs (followed ys zs)
unfolding followed
followed-assoc no_claims ys zs = refl
followed-assoc (claimed c cs) ys zs = ap (claimed c) (followed-assoc cs ys zs)
followed-assoc (scope inner cs) ys zs = ap (scope inner) (followed-assoc cs ys zs)

pub followed-none : (cs : Claims) → followed cs no_claims ≡ cs
unfolding followed
followed-none no_claims = refl
followed-none (claimed c cs) = ap (claimed c) (followed-none cs)
followed-none (scope inner cs) = ap (scope inner) (followed-none cs)

pub show_all-followed : (st : CellMap) (xs ys : Claims) → show_all st (followed xs ys) ≡ show_all (show_all st xs) ys
unfolding show_all followed
show_all-followed st no_claims ys = refl
show_all-followed st (claimed c cs) ys = show_all-followed (change st c.path (with_inner c)) cs ys
show_all-followed st (scope inner cs) ys = show_all-followed (show_all st inner) cs ys

pub put_all-followed : (st : CellMap) (xs ys : Claims) → put_all st (followed xs ys) ≡ put_all (put_all st xs) ys
unfolding put_all followed
put_all-followed st no_claims ys = refl
put_all-followed st (claimed c cs) ys = put_all-followed (change st c.path (with_claim c)) cs ys
put_all-followed st (scope inner cs) ys = put_all-followed (show_all st inner) cs ys

pub or_else-assoc : {A : Type 0} (x y z : Option A) → option_or (option_or x y) z ≡ option_or x (option_or y z)
or_else-assoc x y z = grind (arith, nat_tests, common_steps)

pub or_else-none : {A : Type 0} (x : Option A) → option_or x None ≡ x
or_else-none x = grind (arith, nat_tests, common_steps)

pub reported-followed : (st : CellMap) (xs ys : Claims) → clash_found st (followed xs ys) ≡ option_or (clash_found st xs) (clash_found (put_all st xs) ys)
unfolding clash_found put_all followed
reported-followed st no_claims ys = refl
reported-followed st (claimed c cs) ys = grind (arith, nat_tests, common_steps, or_else-assoc, reported-followed (change st c.path (with_claim c)) cs ys)
reported-followed st (scope inner cs) ys = grind (arith, nat_tests, common_steps, or_else-assoc, reported-followed (show_all st inner) cs ys)
