-- What holds for each claim holds for what decides in the flat document.
use Rattle.std.specs.Option.{option_or}
use Rattle.toml_span_lex.proofs.Common.{◌≡◌, ℕ, suc, true, List, [], ◌∷◌, Option, Some, option_map, refl, ⊤, IfSome, false≢true, and_parts, AllByRecursion, arith, nat_tests, common_steps, find, filter}
use Rattle.toml_span_tree.specs.Path.{Path, Step, Place}
use Rattle.toml_span_read.proofs.BorrowLemmas.{all_append}
use Rattle.toml_span_read.specs.Data.{ParsedValue as Read, parsed, ParsedInner, scalar, array, inline, ParsedItems, no_items, item, ParsedPairs, no_pairs, pair, ParsedAssignment, SimpleKey}
use Rattle.toml_span.specs.Claims.{Claim, Claims, no_claims, claimed, scope, followed, dotted, assigned, element, key_claims, value_claims, inner_claims, item_claims, pair_claims, assignments_claims}
use Rattle.toml_span.specs.Flat.{by_header, flat, all_claims, deciding_claim}
use Rattle.toml_span_read.specs.Paths.{same_path, same_step, with_key, with_position}
use Rattle.toml_span_read.proofs.PathLemmas.{same_path-eq}

-- ---- claims

-- P holds for each claim, in every scope
abbrev pub Each : (Claim → Type 0) → Claims → Type 0
Each P no_claims = ⊤
Each P (claimed c cs) = P c × Each P cs
Each P (scope inner cs) = Each P inner × Each P cs

pub each-followed : (P : Claim → Type 0) (xs ys : Claims) → Each P xs → Each P ys → Each P (followed xs ys)
unfolding followed
each-followed P no_claims ys h g = g
each-followed P (claimed c xs) ys h g = (h.0, each-followed P xs ys h.1 g)
each-followed P (scope inner xs) ys h g = (h.0, each-followed P xs ys h.1 g)

-- P holds for all claims of values and assignments, if it does for each part of a key and for each element
module _ (P : Claim → Type 0) (of_inner : (p : Path) (k : SimpleKey) (v : Read) → P (dotted (with_key p k) k v)) (of_last : (p : Path) (k : SimpleKey) (v : Read) → P (assigned (with_key p k) k v))
    (of_element : (p : Path) (i : ℕ) (v : Read) → P (element (with_position p i) v)) where
  pub key-each : (p : Path) (parts : List SimpleKey) (v : Read) (inside : Path → Claims) → ((q : Path) → Each P (inside q)) → Each P (key_claims p parts v inside)
  unfolding key_claims
  key-each p [] v inside h = tt
  key-each p (k ∷ []) v inside h = (of_last p k v, h (with_key p k))
  key-each p (k ∷ l ∷ more) v inside h = (of_inner p k v, key-each (with_key p k) (l ∷ more) v inside h)

  mutual
    unfolding value_claims inner_claims item_claims pair_claims

    pub value-each : (v : Read) (p : Path) → Each P (value_claims v p)
    value-each (parsed k span) p = inner-each k p

    inner-each : (k : ParsedInner) (p : Path) → Each P (inner_claims k p)
    inner-each (scalar s) p = tt
    inner-each (array vs) p = (items-each vs 0 p, tt)
    inner-each (inline ps) p = (pairs-each ps p, tt)

    pub items-each : (vs : ParsedItems) (i : ℕ) (p : Path) → Each P (item_claims vs i p)
    items-each no_items i p = tt
    items-each (item v vs) i p = (of_element p i v, each-followed P (value_claims v (with_position p i)) (item_claims vs (suc i) p) (value-each v (with_position p i)) (items-each vs (suc i) p))

    pub pairs-each : (ps : ParsedPairs) (p : Path) → Each P (pair_claims ps p)
    pairs-each no_pairs p = tt
    pairs-each (pair parts v extent rest) p =
        each-followed P (key_claims p parts v (value_claims v)) (pair_claims rest p) (key-each p parts v (value_claims v) (value-each v)) (pairs-each rest p)

  pub assignments-each : (es : List ParsedAssignment) (p : Path) → Each P (assignments_claims es p)
  unfolding assignments_claims
  assignments-each [] p = tt
  assignments-each (e ∷ es) p =
      each-followed P (key_claims p e.parts e.value (value_claims e.value)) (assignments_claims es p) (key-each p e.parts e.value (value_claims e.value) (value-each e.value)) (assignments-each es p)

-- and for each claim of a list
pub each-all : (P : Claim → Type 0) (cs : Claims) → Each P cs → AllByRecursion P (all_claims cs)
unfolding all_claims
each-all P no_claims h = tt
each-all P (claimed c cs) h = (h.0, each-all P cs h.1)
each-all P (scope inner cs) h = all_append P (all_claims inner) (all_claims cs) (each-all P inner h.0) (each-all P cs h.1)

-- the claims on this path among these claims
abbrev pub claims_at : Path → List Claim → List Claim
claims_at p cs = filter (λ c. same_path c.path p) cs

-- P holds for the claim, which is on this path
abbrev On : (Claim → Type 0) → Path → Claim → Type 0
On P q c = P c × (c.path ≡ q)

each-at : (P : Claim → Type 0) (q : Path) (cs : List Claim) → AllByRecursion P cs → AllByRecursion (On P q) (claims_at q cs)
each-at P q [] h = tt
each-at P q (c ∷ cs) h = grind (arith, nat_tests, common_steps, same_path-eq, each-at P q cs)

by_header-one : (P : Claim → Type 0) (cs : List Claim) → AllByRecursion P cs → IfSome (find (λ c. by_header c.info.kind) cs) P
by_header-one P [] h = tt
by_header-one P (c ∷ cs) h = grind (arith, nat_tests, common_steps, by_header-one P cs)

pub either-one : {A : Type 0} (P : A → Type 0) (o p : Option A) → IfSome o P → IfSome p P → IfSome (option_or o p) P
either-one P o p h g = grind (arith, nat_tests, common_steps)

deciding-one : (P : Claim → Type 0) (cs : List Claim) → AllByRecursion P cs → IfSome (deciding_claim cs) P
deciding-one P [] h = tt
deciding-one P (c ∷ cs) h = either-one P (find (λ d. by_header d.info.kind) (c ∷ cs)) (Some c) (by_header-one P (c ∷ cs) h) h.0

-- ---- the flat document

-- the claim that decides at a path, for which P holds
pub record Decides (P : Claim → Type 0) (q : Path) (x : Place) : Type 0 where
  pub claim : Claim
  pub on : claim.path ≡ q
  pub place : claim.place ≡ x
  pub holds : P claim

decided : (P : Claim → Type 0) (q : Path) (o : Option Claim) (x : Place) → IfSome o (On P q) → option_map (λ c. c.place) o ≡ Some x → Decides P q x
decided P q o x h is = grind (arith, nat_tests, common_steps)

pub flat-decides : (P : Claim → Type 0) (length : ℕ) (cs : Claims) (s : Step) (p : Path) (x : Place) → Each P cs → flat length cs (s ∷ p) ≡ Some x → Decides P (s ∷ p) x
unfolding flat
flat-decides P length cs s p x h is =
    let here = each-at P (s ∷ p) (all_claims cs) (each-all P cs h) in
    decided P (s ∷ p) (deciding_claim (claims_at (s ∷ p) (all_claims cs))) x (deciding-one (On P (s ∷ p)) (claims_at (s ∷ p) (all_claims cs)) here) is
