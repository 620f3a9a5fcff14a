-- A state shows what the flat document says.
use Rattle.std.specs.Option.{option_or}
use Rattle.std.proofs.lemmas.List.Elements.{filter-append}
use Rattle.toml_span_lex.proofs.Common.{◌≡◌, ℕ, Bool, true, false, List, [], ◌∷◌, ◌++◌, Option, Some, None, option_map, refl, sym, ap, ◌∙◌, inl, inr, if◌then◌else◌, ⊤, cases_Bool, arith, nat_tests, common_steps, find, slice_get}
use Rattle.toml_span_lex.specs.declared.span.Span.{Span}
use Rattle.toml_span_tree.specs.Path.{Path, Step, Place}
use Rattle.toml_span_read.specs.Data.{ParsedAssignment}
use Rattle.toml_span.specs.Claims.{Claim, Claims, no_claims, claimed, scope, assignments_claims}
use Rattle.toml_span.specs.Flat.{by_header, all_claims, deciding_claim, flat}
use Rattle.toml_span.specs.Borrowed.{first_key}
use Rattle.toml_span_read.specs.Paths.{same_path}
use Rattle.toml_span.specs.code.Machine.{Cell, CellMap, Decided, no_cells, decide, decided, key_spans, with_span, with_claim, with_inner, change, show_all, put_all}
use Rattle.toml_span.specs.code.Placing.{place_shown}
use Rattle.toml_span.specs.code.Tree.{plain}
use Rattle.toml_span.proofs.EachClaim.{Each, assignments-each, claims_at}
use Rattle.toml_span.proofs.Grafts.{fun_ext}

-- ---- one after another

abbrev by_some : Bool → Place → Span → Option Decided
by_some header place span = Some (record { header = header; place = place; key = span })

-- what claims, or claims, decide, where `by` is the first one of a header
module _ (A : Type 0) (d : A → Decided) (by : List A → Option A) where
  unfoldable pub shown_by : Option Decided → List A → Option Decided
  shown_by o [] = o
  shown_by o (x ∷ xs) = shown_by (decide o (d x)) xs

  pub shown_by-append : (o : Option Decided) (xs ys : List A) → shown_by o (xs ++ ys) ≡ shown_by (shown_by o xs) ys
  unfolding shown_by
  shown_by-append o [] ys = refl
  shown_by-append o (x ∷ xs) ys = shown_by-append (decide o (d x)) xs ys

  module _ (none : by [] ≡ None) (some : (x : A) (xs : List A) → by (x ∷ xs) ≡ (if (d x).header then Some x else by xs)) where
    -- a header that has decided is not replaced
    shown_by-header : (place : Place) (span : Span) (xs : List A) → shown_by (by_some true place span) xs ≡ by_some true place span
    unfolding shown_by
    shown_by-header place span [] = refl
    shown_by-header place span (x ∷ xs) = shown_by-header place span xs

    -- after an assignment the first header still decides
    shown_by-plain : (place : Place) (span : Span) (xs : List A) → shown_by (by_some false place span) xs ≡ option_or (option_map (λ y. with_span span (d y)) (by xs)) (by_some false place span)
    unfolding shown_by
    shown_by-plain place span [] = rw none refl
    shown_by-plain place span (x ∷ xs) = grind (arith, nat_tests, common_steps, some x xs, shown_by-header (d x).place span xs, shown_by-plain place span xs)

    -- the first header decides, or else the first of them, which has the key
    pub shown_by-none : (x : A) (xs : List A) → shown_by None (x ∷ xs) ≡ option_map (λ y. with_span (d x).key (d y)) (option_or (by (x ∷ xs)) (Some x))
    unfolding shown_by
    shown_by-none x xs =
        elim (cases_Bool (d x).header) [
          | inl header ↦ rw (some x xs, header) (shown_by-header (d x).place (d x).key xs ∙ ap (λ b. by_some b (d x).place (d x).key) (sym header))
          | inr other ↦ rw (some x xs, other) (shown_by-plain (d x).place (d x).key xs ∙ first_or (by xs) other)
        ]
      where
        first_or : (o : Option A) → (d x).header ≡ false
            → option_or (option_map (λ y. with_span (d x).key (d y)) o) (by_some false (d x).place (d x).key) ≡ option_map (λ y. with_span (d x).key (d y)) (option_or o (Some x))
        first_or None h = rw h
        first_or (Some y) h = refl

-- ---- what is shown at a path

-- what the claims on a path decide
abbrev claims_show : Option Decided → List Claim → Option Decided
claims_show = shown_by Claim decided (find (λ c. by_header c.info.kind))

-- the claims on a path, in all scopes
abbrev on_path : Path → Claims → List Claim
on_path p cs = claims_at p (all_claims cs)

on_path-scope : (p : Path) (o : Option Decided) (inner cs : Claims)
    → claims_show o (on_path p (scope inner cs)) ≡ claims_show (claims_show o (on_path p inner)) (on_path p cs)
unfolding all_claims
on_path-scope p o inner cs = grind (arith, nat_tests, common_steps, filter-append {X = Claim} (λ c. same_path c.path p), shown_by-append)

-- a claim decides at its own path, whether it is of the scope or of one inside
on_path-claimed : (p : Path) (st : CellMap) (c : Claim) (cs : Claims) (f : Cell → Cell) → ((x : Cell) → (f x).shown ≡ decide x.shown (decided c))
    → claims_show (change st c.path f p).shown (on_path p cs) ≡ claims_show (st p).shown (on_path p (claimed c cs))
unfolding all_claims change shown_by
on_path-claimed p st c cs f h = grind (arith, nat_tests, common_steps)

show_all-is : (st : CellMap) (cs : Claims) (p : Path) → (show_all st cs p).shown ≡ claims_show (st p).shown (on_path p cs)
unfolding show_all all_claims shown_by
show_all-is st no_claims p = refl
show_all-is st (claimed c cs) p = show_all-is (change st c.path (with_inner c)) cs p ∙ on_path-claimed p st c cs (with_inner c) (λ x. refl)
show_all-is st (scope inner cs) p = grind (arith, nat_tests, common_steps, on_path-scope, show_all-is (show_all st inner) cs p, show_all-is st inner p)

put_all-is : (st : CellMap) (cs : Claims) (p : Path) → (put_all st cs p).shown ≡ claims_show (st p).shown (on_path p cs)
unfolding put_all all_claims shown_by
put_all-is st no_claims p = refl
put_all-is st (claimed c cs) p = put_all-is (change st c.path (with_claim c)) cs p ∙ on_path-claimed p st c cs (with_claim c) (λ x. refl)
put_all-is st (scope inner cs) p = grind (arith, nat_tests, common_steps, on_path-scope, put_all-is (show_all st inner) cs p, show_all-is st inner p)

-- a scope shows the same from inside and from outside
pub put_all-shown : (cs : Claims) (p : Path) → (put_all no_cells cs p).shown ≡ (show_all no_cells cs p).shown
put_all-shown cs p = put_all-is no_cells cs p ∙ sym (show_all-is no_cells cs p)

-- claims of scopes inside keep no claims
pub show_all-infos : (st : CellMap) (cs : Claims) (p : Path) → (show_all st cs p).infos ≡ (st p).infos
unfolding show_all change
show_all-infos st no_claims p = refl
show_all-infos st (claimed c cs) p = grind (arith, nat_tests, common_steps, show_all-infos (change st c.path (with_inner c)) cs p)
show_all-infos st (scope inner cs) p = show_all-infos (show_all st inner) cs p ∙ show_all-infos st inner p

-- ---- values and assignments

-- there is no claim of a header, and a place with a key has that key's span
abbrev pub NoHeader : Claims → Type 0
NoHeader cs = Each (λ c. decided c ≡ plain c.place) cs

pub assignments-no_header : (es : List ParsedAssignment) (p : Path) → NoHeader (assignments_claims es p)
assignments-no_header = assignments-each (λ c. decided c ≡ plain c.place) (λ p k v. refl) (λ p k v. refl) (λ p i v. refl)

abbrev IsPlain : Option Decided → Type 0
IsPlain None = ⊤
IsPlain (Some d) = d ≡ plain d.place

plain-decide : (o : Option Decided) (c : Claim) → IsPlain o → decided c ≡ plain c.place → IsPlain (decide o (decided c))
plain-decide None c h k = k
plain-decide (Some d) c h k = grind (arith, nat_tests, common_steps)

plain-shown : (st : CellMap) (cs : Claims) (p : Path) → NoHeader cs → IsPlain (st p).shown → IsPlain (show_all st cs p).shown
unfolding show_all change
plain-shown st no_claims p h k = k
plain-shown st (claimed c cs) p h k = grind (arith, nat_tests, common_steps, plain-decide, plain-shown (change st c.path (with_inner c)) cs p)
plain-shown st (scope inner cs) p h k = plain-shown (show_all st inner) cs p h.1 (plain-shown st inner p h.0 k)

plain-place : (o : Option Decided) → IsPlain o → o ≡ option_map plain (option_map (λ d. d.place) o)
plain-place None h = refl
plain-place (Some d) h = ap (λ d. Some d) h

-- so no header decides
pub shown-plain : (cs : Claims) (p : Path) → NoHeader cs → (show_all no_cells cs p).shown ≡ option_map plain (place_shown (show_all no_cells cs p))
shown-plain cs p h = plain-place (show_all no_cells cs p).shown (plain-shown no_cells cs p h tt)

-- ---- the flat document

claims_show-none : (c : Claim) (cs : List Claim) → claims_show None (c ∷ cs) ≡ option_map (λ x. with_span c.info.key (decided x)) (deciding_claim (c ∷ cs))
claims_show-none c cs = shown_by-none Claim decided (find (λ c. by_header c.info.kind)) refl (λ x xs. refl) c cs

place-decided : (cs : List Claim) → option_map (λ d. d.place) (claims_show None cs) ≡ option_map (λ c. c.place) (deciding_claim cs)
unfolding shown_by
place-decided [] = refl
place-decided (c ∷ cs) = grind (arith, nat_tests, common_steps, claims_show-none c cs)

key-decided : (cs : List Claim) → option_map (λ d. d.key) (claims_show None cs) ≡ option_map (λ c. c.info.key) (slice_get cs 0)
unfolding shown_by
key-decided [] = refl
key-decided (c ∷ cs) = grind (arith, nat_tests, common_steps, claims_show-none c cs)

-- what decides in the state decides in the flat document
pub shown-flat : (length : ℕ) (cs : Claims) (s : Step) (p : Path) → place_shown (put_all no_cells cs (s ∷ p)) ≡ flat length cs (s ∷ p)
unfolding flat
shown-flat length cs s p = ap (option_map (λ d. d.place)) (put_all-is no_cells cs (s ∷ p)) ∙ place-decided (on_path (s ∷ p) cs)

-- and the first claim has the key
pub first_key-is : (cs : Claims) → key_spans (put_all no_cells cs) ≡ first_key cs
first_key-is cs = fun_ext (λ p. ap (option_map (λ d. d.key)) (put_all-is no_cells cs p) ∙ key-decided (on_path p cs))
