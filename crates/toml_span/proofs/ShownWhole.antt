-- A tree that shows a flat document is whole.
use Rattle.toml_span_lex.proofs.Common.{◌≡◌, ℕ, suc, true, false, cond, List, [], ◌∷◌, Option, Some, None, option_map, refl, sym, ap, ◌∙◌, subst, inl, inr, Bool, option_and_then, bytes_eq, cases_Bool, and_from, none-some, same_Some, arith, nat_tests, common_steps}
use Rattle.toml_span_lex.specs.declared.span.Span.{Span}
use Rattle.toml_span_tree.specs.Node.{Node, node, Inner, taken, scalar, array, table, Items, no_items, item, Members, no_members, member, entry_at, element_at}
use Rattle.toml_span_tree.specs.Path.{Path, key, position, Place, shape_of, reached, place_of, node_at, Shape, shape_taken, shape_scalar, shape_array, shape_table}
use Rattle.toml_span_tree.specs.Value.{inner_of, holds_nothing, is_taken, is_whole, all_whole, all_members_whole}
use Rattle.toml_span_read.specs.Data.{ParsedSection, ParsedValue, ParsedAssignment, SimpleKey}
use Rattle.toml_span.specs.Claims.{claims, Claim, value_shape, assignments_claims, end_claims, header_claims, section_claims, claims_after}
use Rattle.toml_span.specs.Flat.{flat, ShowsExactly}
use Rattle.toml_span.specs.Ordered.{HasOneEach, ItemsHaveOneEach, MembersHaveOneEach}
use Rattle.toml_span.proofs.EachClaim.{flat-decides, Each, each-followed, assignments-each}
use Rattle.toml_span_read.proofs.PathLemmas.{same_step-self}
use Rattle.toml_span.proofs.Ordered.{same-name}
use Rattle.toml_span.specs.declared.claims.HeaderInfo.{HeaderInfo}
use Rattle.toml_span_read.specs.Paths.{enter, with_key}

-- ---- what is claimed has not been taken

-- the shape is that of a value
abbrev pub is_held : Shape → Bool
is_held shape_taken = false
is_held (shape_scalar s) = true
is_held shape_array = true
is_held shape_table = true

abbrev pub IsHeldAt : Claim → Type 0
IsHeldAt c = is_held c.place.shape ≡ true

value-held : (v : ParsedValue) → is_held (value_shape v) ≡ true
value-held v = grind (arith, nat_tests, common_steps)

assignments-held : (es : List ParsedAssignment) (p : Path) → Each IsHeldAt (assignments_claims es p)
assignments-held = assignments-each IsHeldAt (λ p k v. refl) (λ p k. value-held) (λ p i. value-held)

end-held : (h : HeaderInfo) (p : Path) (k : SimpleKey) (n : ℕ) → Each IsHeldAt (end_claims h p k n)
unfolding end_claims
end-held h p k n = grind (arith, nat_tests, common_steps)

header-held : (e : Path → ℕ) (h : HeaderInfo) (p : Path) (parts : List SimpleKey) → Each IsHeldAt (header_claims e h p parts)
unfolding header_claims
header-held e h p [] = tt
header-held e h p (k ∷ []) = end-held h (with_key p k) k (e (with_key p k))
header-held e h p (k ∷ l ∷ more) = (refl, header-held e h (enter (e (with_key p k)) (with_key p k)) (l ∷ more))

after-held : (earlier bs : List ParsedSection) → Each IsHeldAt (claims_after earlier bs)
unfolding claims_after section_claims
after-held earlier [] = tt
after-held earlier (b ∷ bs) = grind (arith, nat_tests, common_steps, each-followed, header-held, assignments-held, after-held (b ∷ earlier) bs)

pub claims-held : (bs : List ParsedSection) → Each IsHeldAt (claims bs)
claims-held bs = after-held [] bs

-- ---- if no path finds a taken value, the tree is whole

abbrev At : Type 0
At = Option Span × Node

-- what a path finds after a step has not been taken
abbrev IsFilledBelow : Option At → Type 0
IsFilledBelow o = (p : Path) (m : Node) → option_map (λ r. r.1) (option_and_then (reached p) o) ≡ Some m → is_taken m ≡ false

-- the span of a key changes nothing
reached-key : (p : Path) (at : Option Span) (n : Node) → option_map {T = At} (λ r. r.1) (reached p (at, n)) ≡ option_map (λ r. r.1) (reached p (None, n))
reached-key [] at n = refl
reached-key (s ∷ p) at n = refl

abbrev IsFilled : Node → Type 0
IsFilled n = (p : Path) (m : Node) → node_at p n ≡ Some m → is_taken m ≡ false

-- the other entries
rest-filled : (name : List ℕ) (at : Span) (n : Node) (ms : Members) → entry_at name ms ≡ None → ((k : List ℕ) → IsFilledBelow (entry_at k (member name at n ms)))
    → (k : List ℕ) → IsFilledBelow (entry_at k ms)
rest-filled name at n ms once h k p m is = elim (cases_Bool (bytes_eq k name)) [
  | inl same ↦ let here = same-name k name same in grind (arith, nat_tests, common_steps)
  | inr off ↦ h k p m (ap (λ b. option_map (λ r. r.1) (option_and_then (reached p) (cond b (Some (Some at, n)) (entry_at k ms)))) off ∙ is)
]

mutual
  filled-whole : (n : Node) → HasOneEach n → IsFilled n → is_whole n ≡ true
  filled-whole (node taken span) once h = sym (h [] (node taken span) refl)
  filled-whole (node (scalar s) span) once h = refl
  filled-whole (node (array ns) span) once h = items-whole ns once (λ i p m is. h (position i ∷ p) m is)
  filled-whole (node (table ms) span) once h = members-whole ms once (λ k p m is. h (key k ∷ p) m is)

  items-whole : (ns : Items) → ItemsHaveOneEach ns → ((i : ℕ) → IsFilledBelow (element_at i ns)) → all_whole ns ≡ true
  items-whole no_items once h = refl
  items-whole (item n ns) once h =
      and_from (is_whole n) (all_whole ns) (filled-whole n once.0 (λ p m is. h 0 p m is)) (items-whole ns once.1 (λ i p m is. h (suc i) p m is))

  members-whole : (ms : Members) → MembersHaveOneEach ms → ((k : List ℕ) → IsFilledBelow (entry_at k ms)) → all_members_whole ms ≡ true
  members-whole no_members once h = refl
  members-whole (member name at n ms) once h =
      and_from (is_whole n) (all_members_whole ms)
      (filled-whole n once.1 (λ p m is. h name p m
      (ap (λ b. option_map (λ r. r.1) (option_and_then (reached p) (cond b (Some (Some at, n)) (entry_at name ms)))) (same_step-self (key name)) ∙ reached-key p (Some at) n ∙ is)))
      (members-whole ms once.2 (rest-filled name at n ms once.0 h))

-- ---- no place of the flat document has been taken

held-filled : (i : Inner) → is_held (shape_of i) ≡ true → holds_nothing i ≡ false
held-filled taken h = sym h
held-filled (scalar s) h = refl
held-filled (array ns) h = refl
held-filled (table ms) h = refl

flat-held : (length : ℕ) (bs : List ParsedSection) (p : Path) (x : Place) → flat length (claims bs) p ≡ Some x → is_held x.shape ≡ true
unfolding flat
flat-held length bs [] x is = ap (λ y. is_held y.shape) (sym (same_Some _ x is))
flat-held length bs (s ∷ p) x is =
    let decides = flat-decides IsHeldAt length (claims bs) s p x (claims-held bs) is in
    subst (λ y. is_held y.shape ≡ true) decides.place decides.holds

found-filled : (o : Option At) (m : Node) → option_map (λ r. r.1) o ≡ Some m → ((x : Place) → option_map place_of o ≡ Some x → is_held x.shape ≡ true) → is_taken m ≡ false
found-filled None m is h = absurd (none-some m is)
found-filled (Some r) m is h =
    subst (λ n. is_taken n ≡ false) (same_Some r.1 m is) (held-filled (inner_of r.1) (h (place_of r) refl))

pub shown-filled : (n : Node) (length : ℕ) (bs : List ParsedSection) → ShowsExactly n (flat length (claims bs)) → (p : Path) (m : Node) → node_at p n ≡ Some m → is_taken m ≡ false
shown-filled n length bs shows p m is =
    found-filled (reached p (None, n)) m is (λ x found. flat-held length bs p x (sym (shows p) ∙ found))

pub shown-whole : (n : Node) (length : ℕ) (bs : List ParsedSection) → HasOneEach n → ShowsExactly n (flat length (claims bs)) → is_whole n ≡ true
shown-whole n length bs once shows = filled-whole n once (shown-filled n length bs shows)
