-- The cost of a tree, by its names and the places in it, is at most the cost of its claims.
use Rattle.toml_span_lex.proofs.Common.{◌≡◌, ◌≤◌, ◌<◌, ◌+◌, ℕ, suc, false, List, [], ◌∷◌, ◌++◌, Option, Some, None, option_map, refl, sym, ap, subst, ◌∙◌, inl, inr, arith, nat_tests, common_steps, option_and_then, nat_eq, same_Some}
use Rattle.toml_span_lex.specs.declared.span.Span.{Span}
use Rattle.toml_span_tree.specs.Node.{Node, node, Inner, taken, scalar, array, table, Items, no_items, item, Members, no_members, member, entry_at, element_at}
use Rattle.toml_span_tree.specs.Path.{Path, Step, key, position, Shape, shape_table, shape_of, Place, place_of, at_step, reached}
use Rattle.toml_span_tree.specs.Value.{view}
use Rattle.toml_span_tree.specs.declared.value.Value.{Value}
use Rattle.toml_span_read.specs.Data.{ParsedSection}
use Rattle.toml_span.specs.Claims.{Claim, Claims, no_claims, claimed, scope, claims}
use Rattle.toml_span.specs.Flat.{flat, all_claims}
use Rattle.toml_span.specs.Ordered.{IsOrdered, HoldsOrdered, AreOrdered, MembersOrdered}
use Rattle.toml_span.specs.Parsing.{IsTreeOf}
use Rattle.toml_span.proofs.EachClaim.{Each, flat-decides}
use Rattle.toml_span.proofs.Ordered.{first-entry, later-entry, one-each, same-name}
use Rattle.toml_span_c.proofs.Paths.{Has, after, without, total, stepping, stepping-parts, stepping-fewer, after-mem, without-mem}

-- the cost of a name, and that of a place, by its shape
pub record Cost : Type 0 where
  pub name : List ℕ → ℕ
  pub shape : Shape → ℕ

-- ---- of a tree

abbrev mutual
  pub node_cost : Cost → Node → ℕ
  node_cost c (node i span) = c.shape (shape_of i) + inner_cost c i

  pub inner_cost : Cost → Inner → ℕ
  inner_cost c taken = 0
  inner_cost c (scalar s) = 0
  inner_cost c (array ns) = items_cost c ns
  inner_cost c (table ms) = members_cost c ms

  pub items_cost : Cost → Items → ℕ
  items_cost c no_items = 0
  items_cost c (item n ns) = node_cost c n + items_cost c ns

  pub members_cost : Cost → Members → ℕ
  members_cost c no_members = 0
  members_cost c (member name at n ms) = c.name name + node_cost c n + members_cost c ms

-- of a place after a name that costs e: the name before it, and the place
abbrev pub place_cost : Cost → ℕ → Path → Place → ℕ
place_cost c e [] x = e + c.shape x.shape
place_cost c e (key name ∷ p) x = place_cost c (c.name name) p x
place_cost c e (position i ∷ p) x = place_cost c 0 p x

-- what a path finds after a step
abbrev found : Path → Option (Option Span × Node) → Option Place
found q o = option_map place_of (option_and_then (reached q) o)

off-numbers : (i j : ℕ) → i < j → nat_eq i j ≡ false
off-numbers i j h = grind (arith, nat_tests, common_steps)

-- a name that is found after the first differs from it
others : (c : Cost) (name : List ℕ) (at : Span) (n : Node) (ms : Members) (ps : List (Path × ℕ)) → entry_at name ms ≡ None
    → ((other : List ℕ) (q : Path) (x : Place) → found q (entry_at other (member name at n ms)) ≡ Some x → Has (key other ∷ q) (place_cost c (c.name other) q x) ps)
    → (other : List ℕ) (q : Path) (x : Place) → found q (entry_at other ms) ≡ Some x → Has (key other ∷ q) (place_cost c (c.name other) q x) (without (key name) ps)
others c name at n ms ps once f other q x h =
    let price = place_cost c (c.name other) q x in
    let moved = without-mem (key name) (key other) q price ps in
    grind (arith, nat_tests, common_steps, same-name name other, same-name other name, later-entry other name at n ms, moved, f other q x)

-- A tree whose places are all in a list, each for its cost or more, costs no more than the list.
mutual
  pub node-few : (c : Cost) (e : ℕ) (at : Option Span) (n : Node) → IsOrdered n → (ps : List (Path × ℕ))
      → ((q : Path) (x : Place) → option_map place_of (reached q (at, n)) ≡ Some x → Has q (place_cost c e q x) ps) → e + node_cost c n ≤ total ps
  node-few c e at (node i span) o ps f =
      omega (arith, stepping-fewer (e + c.shape (shape_of i)) ps (f [] (place_of (at, node i span)) refl), inner-few c e i o ps (λ s q x h. f (s ∷ q) x h))

  inner-few : (c : Cost) (e : ℕ) (i : Inner) → HoldsOrdered i → (ps : List (Path × ℕ)) → ((s : Step) (q : Path) (x : Place) → found q (at_step s i) ≡ Some x → Has (s ∷ q) (place_cost c e (s ∷ q) x) ps)
      → inner_cost c i ≤ stepping ps
  inner-few c e taken o ps f = omega arith
  inner-few c e (scalar s) o ps f = omega arith
  inner-few c e (array ns) o ps f =
      items-few c ns 0 o ps (λ j k q x same h. let is : k ≡ j = omega arith in f (position j) q x (ap (λ n. found q (element_at n ns)) (sym is) ∙ h))
  inner-few c e (table ms) o ps f = members-few c ms o ps (λ name q x h. f (key name) q x h)

  items-few : (c : Cost) (ns : Items) (i : ℕ) → AreOrdered ns → (ps : List (Path × ℕ))
      → ((j k : ℕ) (q : Path) (x : Place) → j ≡ i + k → found q (element_at k ns) ≡ Some x → Has (position j ∷ q) (place_cost c 0 q x) ps) → items_cost c ns ≤ stepping ps
  items-few c no_items i o ps f = omega arith
  items-few c (item n ns) i o ps f =
      let s = position i in
      let here = node-few c 0 None n o.0 (after s ps) (λ q x h. after-mem s q (place_cost c 0 q x) ps (f i 0 q x (omega arith) h)) in
      let rest = items-few c ns (suc i) o.1 (without s ps)
      (λ j k q x e h. without-mem s (position j) q (place_cost c 0 q x) ps (off-numbers i j (omega (arith, e))) (f j (suc k) q x (omega (arith, e)) h)) in
      omega (arith, stepping-parts s ps, here, rest)

  members-few : (c : Cost) (ms : Members) → MembersOrdered ms → (ps : List (Path × ℕ))
      → ((name : List ℕ) (q : Path) (x : Place) → found q (entry_at name ms) ≡ Some x → Has (key name ∷ q) (place_cost c (c.name name) q x) ps) → members_cost c ms ≤ stepping ps
  members-few c no_members o ps f = omega arith
  members-few c (member name at n ms) o ps f =
      let s = key name in
      let once : entry_at name ms ≡ None = (one-each (node (table (member name at n ms)) at) o).0 in
      let here = node-few c (c.name name) (Some at) n o.1 (after s ps)
      (λ q x h. after-mem s q (place_cost c (c.name name) q x) ps (f name q x (ap (λ e. found q e) (first-entry name at n ms) ∙ h))) in
      let rest = members-few c ms o.2 (without s ps) (λ other q x h. others c name at n ms ps once f other q x h) in
      omega (arith, stepping-parts s ps, here, rest)

-- ---- of claims

abbrev pub prices : Cost → List Claim → List (Path × ℕ)
prices c [] = []
prices c (x ∷ xs) = (x.path, place_cost c 0 x.path x.place) ∷ prices c xs

-- the cost of the claims of all scopes
abbrev pub claims_cost : Cost → Claims → ℕ
claims_cost c cs = total (prices c (all_claims cs))

abbrev IsPriced : Cost → List (Path × ℕ) → Claim → Type 0
IsPriced c ps x = Has x.path (place_cost c 0 x.path x.place) ps

abbrev IsWithin : List (Path × ℕ) → List (Path × ℕ) → Type 0
IsWithin ps qs = (p : Path) (w : ℕ) → Has p w ps → Has p w qs

has-left : (c : Cost) (p : Path) (w : ℕ) (xs ys : List Claim) → Has p w (prices c xs) → Has p w (prices c (xs ++ ys))
has-left c p w [] ys h = absurd h
has-left c p w (x ∷ xs) ys h = grind (arith, nat_tests, common_steps, has-left c p w xs ys)

has-right : (c : Cost) (p : Path) (w : ℕ) (xs ys : List Claim) → Has p w (prices c ys) → Has p w (prices c (xs ++ ys))
has-right c p w [] ys h = h
has-right c p w (x ∷ xs) ys h = grind (arith, nat_tests, common_steps, has-right c p w xs ys)

each-priced : (c : Cost) (cs : Claims) (ps : List (Path × ℕ)) → IsWithin (prices c (all_claims cs)) ps → Each (IsPriced c ps) cs
unfolding all_claims
each-priced c no_claims ps f = tt
each-priced c (claimed x cs) ps f = (f x.path (place_cost c 0 x.path x.place) (inl (refl, omega arith)), each-priced c cs ps (λ p w h. f p w (inr h)))
each-priced c (scope inner cs) ps f = (
  each-priced c inner ps (λ p w h. f p w (has-left c p w (all_claims inner) (all_claims cs) h)),
  each-priced c cs ps (λ p w h. f p w (has-right c p w (all_claims inner) (all_claims cs) h)),
)

-- a document's tree costs no more than its root and its claims
pub tree-few : (c : Cost) (bs : List ParsedSection) (size : ℕ) (root : Value) → IsTreeOf bs size root → node_cost c (view root) ≤ c.shape shape_table + claims_cost c (claims bs)
unfolding flat
tree-few c bs size root made =
    let cs = claims bs in
    let ps = prices c (all_claims cs) in
    let few : 0 + node_cost c (view root) ≤ c.shape shape_table + claims_cost c cs =
    node-few c 0 None (view root) made.ordered (([], c.shape shape_table) ∷ ps)
    (λ q x h. by_path cs ps (each-priced c cs ps (λ p w g. g)) size q x (sym (made.shows q) ∙ h)) in
    omega (arith, few)
  where
    by_path : (cs : Claims) (ps : List (Path × ℕ)) → Each (IsPriced c ps) cs → (size : ℕ) (q : Path) (x : Place) → flat size cs q ≡ Some x
        → Has q (place_cost c 0 q x) (([], c.shape shape_table) ∷ ps)
    by_path cs ps each size [] x h =
        let is = same_Some (record { shape = shape_table; key_span = None; span = record { start = 0; end = size } }) x h in
        inl (refl, omega (arith, ap c.shape (ap (λ (y : Place). y.shape) is)))
    by_path cs ps each size (s ∷ p) x h =
        let d = flat-decides (IsPriced c ps) size cs s p x each h in
        inr (subst (λ (y : Place). Has (s ∷ p) (place_cost c 0 (s ∷ p) y) ps) d.place (subst (λ (r : Path). Has r (place_cost c 0 r d.claim.place) ps) d.on d.holds))
