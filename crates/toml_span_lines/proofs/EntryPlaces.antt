-- The entries of a tree are its places.
use Rattle.toml_span_lex.proofs.Common.{nat_tests, common_steps, ◌≡◌, ◌+◌, ◌⊎◌, ℕ, zero, suc, Bool, false, cond, List, [], ◌∷◌, ◌++◌, Option, Some, None, option_map, refl, sym, ap, subst, ◌∙◌, inl, inr, arith, option_and_then, bytes_eq, cases_Bool, bytes_eq-Decides, none-some, same_Some}
use Rattle.toml_span_lex.specs.declared.span.Span.{Span}
use Rattle.toml_span_tree.specs.Node.{Node, node, Inner, taken, scalar, array, table, Items, no_items, item, Members, no_members, member, entry_at, element_at}
use Rattle.toml_span_tree.specs.Path.{Path, Step, key, position, Place, at_step, place_at, place_of, reached}
use Rattle.toml_span_tree.proofs.Paths.{bytes_same}
use Rattle.toml_span.specs.Ordered.{IsNameBefore, EachName, IsOrdered, HoldsOrdered, AreOrdered, MembersOrdered}
use Rattle.toml_span.proofs.Ordered.{not-before}
use Rattle.toml_span_lines.specs.Shown.{PlaceAt, HasPlaces, IsIn}
use Rattle.toml_span_lines.proofs.Entries.{under, node_entries, inner_entries, items_entries, members_entries}

-- ---- lists of entries

in-left : (e : PlaceAt) (es fs : List PlaceAt) → IsIn e es → IsIn e (es ++ fs)
in-left e [] fs h = absurd h
in-left e (f ∷ es) fs h = grind (arith, common_steps, in-left e es fs)

in-right : (e : PlaceAt) (es fs : List PlaceAt) → IsIn e fs → IsIn e (es ++ fs)
in-right e [] fs h = h
in-right e (f ∷ es) fs h = inr (in-right e es fs h)

in-either : (e : PlaceAt) (es fs : List PlaceAt) → IsIn e (es ++ fs) → IsIn e es ⊎ IsIn e fs
in-either e [] fs h = inr h
in-either e (f ∷ es) fs h = grind (arith, common_steps, in-either e es fs)

in-under : (s : Step) (p : Path) (x : Place) (es : List PlaceAt) → IsIn (p, x) es → IsIn (s ∷ p, x) (under s es)
in-under s p x [] h = h
in-under s p x (e ∷ es) h = grind (arith, common_steps, in-under s p x es)

-- what is below a step begins with it
from-under : (s : Step) (q : Path) (x : Place) (es : List PlaceAt) → IsIn (q, x) (under s es) → (p : Path) × (q ≡ s ∷ p) × IsIn (p, x) es
from-under s q x [] h = absurd h
from-under s q x (e ∷ es) (inl is) = (e.0, ap (λ f. f.0) is, inl (ap (λ f. (e.0, f.1)) is))
from-under s q x (e ∷ es) (inr h) = let found = from-under s q x es h in (found.0, found.1, inr found.2)

-- ---- what is below

-- what a path finds after a step
abbrev found : Path → Option (Option Span × Node) → Option Place
found p o = option_map place_of (option_and_then (reached p) o)

-- what a path finds below
abbrev found_in : Path → Inner → Option Place
found_in [] i = None
found_in (s ∷ p) i = found p (at_step s i)

mutual
  in-node : (at : Option Span) (n : Node) (p : Path) (x : Place) → option_map place_of (reached p (at, n)) ≡ Some x → IsIn (p, x) (node_entries at n)
  in-node at (node i span) [] x h = inl (ap (λ y. ([], y)) (sym (same_Some (place_of (at, node i span)) x h)))
  in-node at (node i span) (s ∷ p) x h = inr (in-inner i s p x h)

  in-inner : (i : Inner) (s : Step) (p : Path) (x : Place) → found p (at_step s i) ≡ Some x → IsIn (s ∷ p, x) (inner_entries i)
  in-inner taken s p x h = none-some x h
  in-inner (scalar y) s p x h = none-some x h
  in-inner (array ns) (key name) p x h = absurd (none-some x h)
  in-inner (array ns) (position k) p x h = in-items ns 0 k k p x (omega arith) h
  in-inner (table ms) (key name) p x h = in-members ms name p x h
  in-inner (table ms) (position k) p x h = absurd (none-some x h)

  in-items : (ns : Items) (i j k : ℕ) (p : Path) (x : Place) → j ≡ i + k → found p (element_at k ns) ≡ Some x → IsIn (position j ∷ p, x) (items_entries i ns)
  in-items no_items i j k p x e h = none-some x h
  in-items (item n ns) i j zero p x e h =
      let here : j ≡ i = omega arith in
      in-left (position j ∷ p, x) (under (position i) (node_entries None n)) (items_entries (suc i) ns)
      (subst (λ t. IsIn (position t ∷ p, x) (under (position i) (node_entries None n))) (sym here) (in-under (position i) p x (node_entries None n) (in-node None n p x h)))
  in-items (item n ns) i j (suc k) p x e h =
      in-right (position j ∷ p, x) (under (position i) (node_entries None n)) (items_entries (suc i) ns) (in-items ns (suc i) j k p x (omega arith) h)

  in-members : (ms : Members) (name : List ℕ) (p : Path) (x : Place) → found p (entry_at name ms) ≡ Some x → IsIn (key name ∷ p, x) (members_entries ms)
  in-members no_members name p x h = none-some x h
  in-members (member other at n ms) name p x h =
      let stands = λ (b : Bool). found p (cond b (Some (Some at, n)) (entry_at name ms)) in
      elim (cases_Bool (bytes_eq name other)) [
        | inl same ↦
            let here = in-under (key other) p x (node_entries (Some at) n) (in-node (Some at) n p x (sym (ap stands same) ∙ h)) in
            in-left (key name ∷ p, x) (under (key other) (node_entries (Some at) n)) (members_entries ms)
            (subst (λ (l : List ℕ). IsIn (key l ∷ p, x) (under (key other) (node_entries (Some at) n))) (sym (bytes_same name other same)) here)
        | inr off ↦
            in-right (key name ∷ p, x) (under (key other) (node_entries (Some at) n)) (members_entries ms) (in-members ms name p x (sym (ap stands off) ∙ h))
      ]

-- a name that is after another differs from it
name-apart : (name other : List ℕ) → IsNameBefore name other → bytes_eq other name ≡ false
name-apart name other h = elim (cases_Bool (bytes_eq other name)) [
  | inl same ↦ absurd (not-before name (subst (λ (l : List ℕ). IsNameBefore name l) (bytes_same other name same) h))
  | inr off ↦ off
]

-- ---- each entry is a place

-- an entry of the elements from i on
abbrev IsItem : Items → ℕ → Path → Place → Type 0
IsItem ns i q x = (j : ℕ) × (k : ℕ) × (p : Path) × (j ≡ i + k) × (q ≡ position j ∷ p) × (found p (element_at k ns) ≡ Some x)

-- an entry of the members
abbrev IsMember : Members → Path → Place → Type 0
IsMember ms q x = (name : List ℕ) × (p : Path) × (q ≡ key name ∷ p) × (found p (entry_at name ms) ≡ Some x)

-- what holds for each name holds for one that leads somewhere
each-found : (P : List ℕ → Type 0) (ms : Members) (name : List ℕ) (p : Path) (x : Place) → EachName P ms → found p (entry_at name ms) ≡ Some x → P name
each-found P no_members name p x e h = grind (arith, nat_tests, common_steps)
each-found P (member other at n ms) name p x e h = grind (arith, nat_tests, common_steps, bytes_same name other, each-found P ms name p x)

from-own : (at : Option Span) (n : Node) (p : Path) (x : Place) → ◌≡◌ {A = PlaceAt} (p, x) ([], place_of (at, n)) → option_map place_of (reached p (at, n)) ≡ Some x
from-own at n p x is = subst (λ (e : PlaceAt). option_map place_of (reached e.0 (at, n)) ≡ Some e.1) (sym is) refl

from-held : (at : Option Span) (i : Inner) (span : Span) (p : Path) (x : Place) → found_in p i ≡ Some x → option_map place_of (reached p (at, node i span)) ≡ Some x
from-held at i span [] x h = absurd (none-some x h)
from-held at i span (s ∷ p) x h = h

mutual
  from-node : (at : Option Span) (n : Node) (p : Path) (x : Place) → IsOrdered n → IsIn (p, x) (node_entries at n) → option_map place_of (reached p (at, n)) ≡ Some x
  from-node at (node i span) p x o h = elim h [
    | inl is ↦ from-own at (node i span) p x is
    | inr more ↦ from-held at i span p x (from-inner i p x o more)
  ]

  from-inner : (i : Inner) (q : Path) (x : Place) → HoldsOrdered i → IsIn (q, x) (inner_entries i) → found_in q i ≡ Some x
  from-inner taken q x o h = absurd h
  from-inner (scalar y) q x o h = absurd h
  from-inner (array ns) q x o h =
      let it = from-items ns 0 q x o h in
      let same : it.1 ≡ it.0 = omega (arith, it.3) in
      subst (λ (r : Path). found_in r (array ns) ≡ Some x) (sym it.4) (subst (λ (t : ℕ). found it.2 (element_at t ns) ≡ Some x) same it.5)
  from-inner (table ms) q x o h =
      let it = from-members ms q x o h in
      subst (λ (r : Path). found_in r (table ms) ≡ Some x) (sym it.2) it.3

  from-items : (ns : Items) (i : ℕ) (q : Path) (x : Place) → AreOrdered ns → IsIn (q, x) (items_entries i ns) → IsItem ns i q x
  from-items no_items i q x o h = absurd h
  from-items (item n ns) i q x o h = elim (in-either (q, x) (under (position i) (node_entries None n)) (items_entries (suc i) ns) h) [
    | inl here ↦
        let it = from-under (position i) q x (node_entries None n) here in
        (i, 0, it.0, omega arith, it.1, from-node None n it.0 x o.0 it.2)
    | inr later ↦
        let it = from-items ns (suc i) q x o.1 later in
        (it.0, suc it.1, it.2, omega (arith, it.3), it.4, it.5)
  ]

  from-members : (ms : Members) (q : Path) (x : Place) → MembersOrdered ms → IsIn (q, x) (members_entries ms) → IsMember ms q x
  from-members no_members q x o h = absurd h
  from-members (member name at n ms) q x o h = elim (in-either (q, x) (under (key name) (node_entries (Some at) n)) (members_entries ms) h) [
    | inl here ↦
        let it = from-under (key name) q x (node_entries (Some at) n) here in (
          name,
          it.0,
          it.1,
          ap (λ (b : Bool). found it.0 (cond b (Some (Some at, n)) (entry_at name ms))) ((bytes_eq-Decides name name).1 refl) ∙ from-node (Some at) n it.0 x o.1 it.2,
        )
    | inr later ↦
        let it = from-members ms q x o.2 later in
        let apart = name-apart name it.0 (each-found (IsNameBefore name) ms it.0 it.1 x o.0 it.3) in
        (it.0, it.1, it.2, ap (λ (b : Bool). found it.1 (cond b (Some (Some at, n)) (entry_at it.0 ms))) apart ∙ it.3)
  ]

-- at each path there is what the entries have there
pub node-places : (n : Node) → IsOrdered n → HasPlaces (λ p. place_at p n) (node_entries None n)
node-places n o p x = (in-node None n p x, from-node None n p x o)
