-- Two trees that are in order and show the same places are equal.
use Rattle.toml_span_lex.proofs.Common.{◌≡◌, ◌⊎◌, ℕ, suc, List, [], ◌∷◌, Option, Some, None, option_map, refl, sym, ap, ◌∙◌, subst, inl, inr, arith, option_and_then, none-some, same_Some, nat_tests, common_steps, slice_cmp, nat_cmp, Ordering, Less, Equal, Greater, is_eq-slice_cmp, is_eq, nat_list_cmp_total}
use Rattle.std.specs.Ordering.{ordering_reverse}
use Rattle.toml_span_lex.specs.declared.span.Span.{Span}
use Rattle.toml_span_tree.specs.Node.{Node, node, Inner, taken, scalar, array, table, Items, no_items, item, Members, no_members, member, entry_at, element_at}
use Rattle.toml_span_tree.specs.Path.{Path, Step, key, position, Place, shape_of, reached, at_step, place_of, place_at}
use Rattle.toml_span.specs.Ordered.{IsNameBefore, EachName, IsOrdered, HoldsOrdered, AreOrdered, MembersOrdered}
use Rattle.toml_span.proofs.Ordered.{one-each, same-name, first-entry, later-entry}
use Rattle.toml_span_laws.specs.Document.{without_key, IsValueOf}

abbrev pub At : Type 0
At = Option Span × Node

-- what is shown after a step
abbrev pub shown : Option At → Path → Option Place
shown o p = option_map place_of (option_and_then (reached p) o)

-- ---- names

names-order : (a b : List ℕ) → (a ≡ b) ⊎ (IsNameBefore a b ⊎ IsNameBefore b a)
names-order a b = by (slice_cmp nat_cmp a b) refl
  where
    by : (o : Ordering) → slice_cmp nat_cmp a b ≡ o → (a ≡ b) ⊎ (IsNameBefore a b ⊎ IsNameBefore b a)
    by Less e = inr (inl e)
    by Equal e = inl (same-name a b (sym (is_eq-slice_cmp a b) ∙ ap is_eq e))
    by Greater e = inr (inr (nat_list_cmp_total.antisymm b a ∙ ap ordering_reverse e))

each-before : (a b : List ℕ) (ms : Members) → IsNameBefore a b → EachName (IsNameBefore b) ms → EachName (IsNameBefore a) ms
each-before a b no_members h each = tt
each-before a b (member c at n ms) h each = (nat_list_cmp_total.trans a b c h each.0, each-before a b ms h each.1)

-- ---- entries

-- a name that is before all others differs from each of them
pub not-again : (a : List ℕ) (at : Span) (n : Node) (ms : Members) → MembersOrdered (member a at n ms) → entry_at a ms ≡ None
not-again a at n ms h = (one-each (node (table (member a at n ms)) at) h).0

-- nor is it after one that is after it
not-there : (a b : List ℕ) (at : Span) (n : Node) (ms : Members) → IsNameBefore a b → MembersOrdered (member b at n ms) → entry_at a (member b at n ms) ≡ None
not-there a b at n ms less h = not-again a at n (member b at n ms) ((less, each-before a b ms less h.0), h.1, h)

shown-first : (a : List ℕ) (at : Span) (n : Node) (ms ls : Members) → ((p : Path) → shown (entry_at a (member a at n ms)) p ≡ shown (entry_at a ls) p) → entry_at a ls ≡ None → ⊥
shown-first a at n ms ls same none =
    none-some (place_of (Some at, n)) (sym (ap (λ o. shown o []) none) ∙ sym (same []) ∙ ap (λ o. shown o []) (first-entry a at n ms))

rest-shown : (a : List ℕ) (s t : Span) (n m : Node) (ms ls : Members) → entry_at a ms ≡ None → entry_at a ls ≡ None
    → ((k : List ℕ) (p : Path) → shown (entry_at k (member a s n ms)) p ≡ shown (entry_at k (member a t m ls)) p)
    → (k : List ℕ) (p : Path) → shown (entry_at k ms) p ≡ shown (entry_at k ls) p
rest-shown a s t n m ms ls once single same k p = grind (arith, nat_tests, common_steps, later-entry k a s n ms, later-entry k a t m ls, same-name k a)

-- without the span of a key
value-shown : (k l : Option Span) (n m : Node) → ((p : Path) → option_map place_of (reached p (k, n)) ≡ option_map place_of (reached p (l, m)))
    → (p : Path) → place_at p n ≡ place_at p m
value-shown k l n m same [] = ap (λ x. Some (without_key x)) (same_Some (place_of (k, n)) (place_of (l, m)) (same []))
value-shown k l n m same (q ∷ p) = same (q ∷ p)

head-shown : (a : List ℕ) (s t : Span) (n m : Node) (ms ls : Members) → ((p : Path) → shown (entry_at a (member a s n ms)) p ≡ shown (entry_at a (member a t m ls)) p)
    → (p : Path) → shown (Some (Some s, n)) p ≡ shown (Some (Some t, m)) p
head-shown a s t n m ms ls same p = ap (λ o. shown o p) (sym (first-entry a s n ms)) ∙ same p ∙ ap (λ o. shown o p) (first-entry a t m ls)

one-key : (s t : Span) (n m : Node) → shown (Some (Some s, n)) [] ≡ shown (Some (Some t, m)) [] → s ≡ t
one-key s t n m same = same_Some s t (ap (λ (x : Place). x.key_span) (same_Some (place_of (Some s, n)) (place_of (Some t, m)) same))

-- ---- trees

mutual
  pub node-one : (n m : Node) → IsOrdered n → IsOrdered m → ((p : Path) → place_at p n ≡ place_at p m) → n ≡ m
  node-one (node i s) (node j t) h g same =
      let place = same_Some (place_of (None, node i s)) (place_of (None, node j t)) (same []) in
      let inner = inner-one i j h g (ap (λ x. x.shape) place) (λ q p. same (q ∷ p)) in
      ap (λ k. node k s) inner ∙ ap (λ u. node j u) (ap (λ x. x.span) place)

  inner-one : (i j : Inner) → HoldsOrdered i → HoldsOrdered j → shape_of i ≡ shape_of j → ((q : Step) (p : Path) → shown (at_step q i) p ≡ shown (at_step q j) p) → i ≡ j
  inner-one taken taken h g is same = refl
  inner-one (array ns) (array ms) h g is same = ap array (items-one ns ms h g (λ i p. same (position i) p))
  inner-one (table ms) (table ls) h g is same = ap table (members-one ms ls h g (λ k p. same (key k) p))
  inner-one (scalar x) (scalar y) h g is same = cc
  inner-one i j h g is same = cc

  items-one : (ns ms : Items) → AreOrdered ns → AreOrdered ms → ((i : ℕ) (p : Path) → shown (element_at i ns) p ≡ shown (element_at i ms) p) → ns ≡ ms
  items-one no_items no_items h g same = refl
  items-one no_items (item m ms) h g same = absurd (none-some (place_of (None, m)) (same 0 []))
  items-one (item n ns) no_items h g same = absurd (none-some (place_of (None, n)) (sym (same 0 [])))
  items-one (item n ns) (item m ms) h g same =
      grind (arith, nat_tests, common_steps, items-one ns ms h.1 g.1 (λ i p. same (suc i) p), node-one n m h.0 g.0 (λ p. same 0 p))

  members-one : (ms ls : Members) → MembersOrdered ms → MembersOrdered ls → ((k : List ℕ) (p : Path) → shown (entry_at k ms) p ≡ shown (entry_at k ls) p) → ms ≡ ls
  members-one no_members no_members h g same = refl
  members-one no_members (member b t m ls) h g same = absurd (shown-first b t m ls no_members (λ p. sym (same b p)) refl)
  members-one (member a s n ms) no_members h g same = absurd (shown-first a s n ms no_members (same a) refl)
  members-one (member a s n ms) (member b t m ls) h g same = elim (names-order a b) [
    | inl is ↦
        let more : MembersOrdered (member a t m ls) = subst (λ c. MembersOrdered (member c t m ls)) (sym is) g in
        let shows : (k : List ℕ) (p : Path) → shown (entry_at k (member a s n ms)) p ≡ shown (entry_at k (member a t m ls)) p = λ k p. same k p ∙ ap (λ c. shown (entry_at k (member c t m ls)) p) (sym is) in
        let head = head-shown a s t n m ms ls (shows a) in
        let first = node-one n m h.1 more.1 (value-shown (Some s) (Some t) n m head) in
        let rest = members-one ms ls h.2 more.2 (rest-shown a s t n m ms ls (not-again a s n ms h) (not-again a t m ls more) shows) in
        ap (λ u. member a u n ms) (one-key s t n m (head [])) ∙ ap (λ k. member a t k ms) first ∙ ap (λ ks. member a t m ks) rest ∙ ap (λ c. member c t m ls) is
    | inr (inl less) ↦ absurd (shown-first a s n ms (member b t m ls) (same a) (not-there a b t m ls less g))
    | inr (inr more) ↦ absurd (shown-first b t m ls (member a s n ms) (λ p. sym (same b p)) (not-there b a s n ms more h))
  ]

pub one-value : (places : Path → Option Place) (n m : Node) → IsValueOf places n → IsValueOf places m → n ≡ m
one-value places n m h g = node-one n m h.0 g.0 (λ p. h.1 p ∙ sym (g.1 p))
