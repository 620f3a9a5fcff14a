-- The entries of a tree are in the order of their paths.
use Rattle.toml_span_lex.proofs.Common.{◌≤◌, ℕ, suc, List, [], ◌∷◌, ◌++◌, Option, Some, None, refl, inl, inr, arith, AllByRecursion}
use Rattle.toml_span_lex.specs.declared.span.Span.{Span}
use Rattle.toml_span_tree.specs.Node.{Node, node, Inner, taken, scalar, array, table, Items, no_items, item, Members, no_members, member}
use Rattle.toml_span_tree.specs.Path.{Path, Step, key, position}
use Rattle.toml_span.specs.Ordered.{EachName, IsOrdered, HoldsOrdered, AreOrdered, MembersOrdered}
use Rattle.toml_span_lines.specs.Shown.{PlaceAt, PathsAscend, IsPathBefore, IsStepBefore}
use Rattle.toml_span_lines.proofs.Entries.{under, node_entries, inner_entries, items_entries, members_entries}

-- P holds for the path of each entry
abbrev pub Each : (Path → Type 0) → List PlaceAt → Type 0
Each P es = AllByRecursion (λ e. P e.0) es

each-append : (P : Path → Type 0) (es fs : List PlaceAt) → Each P es → Each P fs → Each P (es ++ fs)
each-append P [] fs h g = g
each-append P (e ∷ es) fs h g = (h.0, each-append P es fs h.1 g)

each-more : (P Q : Path → Type 0) (es : List PlaceAt) → ((p : Path) → P p → Q p) → Each P es → Each Q es
each-more P Q [] f h = tt
each-more P Q (e ∷ es) f h = (f e.0 h.0, each-more P Q es f h.1)

each-under : (P : Path → Type 0) (s : Step) (es : List PlaceAt) → ((p : Path) → P (s ∷ p)) → Each P (under s es)
each-under P s [] f = tt
each-under P s (e ∷ es) f = (f e.0, each-under P s es f)

each-item : (P : Path → Type 0) (i : ℕ) (ns : Items) → ((k : ℕ) (p : Path) → i ≤ k → P (position k ∷ p)) → Each P (items_entries i ns)
each-item P i no_items f = tt
each-item P i (item n ns) f =
    each-append P (under (position i) (node_entries None n)) (items_entries (suc i) ns)
    (each-under P (position i) (node_entries None n) (λ p. f i p (omega arith)))
    (each-item P (suc i) ns (λ k p h. f k p (omega arith)))

each-member : (P : Path → Type 0) (Q : List ℕ → Type 0) (ms : Members) → EachName Q ms → ((name : List ℕ) (p : Path) → Q name → P (key name ∷ p)) → Each P (members_entries ms)
each-member P Q no_members h f = tt
each-member P Q (member name at n ms) h f =
    each-append P (under (key name) (node_entries (Some at) n)) (members_entries ms)
    (each-under P (key name) (node_entries (Some at) n) (λ p. f name p h.0)) (each-member P Q ms h.1 f)

-- the trivial property holds for all names
any-name : (ms : Members) → EachName (λ name. Unit {0}) ms
any-name no_members = tt
any-name (member name at n ms) = (tt, any-name ms)

-- the root of a walk is before what is inside it
root-first : (i : Inner) → Each (λ p. IsPathBefore [] p) (inner_entries i)
root-first taken = tt
root-first (scalar s) = tt
root-first (array ns) = each-item (λ p. IsPathBefore [] p) 0 ns (λ k p h. tt)
root-first (table ms) = each-member (λ p. IsPathBefore [] p) (λ name. Unit {0}) ms (any-name ms) (λ name p h. tt)

before-under : (s : Step) (p : Path) (es : List PlaceAt) → Each (λ q. IsPathBefore p q) es → Each (λ q. IsPathBefore (s ∷ p) q) (under s es)
before-under s p [] h = tt
before-under s p (e ∷ es) h = (inr (refl, h.0), before-under s p es h.1)

-- the first step of the path is after a step
abbrev StartsAfter : Step → Path → Type 0
StartsAfter s [] = ⊥
StartsAfter s (t ∷ p) = IsStepBefore s t

before-after : (s : Step) (p q : Path) → StartsAfter s q → IsPathBefore (s ∷ p) q
before-after s p [] h = h
before-after s p (t ∷ q) h = inl h

-- entries below a step, followed by entries after it
ascends-after : (s : Step) (es fs : List PlaceAt) → PathsAscend es → Each (λ q. StartsAfter s q) fs → PathsAscend fs → PathsAscend (under s es ++ fs)
ascends-after s [] fs h b g = g
ascends-after s (e ∷ es) fs h b g = (
  each-append (λ q. IsPathBefore (s ∷ e.0) q) (under s es) fs (before-under s e.0 es h.0)
      (each-more (λ q. StartsAfter s q) (λ q. IsPathBefore (s ∷ e.0) q) fs (before-after s e.0) b),
  ascends-after s es fs h.1 b g,
)

mutual
  pub node-ascends : (at : Option Span) (n : Node) → IsOrdered n → PathsAscend (node_entries at n)
  node-ascends at (node i span) h = (root-first i, inner-ascends i h)

  inner-ascends : (i : Inner) → HoldsOrdered i → PathsAscend (inner_entries i)
  inner-ascends taken h = tt
  inner-ascends (scalar s) h = tt
  inner-ascends (array ns) h = items-ascend 0 ns h
  inner-ascends (table ms) h = members-ascend ms h

  items-ascend : (i : ℕ) (ns : Items) → AreOrdered ns → PathsAscend (items_entries i ns)
  items-ascend i no_items h = tt
  items-ascend i (item n ns) h =
      ascends-after (position i) (node_entries None n) (items_entries (suc i) ns) (node-ascends None n h.0)
      (each-item (λ q. StartsAfter (position i) q) (suc i) ns (λ k p g. omega arith)) (items-ascend (suc i) ns h.1)

  members-ascend : (ms : Members) → MembersOrdered ms → PathsAscend (members_entries ms)
  members-ascend no_members h = tt
  members-ascend (member name at n ms) h =
      ascends-after (key name) (node_entries (Some at) n) (members_entries ms) (node-ascends (Some at) n h.1)
      (each-member (λ q. StartsAfter (key name) q) (λ other. IsStepBefore (key name) (key other)) ms h.0 (λ other p g. g)) (members-ascend ms h.2)
