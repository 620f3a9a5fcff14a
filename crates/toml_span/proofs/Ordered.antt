-- Values whose tables have their entries in the order of the names.
use Rattle.toml_span_lex.proofs.Common.{◌≡◌, ◌<◌, ℕ, List, [], ◌∷◌, Bool, true, false, cond, Option, Some, None, Ordering, Less, nat_cmp, is_lt, refl, sym, ap, ◌∙◌, inl, inr, arith, slice_cmp, cow_str_bytes, AllByRecursion, IsStrictlySortedBy, keys_of, lookup_entry, MatchOrdering, ordering_then, bytes_eq, cases_Bool, false≢true, ranked, is_eq-slice_cmp, none-some, nat_tests, common_steps, bytes_eq-Decides, is_eq}
use Rattle.std.proofs.lemmas.Map.Keys.{sorted_head, sorted_tail}
use Rattle.toml_span_lex.specs.declared.key.Key.{Key}
use Rattle.toml_span_lex.specs.declared.span.Span.{Span}
use Rattle.toml_span_tree.specs.Node.{Node, node, Inner, taken, scalar, array, table, Items, no_items, item, Members, no_members, member, entry_at}
use Rattle.toml_span_tree.specs.Path.{key}
use Rattle.toml_span_tree.specs.Value.{view, members_view}
use Rattle.toml_span_tree.specs.declared.value.Value.{Value}
use Rattle.toml_span_read.proofs.EarlierTree.{key_cmp, same_name}
use Rattle.toml_span.specs.Ordered.{HasOneEach, InnerHasOneEach, ItemsHaveOneEach, MembersHaveOneEach, IsNameBefore, EachName, IsOrdered, HoldsOrdered, AreOrdered, MembersOrdered}
use Rattle.toml_span_lex.specs.Key.{is_named}
use Rattle.toml_span_read.proofs.PathLemmas.{same_step-self}

-- ---- names and entries

pub same-name : (a b : List ℕ) → bytes_eq a b ≡ true → a ≡ b
same-name a b h = (bytes_eq-Decides a b).0 h

pub first-entry : (a : List ℕ) (at : Span) (n : Node) (ms : Members) → entry_at a (member a at n ms) ≡ Some (Some at, n)
first-entry a at n ms = ap (λ b. cond b (Some (Some at, n)) (entry_at a ms)) (same_step-self (key a))

pub later-entry : (k a : List ℕ) (at : Span) (n : Node) (ms : Members) → bytes_eq k a ≡ false → entry_at k (member a at n ms) ≡ entry_at k ms
later-entry k a at n ms off = ap (λ b. cond b (Some (Some at, n)) (entry_at k ms)) off

-- ---- the order of a map's keys

-- a key is before all later ones
names-after : (k : Key) (es : List (Key × Value)) → AllByRecursion (λ l. key_cmp k l ≡ Less) (keys_of es) → EachName (IsNameBefore (cow_str_bytes k.name)) (members_view es)
names-after k [] h = tt
names-after k (e ∷ es) h = (h.0, names-after k es h.1)

-- a key is of its own name
named-itself : (k : Key) → is_named (cow_str_bytes k.name) k ≡ true
named-itself k = is_eq-slice_cmp (cow_str_bytes k.name) (cow_str_bytes k.name) ∙ same_step-self (key (cow_str_bytes k.name))

-- no key after it has its name
pub none-again : {X : Type 0} (k : Key) (es : List (Key × X)) → AllByRecursion (λ l. key_cmp k l ≡ Less) (keys_of es) → lookup_entry (is_named (cow_str_bytes k.name)) es ≡ None
none-again k [] h = refl
none-again k (e ∷ es) h = rw (h.0) (none-again k es h.1)

-- what holds for each entry that is found by its name holds for all
pub each-named : (P : Key × Value → Type 0) (es : List (Key × Value)) → IsStrictlySortedBy key_cmp (keys_of es) → ((e : Key × Value) → lookup_entry (is_named (cow_str_bytes e.0.name)) es ≡ Some e → P e)
    → AllByRecursion P es
each-named P [] sorted each = tt
each-named P (e ∷ es) sorted each = (each e (rw (named-itself e.0)), each-named P es (sorted_tail key_cmp e.0 (keys_of es) sorted) later)
  where
    later : (f : Key × Value) → lookup_entry (is_named (cow_str_bytes f.0.name)) es ≡ Some f → P f
    later f found = elim (cases_Bool (is_named (cow_str_bytes f.0.name) e.0)) [
      | inl here ↦
          let same : cow_str_bytes f.0.name ≡ cow_str_bytes e.0.name = same_name (cow_str_bytes f.0.name) (cow_str_bytes e.0.name) here in
          absurd (none-some f (sym (none-again e.0 es (sorted_head key_cmp e.0 (keys_of es) sorted)) ∙ ap (λ l. lookup_entry (is_named l) es) (sym same) ∙ found))
      | inr off ↦ each f (rw off found)
    ]

-- the table of a map is in order, if each value is
pub members-ordered : (es : List (Key × Value)) → IsStrictlySortedBy key_cmp (keys_of es) → AllByRecursion (λ e. IsOrdered (view e.1)) es → MembersOrdered (members_view es)
members-ordered [] sorted each = tt
members-ordered (e ∷ es) sorted each =
    (names-after e.0 es (sorted_head key_cmp e.0 (keys_of es) sorted), each.0, members-ordered es (sorted_tail key_cmp e.0 (keys_of es) sorted) each.1)

-- ---- each name once

name-apart : (name other : List ℕ) → IsNameBefore name other → bytes_eq name other ≡ false
name-apart name other h = sym (is_eq-slice_cmp name other) ∙ ap is_eq h

-- no name is before itself
pub not-before : (name : List ℕ) → IsNameBefore name name → ⊥
not-before name h = false≢true (sym (name-apart name name h) ∙ same_step-self (key name))

-- a name that is before all others is none of them
not-again : (name : List ℕ) (ms : Members) → EachName (IsNameBefore name) ms → entry_at name ms ≡ None
not-again name no_members h = refl
not-again name (member other at n ms) h =
    ap (λ (b : Bool). cond {A = Option (Option Span × Node)} b (Some (Some at, n)) (entry_at name ms)) (name-apart name other h.0) ∙ not-again name ms h.1

mutual
  pub one-each : (n : Node) → IsOrdered n → HasOneEach n
  one-each (node i span) h = inner-one-each i h

  inner-one-each : (i : Inner) → HoldsOrdered i → InnerHasOneEach i
  inner-one-each taken h = tt
  inner-one-each (scalar s) h = tt
  inner-one-each (array ns) h = items-one-each ns h
  inner-one-each (table ms) h = members-one-each ms h

  items-one-each : (ns : Items) → AreOrdered ns → ItemsHaveOneEach ns
  items-one-each no_items h = tt
  items-one-each (item n ns) h = (one-each n h.0, items-one-each ns h.1)

  members-one-each : (ms : Members) → MembersOrdered ms → MembersHaveOneEach ms
  members-one-each no_members h = tt
  members-one-each (member name at n ms) h = (not-again name ms h.0, one-each n h.1, members-one-each ms h.2)
