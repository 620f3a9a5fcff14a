-- Each path leads to the same place in a tree and in the tree in the order of the text.
use Rattle.toml_span_lex.proofs.Common.{◌≡◌, ℕ, zero, suc, true, false, cond, List, [], ◌∷◌, Option, Some, None, option_map, option_and_then, none-some, same_Some, true≢false, refl, sym, ap, ◌∙◌, subst, inl, inr, cases_Bool, bytes_eq, bytes_eq-Decides, if◌then◌else◌, arith, nat_lt, nat_tests, common_steps}
use Rattle.toml_span_lex.specs.declared.span.Span.{Span}
use Rattle.toml_span_lex.specs.declared.stop.Stop.{Stop}
use Rattle.toml_span_lex.specs.declared.stop.Stop.TheVariants as stop
use Rattle.toml_span_tree.specs.Node.{Node, node, Inner, taken, scalar, array, table, Items, no_items, item, Members, no_members, member, entry_at, element_at}
use Rattle.toml_span_tree.specs.Path.{Step, key, position, Path, at_step, reached, place_of, place_at}
use Rattle.toml_span_tree.specs.Value.{inner_of}
use Rattle.toml_span.specs.Ordered.{IsOrdered, HasOneEach, InnerHasOneEach, ItemsHaveOneEach, MembersHaveOneEach}
use Rattle.toml_span.proofs.Ordered.{one-each, same-name}
use Rattle.toml_span_serde.specs.Misfits.{IsAt, IsPlaceIn, path_of}
use Rattle.toml_span_serde.specs.Pieces.{Piece, pieces}
use Rattle.toml_span_serde.specs.TextOrder.{put_entry, in_text_order, inner_in_order, items_in_order, members_in_order}
use Rattle.toml_span_serde.specs.declared.misfit.Misfit.{Misfit}

-- ---- the entry with a name

abbrev Found : Type 0
Found = Option Span × Node

abbrev sorted_found : Found → Found
sorted_found x = (x.0, in_text_order x.1)

-- an entry that is put among others is found by its name, and the others by theirs

not-first : (name k : List ℕ) (there : Span) (m : Node) (ms : Members) → entry_at name (member k there m ms) ≡ None → bytes_eq name k ≡ false
not-first name k there m ms once = elim (cases_Bool (bytes_eq name k)) [
  | inl same ↦ absurd (none-some _ (sym once ∙ ap (λ b. cond b (Some (Some there, m)) (entry_at name ms)) same))
  | inr off ↦ off
]

not-later : (name k : List ℕ) (there : Span) (m : Node) (ms : Members) → entry_at name (member k there m ms) ≡ None → entry_at name ms ≡ None
not-later name k there m ms once =
    sym (ap (λ b. cond b (Some (Some there, m)) (entry_at name ms)) (not-first name k there m ms once)) ∙ once

apart : (a b c : List ℕ) → bytes_eq a b ≡ false → bytes_eq c a ≡ true → bytes_eq c b ≡ true → ⊥
apart a b c off first second =
    true≢false (sym ((bytes_eq-Decides a b).1 (sym (same-name c a first) ∙ same-name c b second)) ∙ off)

flipped : (a b : List ℕ) → bytes_eq a b ≡ false → bytes_eq b a ≡ false
flipped a b off = elim (cases_Bool (bytes_eq b a)) [
  | inl same ↦ absurd (true≢false (sym ((bytes_eq-Decides a b).1 (sym (same-name b a same))) ∙ off))
  | inr other ↦ other
]

found-put : (name other : List ℕ) (at : Span) (n : Node) (ms : Members) → entry_at name ms ≡ None →
    entry_at other (put_entry name at n ms) ≡ cond (bytes_eq other name) (Some (Some at, n)) (entry_at other ms)
found-put name other at n no_members once = refl
found-put name other at n (member k there m ms) once =
    let off = not-first name k there m ms once in
    let next = found-put name other at n ms (not-later name k there m ms once) in
    grind (arith, nat_tests, common_steps, apart name k other off, next)

-- ---- each name once, also in this order

put-once : (name : List ℕ) (at : Span) (n : Node) (ms : Members) → entry_at name ms ≡ None → HasOneEach n → MembersHaveOneEach ms → MembersHaveOneEach (put_entry name at n ms)
put-once name at n no_members once one all = (once, one, tt)
put-once name at n (member k there m ms) once one all =
    let later = not-later name k there m ms once in
    let alone : entry_at k (put_entry name at n ms) ≡ None =
    found-put name k at n ms later
    ∙ ap (λ b. cond b (Some (Some at, n)) (entry_at k ms)) (flipped name k (not-first name k there m ms once))
    ∙ all.0 in
    let rest = put-once name at n ms later one all.2 in
    elim (cases_Bool (nat_lt there.start at.start)) [
      | inl before ↦ subst (λ b. MembersHaveOneEach (if b then member k there m (put_entry name at n ms) else member name at n (member k there m ms))) (sym before) (alone, all.1, rest)
      | inr after ↦ subst (λ b. MembersHaveOneEach (if b then member k there m (put_entry name at n ms) else member name at n (member k there m ms))) (sym after) (once, one, all)
    ]

mutual
  pub once-in-order : (n : Node) → HasOneEach n → HasOneEach (in_text_order n)
  once-in-order (node i span) h = inner-once i h

  inner-once : (i : Inner) → InnerHasOneEach i → InnerHasOneEach (inner_in_order i)
  inner-once taken h = tt
  inner-once (scalar s) h = tt
  inner-once (array ns) h = items-once ns h
  inner-once (table ms) h = members-once ms h

  items-once : (ns : Items) → ItemsHaveOneEach ns → ItemsHaveOneEach (items_in_order ns)
  items-once no_items h = tt
  items-once (item n ns) h = (once-in-order n h.0, items-once ns h.1)

  members-once : (ms : Members) → MembersHaveOneEach ms → MembersHaveOneEach (members_in_order ms)
  members-once no_members h = tt
  members-once (member name at n ms) h =
      put-once name at (in_text_order n) (members_in_order ms)
      (found-members name ms h.2 ∙ ap (option_map sorted_found) h.0) (once-in-order n h.1) (members-once ms h.2)

  -- the entry with a name is the same one
  found-members : (other : List ℕ) (ms : Members) → MembersHaveOneEach ms → entry_at other (members_in_order ms) ≡ option_map sorted_found (entry_at other ms)
  found-members other no_members h = refl
  found-members other (member name at n ms) h =
      let once = found-members name ms h.2 ∙ ap (option_map sorted_found) h.0 in
      let next = found-members other ms h.2 in
      grind (arith, nat_tests, common_steps, found-put name other at (in_text_order n) (members_in_order ms) once, next)

found-items : (i : ℕ) (ns : Items) → element_at i (items_in_order ns) ≡ option_map sorted_found (element_at i ns)
found-items i no_items = refl
found-items zero (item n ns) = refl
found-items (suc i) (item n ns) = found-items i ns

-- ---- the place at a path

step-in-order : (s : Step) (i : Inner) → InnerHasOneEach i → at_step s (inner_in_order i) ≡ option_map sorted_found (at_step s i)
step-in-order s taken h = refl
step-in-order s (scalar x) h = refl
step-in-order (key name) (array ns) h = refl
step-in-order (position i) (array ns) h = found-items i ns
step-in-order (key name) (table ms) h = found-members name ms h
step-in-order (position i) (table ms) h = refl

inner-of-sorted : (n : Node) → inner_of (in_text_order n) ≡ inner_in_order (inner_of n)
inner-of-sorted (node i span) = refl

once-inner : (n : Node) → HasOneEach n → InnerHasOneEach (inner_of n)
once-inner (node i span) h = h

-- a value that a step leads to has each name once
once-entry : (name : List ℕ) (ms : Members) (x : Found) → MembersHaveOneEach ms → entry_at name ms ≡ Some x → HasOneEach x.1
once-entry name no_members x h is = absurd (none-some _ is)
once-entry name (member k at n ms) x h is = elim (cases_Bool (bytes_eq name k)) [
  | inl same ↦ subst (λ (y : Found). HasOneEach y.1) (same_Some _ _ (sym (ap (λ b. cond b (Some (Some at, n)) (entry_at name ms)) same) ∙ is)) h.1
  | inr off ↦ once-entry name ms x h.2 (sym (ap (λ b. cond b (Some (Some at, n)) (entry_at name ms)) off) ∙ is)
]

once-element : (i : ℕ) (ns : Items) (x : Found) → ItemsHaveOneEach ns → element_at i ns ≡ Some x → HasOneEach x.1
once-element i no_items x h is = absurd (none-some _ is)
once-element zero (item n ns) x h is = subst (λ (y : Found). HasOneEach y.1) (same_Some _ _ is) h.0
once-element (suc i) (item n ns) x h is = once-element i ns x h.1 is

once-step : (s : Step) (i : Inner) (x : Found) → InnerHasOneEach i → at_step s i ≡ Some x → HasOneEach x.1
once-step s taken x h is = absurd (none-some _ is)
once-step s (scalar y) x h is = absurd (none-some _ is)
once-step (key name) (array ns) x h is = absurd (none-some _ is)
once-step (position i) (array ns) x h is = once-element i ns x h is
once-step (key name) (table ms) x h is = once-entry name ms x h is
once-step (position i) (table ms) x h is = absurd (none-some _ is)

-- one more step
reached-next : (path : Path) (o : Option Found) → ((y : Found) → HasOneEach y.1 → reached path (sorted_found y) ≡ option_map sorted_found (reached path y))
    → ((y : Found) → o ≡ Some y → HasOneEach y.1)
    → option_and_then (reached path) (option_map sorted_found o) ≡ option_map sorted_found (option_and_then (reached path) o)
reached-next path None each h = refl
reached-next path (Some y) each h = each y (h y refl)

reached-in-order : (path : Path) (x : Found) → HasOneEach x.1 → reached path (sorted_found x) ≡ option_map sorted_found (reached path x)
reached-in-order [] x h = refl
reached-in-order (s ∷ path) x h =
    ap (option_and_then (reached path)) (ap (at_step s) (inner-of-sorted x.1) ∙ step-in-order s (inner_of x.1) (once-inner x.1 h))
    ∙ reached-next path (at_step s (inner_of x.1)) (reached-in-order path) (λ y is. once-step s (inner_of x.1) y (once-inner x.1 h) is)

place-sorted : (x : Found) → place_of (sorted_found x) ≡ place_of x
place-sorted (k, node taken span) = refl
place-sorted (k, node (scalar s) span) = refl
place-sorted (k, node (array ns) span) = refl
place-sorted (k, node (table ms) span) = refl

places-sorted : (o : Option Found) → option_map place_of (option_map sorted_found o) ≡ option_map place_of o
places-sorted None = refl
places-sorted (Some x) = ap Some (place-sorted x)

pub place-in-order : (path : Path) (n : Node) → HasOneEach n → place_at path (in_text_order n) ≡ place_at path n
place-in-order path n h = ap (option_map place_of) (reached-in-order path (None, n) h) ∙ places-sorted (reached path (None, n))

pub names-in-order : (path : Path) (span : Span) (n : Node) → HasOneEach n → IsPlaceIn path span (in_text_order n) → IsPlaceIn path span n
names-in-order path span n h named = (named.0, sym (place-in-order path n h) ∙ named.1, named.2)

at-in-order : (n : Node) (s : Stop Misfit) → HasOneEach n → IsAt (in_text_order n) s → IsAt n s
at-in-order n (stop.Memory e) h at = tt
at-in-order n (stop.Fault m) h at = names-in-order (path_of m.path.items) m.span n h at

-- where a read of the pieces in this order stopped, in the tree
pub stopped_in_order : (made : List Piece) (n : Node) (s : Stop Misfit)
    → ((m : Node) → made ≡ pieces m → HasOneEach m → IsAt m s) → made ≡ pieces (in_text_order n) → IsOrdered n → IsAt n s
stopped_in_order made n s placed is ordered =
    let once = one-each n ordered in at-in-order n s once (placed (in_text_order n) is (once-in-order n once))
