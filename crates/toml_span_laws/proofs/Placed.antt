-- A scalar that is put at a path in a tree: the new tree is the old one except for the value at that path.
use Rattle.toml_span_lex.proofs.Common.{◌≡◌, ℕ, zero, suc, List, [], ◌∷◌, true, false, Option, Some, None, option_map, option_and_then, refl, sym, ap, ◌∙◌, same_Some, bytes_eq, bytes_eq-Decides, cases_Bool, or-true, subst, inl, inr}
use Rattle.std.proofs.lemmas.Bool.Decides.{Decides-int_eq}
use Rattle.toml_span_lex.specs.declared.span.Span.{Span}
use Rattle.toml_span_tree.specs.Float.{float_text}
use Rattle.toml_span_tree.specs.Node.{Scalar, text, integer, float, boolean, datetime, Node, node, Inner, taken, scalar, array, table, Items, no_items, item, Members, no_members, member, entry_at, element_at, get_item, get_member}
use Rattle.toml_span_tree.specs.Path.{Path, key, position, node_at, put, reached, set_element, set_entry, Place, place_at, place_of, shape_of}
use Rattle.toml_span_tree.specs.Pointer.{position_of}
use Rattle.toml_span_tree.specs.Value.{inner_of, span_of}
use Rattle.toml_span_edit.specs.Made.{at, child, items_but, members_but}
use Rattle.toml_span_edit.specs.Same.{same, same_inner, same_items, same_members, same_scalar}
use Rattle.toml_span_edit.specs.Paths.{found}
use Rattle.toml_span_laws.specs.Replaced.{no_span, without_spans, inner_without, items_without, members_without}

-- ---- options

some_from : {A B : Type 0} (f : A → Option B) (o : Option A) (y : B) → option_and_then f o ≡ Some y → (x : A) × (o ≡ Some x) × (f x ≡ Some y)
some_from f None y h = absurd (cc)
some_from f (Some x) y h = (x, refl, h)

mapped_from : {A B : Type 0} (f : A → B) (o : Option A) (y : B) → option_map f o ≡ Some y → (x : A) × (o ≡ Some x) × (f x ≡ y)
mapped_from f None y h = absurd (cc)
mapped_from f (Some x) y h = (x, refl, same_Some (f x) y h)

-- ---- trees that are equal except for spans

self : (s : Scalar) → same_scalar s s ≡ true
self (text v) = (bytes_eq-Decides v v).1 refl
self (integer z) = (Decides-int_eq z z).1 refl
self (float x) = (bytes_eq-Decides (float_text x) (float_text x)).1 refl
self (boolean true) = refl
self (boolean false) = refl
self (datetime d) = (bytes_eq-Decides d d).1 refl

same_name : (a b : List ℕ) → a ≡ b → bytes_eq a b ≡ true
same_name a b e = (bytes_eq-Decides a b).1 e

mutual
  alike : (n k : Node) → without_spans k ≡ without_spans n → same n k ≡ true
  alike (node i a) (node j b) e = alike_inner i j (ap inner_of e)

  alike_inner : (i j : Inner) → inner_without j ≡ inner_without i → same_inner i j ≡ true
  alike_inner taken taken e = refl
  alike_inner taken (scalar t) e = absurd (cc)
  alike_inner taken (array ks) e = absurd (cc)
  alike_inner taken (table ks) e = absurd (cc)
  alike_inner (scalar s) taken e = absurd (cc)
  alike_inner (scalar s) (scalar t) e = let x : t ≡ s = cc in rw x (self s)
  alike_inner (scalar s) (array ks) e = absurd (cc)
  alike_inner (scalar s) (table ks) e = absurd (cc)
  alike_inner (array ns) taken e = absurd (cc)
  alike_inner (array ns) (scalar t) e = absurd (cc)
  alike_inner (array ns) (array ks) e = alike_items ns ks (cc)
  alike_inner (array ns) (table ks) e = absurd (cc)
  alike_inner (table ms) taken e = absurd (cc)
  alike_inner (table ms) (scalar t) e = absurd (cc)
  alike_inner (table ms) (array ks) e = absurd (cc)
  alike_inner (table ms) (table ks) e = alike_members ms ks (cc)

  alike_items : (ns ks : Items) → items_without ks ≡ items_without ns → same_items ns ks ≡ true
  alike_items no_items no_items e = refl
  alike_items no_items (item k ks) e = absurd (cc)
  alike_items (item n ns) no_items e = absurd (cc)
  alike_items (item n ns) (item k ks) e = rw (alike n k (cc), alike_items ns ks (cc)) refl

  alike_members : (ms ks : Members) → members_without ks ≡ members_without ms → same_members ms ks ≡ true
  alike_members no_members no_members e = refl
  alike_members no_members (member other b k ks) e = absurd (cc)
  alike_members (member name a n ms) no_members e = absurd (cc)
  alike_members (member name a n ms) (member other b k ks) e = rw (same_name name other (cc), alike n k (cc), alike_members ms ks (cc)) refl

but_self : (name : List ℕ) (ms ks : Members) → members_without ks ≡ members_without ms → members_but name ms ks ≡ true
but_self name no_members no_members e = refl
but_self name no_members (member other b k ks) e = absurd (cc)
but_self name (member one a n ms) no_members e = absurd (cc)
but_self name (member one a n ms) (member other b k ks) e = rw (same_name one other (cc), alike n k (cc), or-true (bytes_eq name one), but_self name ms ks (cc)) refl

-- a scalar
leaf : (j : Inner) (s : Scalar) → inner_without j ≡ scalar s → same_inner (scalar s) j ≡ true
leaf taken s e = absurd (cc)
leaf (scalar t) s e = let x : t ≡ s = cc in rw x (self s)
leaf (array ks) s e = absurd (cc)
leaf (table ks) s e = absurd (cc)

leaf_node : (w k : Node) (s : Scalar) → inner_of w ≡ scalar s → without_spans k ≡ node (scalar s) no_span → same w k ≡ true
leaf_node (node i a) (node j b) s is e = rw is (leaf j s (ap inner_of e))

-- ---- one element or entry

abbrev HasAlike : Option Node → Node → Type 0
HasAlike o x = (d : Node) × (o ≡ Some d) × (without_spans d ≡ without_spans x)

items_set : (i : ℕ) (ns ks : Items) (x c : Node) → get_item i ns ≡ Some c → items_without ks ≡ items_without (set_element i x ns) → (items_but i ns ks ≡ true) × HasAlike (get_item i ks) x
items_set zero no_items ks x c h e = absurd (cc)
items_set (suc i) no_items ks x c h e = absurd (cc)
items_set zero (item n ns) no_items x c h e = absurd (cc)
items_set (suc i) (item n ns) no_items x c h e = absurd (cc)
items_set zero (item n ns) (item k ks) x c h e = (alike_items ns ks (cc), (k, refl, cc))
items_set (suc i) (item n ns) (item k ks) x c h e = let r = items_set i ns ks x c h (cc) in (rw (alike n k (cc), r.0) refl, r.1)

set_here : (name one : List ℕ) (a : Span) (n x : Node) (ms ks : Members) → bytes_eq name one ≡ true → members_without ks ≡ members_without (member one a x ms) → (members_but name (member one a n ms) ks ≡ true) × HasAlike (get_member name ks) x
set_here name one a n x ms no_members hit e = absurd (cc)
set_here name one a n x ms (member other b k ks) hit e =
    let same : one ≡ other = cc in
    let there : bytes_eq name other ≡ true = subst (λ (l : List ℕ). bytes_eq name l ≡ true) same hit in
    (rw (same_name one other same, hit, but_self name ms ks (cc)) refl, (k, rw there refl, cc))

set_later : (name one : List ℕ) (a : Span) (n x : Node) (ms ks : Members) → bytes_eq name one ≡ false → members_without ks ≡ members_without (member one a n (set_entry name x ms))
    → ((ls : Members) → members_without ls ≡ members_without (set_entry name x ms) → (members_but name ms ls ≡ true) × HasAlike (get_member name ls) x) → (members_but name (member one a n ms) ks ≡ true) × HasAlike (get_member name ks) x
set_later name one a n x ms no_members miss e below = absurd (cc)
set_later name one a n x ms (member other b k ks) miss e below =
    let same : one ≡ other = cc in
    let off : bytes_eq name other ≡ false = subst (λ (l : List ℕ). bytes_eq name l ≡ false) same miss in
    let r = below ks (cc) in
    (rw (same_name one other same, miss, alike n k (cc), r.0) refl, (r.1.0, rw off (r.1.1), r.1.2))

members_set : (name : List ℕ) (ms ks : Members) (x c : Node) → get_member name ms ≡ Some c → members_without ks ≡ members_without (set_entry name x ms) → (members_but name ms ks ≡ true) × HasAlike (get_member name ks) x
members_set name no_members ks x c h e = absurd (cc)
members_set name (member one a n ms) ks x c h e = elim (cases_Bool (bytes_eq name one)) [
  | inl hit ↦ set_here name one a n x ms ks hit (rw hit at e)
  | inr miss ↦ set_later name one a n x ms ks miss (rw miss at e) (λ ls f. members_set name ms ls x c (rw miss at h) f)
]

-- ---- at a path

-- The path leads to m. A tree that is this one with a scalar put there is this one with the value replaced at the segments.
pub record Way (segments : List (List ℕ)) (n m : Node) : Type 0 where
  pub path : Path
  pub there : node_at path n ≡ Some m
  pub made : (k w : Node) (s : Scalar) → inner_of w ≡ scalar s → without_spans k ≡ without_spans (put path (node (scalar s) no_span) n) → at segments (λ a b. same w b) n k ≡ true

-- what is below does not depend on the key
any_key : (p : Path) (a : Option Span) (c : Node) → option_map (λ m. m.1) (reached p (a, c)) ≡ node_at p c
any_key [] a c = refl
any_key (t ∷ p) a c = refl

in_array : (seg : List ℕ) (path : List (List ℕ)) (ns : Items) (span : Span) (i : ℕ) (c m k w x : Node) (s : Scalar) → position_of seg ≡ Some i → get_item i ns ≡ Some c
    → ((d : Node) → without_spans d ≡ without_spans x → at path (λ a b. same w b) c d ≡ true) → without_spans k ≡ node (array (items_without (set_element i x ns))) no_span → at (seg ∷ path) (λ a b. same w b) (node (array ns) span) k ≡ true
in_array seg path ns span i c m (node taken b) w x s pos element below e = absurd (cc)
in_array seg path ns span i c m (node (scalar t) b) w x s pos element below e = absurd (cc)
in_array seg path ns span i c m (node (table ks) b) w x s pos element below e = absurd (cc)
in_array seg path ns span i c m (node (array ks) b) w x s pos element below e =
    let r = items_set i ns ks x c element (cc) in rw (pos, r.0, element, r.1.1, below r.1.0 r.1.2) refl

in_table : (seg : List ℕ) (path : List (List ℕ)) (ms : Members) (span : Span) (c m k w x : Node) (s : Scalar) → get_member seg ms ≡ Some c
    → ((d : Node) → without_spans d ≡ without_spans x → at path (λ a b. same w b) c d ≡ true) → without_spans k ≡ node (table (members_without (set_entry seg x ms))) no_span → at (seg ∷ path) (λ a b. same w b) (node (table ms) span) k ≡ true
in_table seg path ms span c m (node taken b) w x s entry below e = absurd (cc)
in_table seg path ms span c m (node (scalar t) b) w x s entry below e = absurd (cc)
in_table seg path ms span c m (node (array ks) b) w x s entry below e = absurd (cc)
in_table seg path ms span c m (node (table ks) b) w x s entry below e =
    let r = members_set seg ms ks x c entry (cc) in rw (r.0, entry, r.1.1, below r.1.0 r.1.2) refl

below_any : (o : Option (Option Span × Node)) (c m : Node) (p : Path) → option_map (λ e. e.1) o ≡ Some c → node_at p c ≡ Some m → option_map (λ e. e.1) (option_and_then (reached p) o) ≡ Some m
below_any None c m p h r = absurd (cc)
below_any (Some x) c m p h r = any_key p x.0 x.1 ∙ subst (λ (d : Node). node_at p d ≡ Some m) (sym (same_Some x.1 c h)) r

way_array : (seg : List ℕ) (path : List (List ℕ)) (ns : Items) (span : Span) (i : ℕ) (c m : Node) → position_of seg ≡ Some i → get_item i ns ≡ Some c → Way path c m → Way (seg ∷ path) (node (array ns) span) m
way_array seg path ns span i c m pos element r = record {
  path = position i ∷ r.path;
  there = below_any (element_at i ns) c m r.path element r.there;
  made = λ k w s sc e. in_array seg path ns span i c m k w (put r.path (node (scalar s) no_span) c) s pos element (λ d f. r.made d w s sc f) (rw element at e);
}

way_table : (seg : List ℕ) (path : List (List ℕ)) (ms : Members) (span : Span) (c m : Node) → get_member seg ms ≡ Some c → Way path c m → Way (seg ∷ path) (node (table ms) span) m
way_table seg path ms span c m entry r = record {
  path = key seg ∷ r.path;
  there = below_any (entry_at seg ms) c m r.path entry r.there;
  made = λ k w s sc e. in_table seg path ms span c m k w (put r.path (node (scalar s) no_span) c) s entry (λ d f. r.made d w s sc f) (rw entry at e);
}

pub found_put : (segments : List (List ℕ)) (n m : Node) → found segments n ≡ Some m → Way segments n m
found_put [] n m h = record { path = []; there = h; made = λ k w s is e. leaf_node w k s is e }
found_put (seg ∷ path) (node taken span) m h = absurd (cc)
found_put (seg ∷ path) (node (scalar t) span) m h = absurd (cc)
found_put (seg ∷ path) (node (array ns) span) m h =
    let (c, is, below) = some_from (found path) (child seg (array ns)) m h in
    let (i, pos, element) = some_from (λ i. get_item i ns) (position_of seg) c is in
    way_array seg path ns span i c m pos element (found_put path c m below)
found_put (seg ∷ path) (node (table ms) span) m h =
    let (c, entry, below) = some_from (found path) (child seg (table ms)) m h in way_table seg path ms span c m entry (found_put path c m below)

-- the place
pub placed : (path : Path) (n m : Node) → node_at path n ≡ Some m → (place : Place) × (place_at path n ≡ Some place) × (place.shape ≡ shape_of (inner_of m)) × (place.span ≡ span_of m)
placed path n m h =
    let (x, at, is) = mapped_from (λ m. m.1) (reached path (None, n)) m h in
    (place_of x, ap (option_map place_of) at, rw is refl, rw is refl)
