-- The tree of a document that is equal to another one except for spans and one scalar.
use Rattle.toml_span_lex.proofs.Common.{◌≡◌, ◌⊎◌, ℕ, zero, suc, List, [], ◌∷◌, ◌++◌, append-nil, Option, Some, None, option_map, option_and_then, bytes_eq, bytes_eq-Decides, refl, sym, ap, ◌∙◌, subst, inl, inr, cases_Bool, same_Some, arith, nat_tests, common_steps}
use Rattle.std.proofs.lemmas.Bool.{ne_eqb}
use Rattle.toml_span_lex.specs.declared.span.Span.{Span}
use Rattle.toml_span_tree.specs.Node.{Scalar, Node, node, taken, scalar, array, table, Items, no_items, item, Members, no_members, member, entry_at, element_at}
use Rattle.toml_span_tree.specs.Path.{Path, Step, key, position, Place, Shape, shape_taken, shape_scalar, shape_array, shape_table, reached, at_step, place_of, place_at, put, put_where, set_entry, set_element, set_at_step, BeginsWith}
use Rattle.toml_span_tree.specs.Value.{inner_of, span_of}
use Rattle.toml_span_tree.proofs.Paths.{StepsApart, same_or_apart, place_at-put, place_at-other}
use Rattle.toml_span_read.proofs.NumberLemmas.{same_byte}
use Rattle.toml_span.specs.Ordered.{IsNameBefore, EachName, IsOrdered, AreOrdered, MembersOrdered}
use Rattle.toml_span_laws.specs.Replaced.{no_span, without_spans, items_without, members_without}
use Rattle.toml_span_laws.proofs.OneTree.{node-one}
use Rattle.toml_span_laws.proofs.PlainClaims.{plain_place, plain_shape}
use Rattle.toml_span_laws.proofs.PlainParsed.{unchanged, changed_at}
use Rattle.toml_span_laws.proofs.Pointed.{reached-on}

-- ---- order

names_without : (P : List ℕ → Type 0) (ms : Members) → EachName P ms → EachName P (members_without ms)
names_without P no_members h = tt
names_without P (member name at n ms) h = (h.0, names_without P ms h.1)

mutual
  ordered_without : (n : Node) → IsOrdered n → IsOrdered (without_spans n)
  ordered_without (node taken span) h = tt
  ordered_without (node (scalar s) span) h = tt
  ordered_without (node (array ns) span) h = items_ordered ns h
  ordered_without (node (table ms) span) h = members_ordered ms h

  items_ordered : (ns : Items) → AreOrdered ns → AreOrdered (items_without ns)
  items_ordered no_items h = tt
  items_ordered (item n ns) h = (ordered_without n h.0, items_ordered ns h.1)

  members_ordered : (ms : Members) → MembersOrdered ms → MembersOrdered (members_without ms)
  members_ordered no_members h = tt
  members_ordered (member name at n ms) h = (names_without (IsNameBefore name) ms h.0, ordered_without n h.1, members_ordered ms h.2)

-- another value in a tree
names_set : (P : List ℕ → Type 0) (name : List ℕ) (w : Node) (ms : Members) → EachName P ms → EachName P (set_entry name w ms)
names_set P name w no_members h = tt
names_set P name w (member other at n ms) h = elim (cases_Bool (bytes_eq name other)) [
  | inl here ↦ rw here h
  | inr off ↦ rw off (h.0, names_set P name w ms h.1)
]

entry_set : (name : List ℕ) (w : Node) (ms : Members) → IsOrdered w → MembersOrdered ms → MembersOrdered (set_entry name w ms)
entry_set name w no_members o h = tt
entry_set name w (member other at n ms) o h = elim (cases_Bool (bytes_eq name other)) [
  | inl here ↦ rw here (h.0, o, h.2)
  | inr off ↦ rw off (names_set (IsNameBefore other) name w ms h.0, h.1, entry_set name w ms o h.2)
]

element_set : (i : ℕ) (w : Node) (ns : Items) → IsOrdered w → AreOrdered ns → AreOrdered (set_element i w ns)
element_set i w no_items o h = tt
element_set zero w (item n ns) o h = (o, h.1)
element_set (suc i) w (item n ns) o h = (h.0, element_set i w ns o h.1)

step_set : (s : Step) (w n : Node) → IsOrdered w → IsOrdered n → IsOrdered (node (set_at_step s w (inner_of n)) (span_of n))
step_set s w (node taken span) o h = h
step_set s w (node (scalar x) span) o h = h
step_set (key name) w (node (array ns) span) o h = h
step_set (position i) w (node (array ns) span) o h = element_set i w ns o h
step_set (key name) w (node (table ms) span) o h = entry_set name w ms o h
step_set (position i) w (node (table ms) span) o h = h

entry_ordered : (name : List ℕ) (ms : Members) (x : Option Span × Node) → MembersOrdered ms → entry_at name ms ≡ Some x → IsOrdered x.1
entry_ordered name no_members x h is = absurd (cc)
entry_ordered name (member other at n ms) x h is = elim (cases_Bool (bytes_eq name other)) [
  | inl here ↦ let e : (Some at, n) ≡ x = same_Some (Some at, n) x (rw here at is) in subst (λ (y : Option Span × Node). IsOrdered y.1) e h.1
  | inr off ↦ entry_ordered name ms x h.2 (rw off at is)
]

element_ordered : (i : ℕ) (ns : Items) (x : Option Span × Node) → AreOrdered ns → element_at i ns ≡ Some x → IsOrdered x.1
element_ordered i no_items x h is = absurd (cc)
element_ordered zero (item n ns) x h is = subst (λ (y : Option Span × Node). IsOrdered y.1) (same_Some (None, n) x is) h.0
element_ordered (suc i) (item n ns) x h is = element_ordered i ns x h.1 is

step_ordered : (s : Step) (n : Node) (x : Option Span × Node) → IsOrdered n → at_step s (inner_of n) ≡ Some x → IsOrdered x.1
step_ordered s (node taken span) x h is = absurd (cc)
step_ordered s (node (scalar y) span) x h is = absurd (cc)
step_ordered (key name) (node (array ns) span) x h is = absurd (cc)
step_ordered (position i) (node (array ns) span) x h is = element_ordered i ns x h is
step_ordered (key name) (node (table ms) span) x h is = entry_ordered name ms x h is
step_ordered (position i) (node (table ms) span) x h is = absurd (cc)

put_below : (s : Step) (path : Path) (w n : Node) (x : Option (Option Span × Node)) → at_step s (inner_of n) ≡ x → IsOrdered n → ((m : Node) → IsOrdered m → IsOrdered (put path w m)) → IsOrdered (put_where (option_map (λ m. m.1) x) s (put path w) n)
put_below s path w n None is h f = h
put_below s path w n (Some x) is h f = step_set s (put path w x.1) n (f x.1 (step_ordered s n x h is)) h

put_ordered : (path : Path) (w n : Node) → IsOrdered w → IsOrdered n → IsOrdered (put path w n)
put_ordered [] w n o h = o
put_ordered (s ∷ path) w n o h = put_below s path w n (at_step s (inner_of n)) refl h (λ m g. put_ordered path w m o g)

-- ---- places

abbrev at_without : Option Span × Node → Option Span × Node
at_without x = (option_map (λ k. no_span) x.0, without_spans x.1)

entry_without : (name : List ℕ) (ms : Members) → entry_at name (members_without ms) ≡ option_map at_without (entry_at name ms)
entry_without name no_members = refl
entry_without name (member other at n ms) = elim (cases_Bool (bytes_eq name other)) [
  | inl here ↦ rw here refl
  | inr off ↦ rw (off, entry_without name ms) refl
]

element_without : (i : ℕ) (ns : Items) → element_at i (items_without ns) ≡ option_map at_without (element_at i ns)
element_without i no_items = refl
element_without zero (item n ns) = refl
element_without (suc i) (item n ns) = element_without i ns

step_without : (s : Step) (n : Node) → at_step s (inner_of (without_spans n)) ≡ option_map at_without (at_step s (inner_of n))
step_without s (node taken span) = refl
step_without s (node (scalar x) span) = refl
step_without (key name) (node (array ns) span) = refl
step_without (position i) (node (array ns) span) = element_without i ns
step_without (key name) (node (table ms) span) = entry_without name ms
step_without (position i) (node (table ms) span) = refl

reached_from : (p : Path) (o : Option (Option Span × Node)) → ((x : Option Span × Node) → reached p (at_without x) ≡ option_map at_without (reached p x))
    → option_and_then (reached p) (option_map at_without o) ≡ option_map at_without (option_and_then (reached p) o)
reached_from p None f = refl
reached_from p (Some x) f = f x

reached_without : (p : Path) (x : Option Span × Node) → reached p (at_without x) ≡ option_map at_without (reached p x)
reached_without [] x = refl
reached_without (s ∷ p) x = ap (λ o. option_and_then (reached p) o) (step_without s x.1) ∙ reached_from p (at_step s (inner_of x.1)) (λ y. reached_without p y)

shown_without : (x : Option Span × Node) → place_of (at_without x) ≡ plain_place unchanged (place_of x)
shown_without (k, node taken span) = refl
shown_without (k, node (scalar s) span) = refl
shown_without (k, node (array ns) span) = refl
shown_without (k, node (table ms) span) = refl

places_without : (p : Path) (n : Node) → place_at p (without_spans n) ≡ option_map (plain_place unchanged) (place_at p n)
places_without p n = ap (λ o. option_map place_of o) (reached_without p (None, n)) ∙ mapped (reached p (None, n))
  where
    mapped : (o : Option (Option Span × Node)) → option_map place_of (option_map at_without o) ≡ option_map (plain_place unchanged) (option_map place_of o)
    mapped None = refl
    mapped (Some x) = ap Some (shown_without x)

-- ---- below a scalar there is nothing

nothing_below : (path rest : Path) (t : Step) (n : Node) (x : Place) (s : Scalar) → place_at path n ≡ Some x → x.shape ≡ shape_scalar s → place_at (path ++ (t ∷ rest)) n ≡ None
nothing_below path rest t n x s here is = ap (λ o. option_map place_of o) (reached-on path (t ∷ rest) (None, n) ∙ from (reached path (None, n)) here)
  where
    under : (m : Option Span × Node) → (place_of m).shape ≡ shape_scalar s → reached (t ∷ rest) m ≡ None
    under (k, node taken span) e = absurd (cc)
    under (k, node (scalar y) span) e = refl
    under (k, node (array ns) span) e = absurd (cc)
    under (k, node (table ms) span) e = absurd (cc)

    from : (o : Option (Option Span × Node)) → option_map place_of o ≡ Some x → option_and_then (reached (t ∷ rest)) o ≡ None
    from None e = refl
    from (Some m) e = under m (ap (λ y. y.shape) (same_Some (place_of m) x e) ∙ is)

-- ---- paths

steps_differ : (s : Step) → StepsApart s s → ⊥
steps_differ (key a) h = grind (arith, nat_tests, common_steps, bytes_eq-Decides a a)
steps_differ (position i) h = h refl

begins_or_not : (path p : Path) → BeginsWith path p ⊎ (BeginsWith path p → ⊥)
begins_or_not [] p = inl (p, refl)
begins_or_not (s ∷ path) [] = inr (λ b. absurd (no_steps b.0 b.1))
  where
    no_steps : (rest : Path) → [] ≡ s ∷ (path ++ rest) → ⊥
    no_steps rest e = absurd (cc)
begins_or_not (s ∷ path) (t ∷ p) = elim (same_or_apart t s) [
  | inl same ↦ elim (begins_or_not path p) [
    | inl b ↦ inl (b.0, cc (same, b.1))
    | inr off ↦ inr (λ b. off (b.0, tail_same b.0 b.1))
  ]
  | inr apart ↦ inr (λ b. steps_differ s (subst (λ u. StepsApart u s) (head_same b.0 b.1) apart))
]
  where
    tail_same : (rest : Path) → t ∷ p ≡ s ∷ (path ++ rest) → p ≡ path ++ rest
    tail_same rest e = cc

    head_same : (rest : Path) → t ∷ p ≡ s ∷ (path ++ rest) → t ≡ s
    head_same rest e = cc

-- ---- the tree with another scalar

module _ (n m : Node) (path : Path) (x : Place) (s new : Scalar) (here : place_at path n ≡ Some x) (is : x.shape ≡ shape_scalar s)
    (apart : (p : Path) (y : Place) (t : Scalar) → place_at p n ≡ Some y → y.shape ≡ shape_scalar t → y.span.start ≡ x.span.start → p ≡ path)
    (alike : (p : Path) → option_map (plain_place unchanged) (place_at p m) ≡ option_map (plain_place (changed_at x.span.start new)) (place_at p n)) where
  abbrev w : Node
  w = node (scalar new) no_span

  -- at the path
  there : option_map (plain_place (changed_at x.span.start new)) (place_at path n) ≡ option_map (plain_place unchanged) (place_at path (put path w n))
  there = rw (place_at-put path n w x here, here, is, same_byte x.span.start x.span.start refl) refl

  -- elsewhere
  kept : (p : Path) → (p ≡ path → ⊥) → (o : Option Place) → place_at p n ≡ o → option_map (plain_place (changed_at x.span.start new)) o ≡ option_map (plain_place unchanged) o
  kept p other None e = refl
  kept p other (Some y) e = ap Some (kept_place y e)
    where
      kept_place : (y : Place) → place_at p n ≡ Some y → plain_place (changed_at x.span.start new) y ≡ plain_place unchanged y
      kept_place y e = ap (λ z. record { shape = z; key_span = option_map (λ k. no_span) y.key_span; span = no_span }) (kept_shape y.shape refl)
        where
          kept_shape : (z : Shape) → y.shape ≡ z → plain_shape (changed_at x.span.start new) y.span.start z ≡ plain_shape unchanged y.span.start z
          kept_shape (shape_scalar t) f = rw (ne_eqb y.span.start x.span.start (λ at. other (apart p y t e f at))) refl
          kept_shape shape_taken f = refl
          kept_shape shape_array f = refl
          kept_shape shape_table f = refl

  put_places : (p : Path) → option_map (plain_place (changed_at x.span.start new)) (place_at p n) ≡ option_map (plain_place unchanged) (place_at p (put path w n))
  put_places p = elim (begins_or_not path p) [
    | inl (rest, b) ↦ subst (λ q. option_map (plain_place (changed_at x.span.start new)) (place_at q n) ≡ option_map (plain_place unchanged) (place_at q (put path w n))) (sym b) (at_or_below rest)
    | inr off ↦ kept p (λ e. off ([], e ∙ sym (append-nil path))) (place_at p n) refl ∙ ap (λ o. option_map (plain_place unchanged) o) (sym (place_at-other path p n w off))
  ]
    where
      at_or_below : (rest : Path) → option_map (plain_place (changed_at x.span.start new)) (place_at (path ++ rest) n) ≡ option_map (plain_place unchanged) (place_at (path ++ rest) (put path w n))
      at_or_below [] = rw (append-nil path) there
      at_or_below (t ∷ rest) = rw (nothing_below path rest t n x s here is, nothing_below path rest t (put path w n) (record { shape = shape_scalar new; key_span = x.key_span; span = no_span }) new (place_at-put path n w x here) refl) refl

  pub tree_put : IsOrdered n → IsOrdered m → without_spans m ≡ without_spans (put path w n)
  tree_put a b =
      node-one (without_spans m) (without_spans (put path w n)) (ordered_without m b) (ordered_without (put path w n) (put_ordered path w n tt a))
      (λ p. places_without p m ∙ (alike p ∙ (put_places p ∙ sym (places_without p (put path w n)))))
