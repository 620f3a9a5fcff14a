-- The strings and keys in finished values.
use Rattle.toml_span_lex.proofs.Common.{◌≡◌, ℕ, zero, suc, ◌+◌, List, [], ◌∷◌, ◌++◌, map, Option, Some, None, option_map, rules, refl, sym, ap, ◌∙◌, subst, Global, Vec, BTreeMap, CowStr, cow_str_bytes, arith, none-some, same_Some, option_map_or}
use Rattle.toml_span_lex.specs.declared.span.Span.{Span}
use Rattle.toml_span_lex.specs.declared.key.Key.{Key}
use Rattle.toml_span_tree.specs.Node as tree
use Rattle.toml_span_tree.specs.Path.{Path, Step, key, position}
use Rattle.toml_span_tree.specs.Value.{items_view, members_view, view}
use Rattle.toml_span_tree.specs.declared.value.Value.{Value}
use Rattle.toml_span_tree.specs.declared.value.ValueInner.{ValueInner, the_lemmas as tree_lemmas}
use Rattle.toml_span_tree.specs.declared.value.ValueInner.TheFolds.{fold-ValueInner}
use Rattle.toml_span_tree.specs.declared.value.ValueInner.TheVariants as inners
use Rattle.toml_span_read.proofs.BorrowLemmas.{all_append, all_front, all_after}
use Rattle.toml_span.specs.Borrowed.{StringOrKey, KeySpans, StringsAndKeys, inner_strings_step, value_strings_step, strings_and_keys, elements_strings, entries_strings, IsBorrowedRight, AreBorrowedRight}
use Rattle.toml_span.specs.code.Borrowed.{own_elements, own_held, own_spans, own_table, table_held}
use Rattle.toml_span.specs.code.Tree.{item}
use Rattle.toml_span_read.specs.Borrowed.{joined, string as string_written, written, kind_written, assignments_written, AreWrittenRight}
use Rattle.toml_span_read.proofs.BorrowLemmas.{written_is}
use Rattle.toml_span_read.specs.declared.value.Assignment.{Assignment}
use Rattle.toml_span_read.specs.declared.value.Val.{Val}
use Rattle.toml_span_read.specs.declared.value.ValKind.{ValKind, the_lemmas as read_lemmas}
use Rattle.toml_span_read.specs.declared.value.ValKind.TheVariants as kinds
use Rattle.toml_span.proofs.Grafts.{fun_ext}

-- ---- one level at a time

abbrev pub inner_held : ValueInner → Span → StringsAndKeys
inner_held = fold-ValueInner (Span → StringsAndKeys) StringsAndKeys inner_strings_step value_strings_step

abbrev pub array_held : List Value → StringsAndKeys
array_held vs = elements_strings 0 (map strings_and_keys vs)

held_is : (v : Value) → strings_and_keys v ≡ option_map_or (λ held. held v.span) (option_map inner_held v.value) (λ spans. [])
held_is v = search (rules, tree_lemmas)

kept_held : (v : Value) (i : ValueInner) (span : Span) → (v.value ≡ Some i) × (v.span ≡ span) → strings_and_keys v ≡ inner_held i span
kept_held v i span k = held_is v ∙ rw (k.0, k.1) refl

held-Table : (t : BTreeMap Key Value) (span : Span) → inner_held (inners.Table t) span ≡ table_held t.entries
held-Table t span = search (rules, tree_lemmas)

held-Array : (a : Vec Value Global) (span : Span) → inner_held (inners.Array a) span ≡ array_held a.items
held-Array a span = search (rules, tree_lemmas)

pub table-held : (v : Value) (t : BTreeMap Key Value) (span : Span) → (v.value ≡ Some (inners.Table t)) × (v.span ≡ span) → strings_and_keys v ≡ table_held t.entries
table-held v t span k = kept_held v (inners.Table t) span k ∙ held-Table t span

pub array-held : (v : Value) (a : Vec Value Global) (span : Span) → (v.value ≡ Some (inners.Array a)) × (v.span ≡ span) → strings_and_keys v ≡ array_held a.items
array-held v a span k = kept_held v (inners.Array a) span k ∙ held-Array a span

-- ---- elements

pub elements-right : (text : List ℕ) (i : ℕ) (vs : List Value) (spans : KeySpans) → ((j l : ℕ) (v : Value) → l ≡ i + j → item j vs ≡ Some v → AreBorrowedRight text (strings_and_keys v (λ p. spans (position l ∷ p))))
    → AreBorrowedRight text (elements_strings i (map strings_and_keys vs) spans)
elements-right text i [] spans each = tt
elements-right text i (v ∷ vs) spans each =
    all_append (IsBorrowedRight text) (strings_and_keys v (λ p. spans (position i ∷ p))) (elements_strings (suc i) (map strings_and_keys vs) spans) (each 0 i v (omega arith) refl)
    (elements-right text (suc i) vs spans (λ j l x at is. each (suc j) l x (omega arith) is))

-- one of several
pub item_right : {A : Type 0} (text : List ℕ) (f : A → List StringOrKey) (i : ℕ) (x : A) (xs : List A) → item i xs ≡ Some x → AreBorrowedRight text (joined (map f xs)) → AreBorrowedRight text (f x)
item_right text f i x [] is h = absurd (none-some x is)
item_right text f zero x (y ∷ xs) is h = subst (λ z. AreBorrowedRight text (f z)) (same_Some y x is) (all_front (IsBorrowedRight text) (f y) (joined (map f xs)) h)
item_right text f (suc i) x (y ∷ xs) is h = item_right text f i x xs is (all_after (IsBorrowedRight text) (f y) (joined (map f xs)) h)

element-item : (i : ℕ) (v : Value) (vs : List Value) → item i vs ≡ Some v → tree.element_at i (items_view vs) ≡ Some (None, view v)
element-item i v [] is = absurd (none-some v is)
element-item zero v (x ∷ vs) is = ap (λ y. Some (None, view y)) (same_Some x v is)
element-item (suc i) v (x ∷ vs) is = element-item i v vs is

-- ---- values by the spans of their own keys

-- the span of a value's own key does not matter to the table inside
pub table-spans : (es : List (Key × StringsAndKeys)) (f g : KeySpans) → ((s : Step) (p : Path) → f (s ∷ p) ≡ g (s ∷ p)) → entries_strings es f ≡ entries_strings es g
table-spans [] f g same = refl
table-spans (e ∷ es) f g same =
    let name = key (cow_str_bytes e.0.name) in
    ap (λ o. (e.0.name, o) ∷ (e.1 (λ p. f (name ∷ p)) ++ entries_strings es f)) (same name [])
    ∙ ap (λ h. (e.0.name, g (name ∷ [])) ∷ (e.1 h ++ entries_strings es f)) (fun_ext (λ p. same name p))
    ∙ ap (λ l. (e.0.name, g (name ∷ [])) ∷ (e.1 (λ p. g (name ∷ p)) ++ l)) (table-spans es f g same)

pub made_table : (text : List ℕ) (v : Value) (t : BTreeMap Key Value) (span : Span) → (v.value ≡ Some (inners.Table t)) × (v.span ≡ span) → view v ≡ tree.node (tree.table (members_view t.entries)) span
    → AreBorrowedRight text (own_table t.entries) → (at : Option Span) → AreBorrowedRight text (own_held at v)
made_table text v t span k seen h at =
    rw (table-held v t span k, seen)
    (subst (AreBorrowedRight text) (table-spans (map (λ e. (e.0, strings_and_keys e.1)) t.entries) _ (own_spans at (tree.node (tree.table (members_view t.entries)) span)) (λ s p. refl)) h)

pub made_array : (text : List ℕ) (v : Value) (a : Vec Value Global) (span : Span) → (v.value ≡ Some (inners.Array a)) × (v.span ≡ span) → view v ≡ tree.node (tree.array (items_view a.items)) span
    → AreBorrowedRight text (own_elements a.items) → (at : Option Span) → AreBorrowedRight text (own_held at v)
made_array text v a span k seen h at =
    rw (array-held v a span k, seen)
    (elements-right text 0 a.items (own_spans at (tree.node (tree.array (items_view a.items)) span))
    (λ j l x same is.
    let plain : l ≡ j = omega (arith, same) in
    let here : item l a.items ≡ Some x = ap (λ i. item i a.items) plain ∙ is in
    rw (element-item l x a.items here) (item_right text (own_held None) l x a.items here h)))

pub element_push : (text : List ℕ) (v : Value) (vs : List Value) → AreBorrowedRight text (own_elements vs) → AreBorrowedRight text (own_held None v) → AreBorrowedRight text (own_elements (vs ++ (v ∷ [])))
element_push text v [] h k = all_append (IsBorrowedRight text) (own_held None v) [] k tt
element_push text v (w ∷ vs) h k = search (rules, all_append, all_front, all_after, element_push text v vs)

-- ---- what was read

module _ (text : List ℕ) where
  kind_right : (v : Val) (k : ValKind) → v.kind ≡ k → AreWrittenRight text (written v) → AreWrittenRight text (kind_written k v.span)
  kind_right v k is h = rw is at (rw (written_is v) at h)

  right_held : (x : Value) (h : StringsAndKeys) → strings_and_keys x ≡ h → ((spans : KeySpans) → AreBorrowedRight text (h spans)) → (at : Option Span) → AreBorrowedRight text (own_held at x)
  right_held x h is right at = subst (λ (h : StringsAndKeys). AreBorrowedRight text (h (own_spans at (view x)))) (sym is) (right (own_spans at (view x)))

  pub string_right : (v : Val) (x : Value) (i : ValueInner) (s : CowStr Global) → v.kind ≡ kinds.String s → i ≡ inners.String s → (x.value ≡ Some i) × (x.span ≡ v.span)
      → AreWrittenRight text (written v) → (at : Option Span) → AreBorrowedRight text (own_held at x)
  string_right v x i s kind is kept h =
      let read : kind_written (kinds.String s) v.span ≡ string_written s v.span ∷ [] = search (rules, read_lemmas) in
      let right = rw read at (kind_right v (kinds.String s) kind h) in
      let made : inner_held (inners.String s) v.span ≡ (λ spans. (s, Some v.span) ∷ []) = search (rules, tree_lemmas) in
      right_held x _ (kept_held x (inners.String s) v.span (kept.0 ∙ ap (λ i. Some i) is, kept.1) ∙ made) (λ spans. right)

  pub plain_right : (x : Value) (i inner : ValueInner) (span : Span) → (x.value ≡ Some i) × (x.span ≡ span) → i ≡ inner → inner_held inner span ≡ (λ spans. []) → (at : Option Span) → AreBorrowedRight text (own_held at x)
  plain_right x i inner span kept is made = right_held x _ (kept_held x inner span (kept.0 ∙ ap (λ i. Some i) is, kept.1) ∙ made) (λ spans. tt)

  pub array_read : (v : Val) (vs : Vec Val Global) → v.kind ≡ kinds.Array vs → AreWrittenRight text (written v) → AreWrittenRight text (joined (map written vs.items))
  array_read v vs kind h =
      let read : kind_written (kinds.Array vs) v.span ≡ joined (map written vs.items) = search (rules, read_lemmas) in
      rw read at (kind_right v (kinds.Array vs) kind h)

  pub inline_read : (v : Val) (found : Vec Assignment Global) → v.kind ≡ kinds.Inline found → AreWrittenRight text (written v) → AreWrittenRight text (assignments_written found.items)
  inline_read v found kind h =
      let read : kind_written (kinds.Inline found) v.span ≡ assignments_written found.items = search (rules, read_lemmas) in
      rw read at (kind_right v (kinds.Inline found) kind h)
