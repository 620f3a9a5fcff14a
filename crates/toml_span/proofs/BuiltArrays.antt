-- Arrays of tables under construction, with one more element.
use Rattle.toml_span_lex.proofs.Common.{◌≡◌, ◌≢◌, ℕ, zero, suc, ◌+◌, ◌<◌, ◌≤◌, Bool, true, false, false≢true, cases_Bool, inl, inr, cond, List, [], ◌∷◌, ◌++◌, length, map, Option, Some, None, option_map, option_and_then, if◌then◌else◌, nat_eq, nil_from_length, refl, sym, ap, ◌∙◌, subst, arith, nat_tests, common_steps}
use Rattle.std.proofs.lemmas.Bool.{eq-eqb, eqb-true, ne_eqb}
use Rattle.toml_span_lex.specs.declared.key.Key.{Key}
use Rattle.toml_span_lex.specs.declared.span.Span.{Span}
use Rattle.toml_span_tree.specs.Node as tree
use Rattle.toml_span_tree.specs.Path.{Path, key, position, shape_array, reached, place_of as tree_place}
use Rattle.toml_span_tree.specs.Value.{view, items_view}
use Rattle.toml_span_tree.specs.declared.value.Value.{Value}
use Rattle.toml_span_tree.specs.declared.value.ValueInner.TheVariants.{Array as array_inner, Table as table_inner}
use Rattle.toml_span_read.specs.Data.{SimpleKey}
use Rattle.toml_span_read.proofs.BorrowLemmas.{all_append, all_front, all_after}
use Rattle.toml_span.specs.declared.claims.ClaimKind.TheVariants.{ArrayOfTables, StandardTable, TableElement}
use Rattle.toml_span.specs.declared.claims.HeaderInfo.{HeaderInfo}
use Rattle.toml_span.specs.Borrowed.{KeySpans, IsBorrowedRight, strings_and_keys, elements_strings, AreBorrowedRight}
use Rattle.toml_span.specs.Claims.{Claims, array_claims, header_claim}
use Rattle.toml_span.specs.Ordered.{IsOrdered, AreOrdered}
use Rattle.toml_span_read.specs.Paths.{same_path}
use Rattle.toml_span.specs.code.Built.{BuildsOn, EntryBuilt, IsBuilt, IsOpenTable, IsSection, IsTableCell, MakesEntry, PassesElement}
use Rattle.toml_span.specs.code.Machine.{CellMap, change, clash_found, graft, key_spans, no_cell, no_cells, put_all, with_claim}
use Rattle.toml_span.specs.code.Placing.{Array, NamesAscend, Table, place_shown}
use Rattle.toml_span.specs.code.Relative.{adding, counts_after, counts_after_adding, counts_after_entered, ending, entered, counts_after_through, opening, passing, section_at, through, under}
use Rattle.toml_span.proofs.BuiltTables.{ElementShows, array-same, counts-here, element-built, element-cell, element-free, element-shows, element-table, kinds-apart, passed-built, passed-cell, passed-shown, table-same, view-array, view-table}
use Rattle.toml_span.proofs.Grafts.{fun_ext, graft-graft, put_all-under, reported-under, sub-graft}
use Rattle.toml_span.proofs.HeldValues.{array_held, array-held}

-- ---- lists of elements

element-push : (vs : List Value) (v : Value) (i : ℕ) → tree.element_at i (items_view (vs ++ (v ∷ []))) ≡ cond (nat_eq (length vs) i) (Some (None, view v)) (tree.element_at i (items_view vs))
element-push [] v i = grind (arith, nat_tests, common_steps)
element-push (x ∷ vs) v i = grind (arith, nat_tests, common_steps, element-push vs v)

ordered-push : (vs : List Value) (v : Value) → AreOrdered (items_view vs) → IsOrdered (view v) → AreOrdered (items_view (vs ++ (v ∷ [])))
ordered-push [] v h g = (g, tt)
ordered-push (x ∷ vs) v h g = (h.0, ordered-push vs v h.1 g)

right-push : (text : List ℕ) (i m : ℕ) (vs : List Value) (v : Value) (f g : KeySpans) → m ≡ i + length vs → ((j : ℕ) (p : Path) → j < m → f (position j ∷ p) ≡ g (position j ∷ p)) → AreBorrowedRight text (elements_strings i (map strings_and_keys vs) f)
    → AreBorrowedRight text (strings_and_keys v (λ p. g (position m ∷ p))) → AreBorrowedRight text (elements_strings i (map strings_and_keys (vs ++ (v ∷ []))) g)
right-push text i m [] v f g is same h new =
    let here : m ≡ i = omega (arith, is) in
    all_append (IsBorrowedRight text) (strings_and_keys v (λ p. g (position i ∷ p))) [] (subst (λ j. AreBorrowedRight text (strings_and_keys v (λ p. g (position j ∷ p)))) here new) tt
right-push text i m (x ∷ vs) v f g is same h new =
    let first = strings_and_keys x (λ p. f (position i ∷ p)) in
    let rest = elements_strings (suc i) (map strings_and_keys vs) f in
    let spans : ◌≡◌ {A = KeySpans} (λ p. f (position i ∷ p)) (λ p. g (position i ∷ p)) = fun_ext (λ p. same i p (omega (arith, is))) in
    all_append (IsBorrowedRight text) (strings_and_keys x (λ p. g (position i ∷ p))) (elements_strings (suc i) (map strings_and_keys (vs ++ (v ∷ []))) g)
    (subst (λ (s : KeySpans). AreBorrowedRight text (strings_and_keys x s)) spans (all_front (IsBorrowedRight text) first rest h))
    (right-push text (suc i) m vs v f g (omega (arith, is)) same (all_after (IsBorrowedRight text) first rest h) new)

ordered-front : (vs : List Value) (v : Value) → AreOrdered (items_view (vs ++ (v ∷ []))) → AreOrdered (items_view vs)
ordered-front [] v h = tt
ordered-front (x ∷ vs) v h = (h.0, ordered-front vs v h.1)

-- without the last element
right-front : (text : List ℕ) (i m : ℕ) (vs : List Value) (v : Value) (f g : KeySpans) → m ≡ i + length vs → ((j : ℕ) (p : Path) → j < m → f (position j ∷ p) ≡ g (position j ∷ p)) → AreBorrowedRight text (elements_strings i (map strings_and_keys (vs ++ (v ∷ []))) f)
    → AreBorrowedRight text (elements_strings i (map strings_and_keys vs) g)
right-front text i m [] v f g is same h = tt
right-front text i m (x ∷ vs) v f g is same h =
    let first = strings_and_keys x (λ p. f (position i ∷ p)) in
    let rest = elements_strings (suc i) (map strings_and_keys (vs ++ (v ∷ []))) f in
    let spans : ◌≡◌ {A = KeySpans} (λ p. f (position i ∷ p)) (λ p. g (position i ∷ p)) = fun_ext (λ p. same i p (omega (arith, is))) in
    all_append (IsBorrowedRight text) (strings_and_keys x (λ p. g (position i ∷ p))) (elements_strings (suc i) (map strings_and_keys vs) g)
    (subst (λ (s : KeySpans). AreBorrowedRight text (strings_and_keys x s)) spans (all_front (IsBorrowedRight text) first rest h))
    (right-front text (suc i) m vs v f g (omega (arith, is)) same (all_after (IsBorrowedRight text) first rest h))

element-past : (vs : List Value) → tree.element_at (length vs) (items_view vs) ≡ None
element-past [] = refl
element-past (x ∷ vs) = element-past vs

final : Value → List Value → Value
final d [] = d
final d (x ∷ xs) = final x xs

final-push : (d : Value) (vs : List Value) (v : Value) → final d (vs ++ (v ∷ [])) ≡ v
unfolding final
final-push d [] v = refl
final-push d (x ∷ vs) v = final-push x vs v

same-final : (vs ws : List Value) (v w : Value) → vs ++ (v ∷ []) ≡ ws ++ (w ∷ []) → v ≡ w
same-final vs ws v w is = sym (final-push v vs v) ∙ ap (final v) is ∙ final-push v ws w

length-push : (vs : List Value) (v : Value) → length (vs ++ (v ∷ [])) ≡ suc (length vs)
length-push [] v = refl
length-push (x ∷ vs) v = ap suc (length-push vs v)

never-empty : (vs : List Value) (v : Value) → vs ++ (v ∷ []) ≡ [] → ⊥
never-empty [] v none = absurd (omega (arith, ap length none))
never-empty (x ∷ vs) v none = absurd (omega (arith, ap length none))

-- ---- one more element

-- an array with these elements, and what it shows
record ArrayShows (text : List ℕ) (k : Key) (span : Span) (vs : List Value) (st : CellMap) : Type 0 where
  here : place_shown (st []) ≡ Some (record { shape = shape_array; key_span = Some k.span; span = span })
  name : IsBorrowedRight text (k.name, key_spans st [])
  elements : (i : ℕ) (p : Path) → option_map tree_place (option_and_then (reached p) (tree.element_at i (items_view vs))) ≡ place_shown (st (position i ∷ p))
  names : (n : List ℕ) (p : Path) → None ≡ place_shown (st (key n ∷ p))
  ordered : AreOrdered (items_view vs)
  right : AreBorrowedRight text (array_held vs (key_spans st))
  free : (i : ℕ) (p : Path) → length vs ≤ i → st (position i ∷ p) ≡ no_cell

pick : {A B : Type 0} (f : A → Option B) (b : Bool) (x y : Option A) → option_and_then f (cond b x y) ≡ cond b (option_and_then f x) (option_and_then f y)
pick f true x y = refl
pick f false x y = refl

place-there : (b : Bool) (x y : Option (Option Span × tree.Node)) (st sub : CellMap) (p q : Path) → option_map tree_place x ≡ place_shown (sub p) → option_map tree_place y ≡ place_shown (st q)
    → option_map tree_place (cond b x y) ≡ place_shown (if b then sub p else st q)
place-there true x y st sub p q h g = h
place-there false x y st sub p q h g = g

module _ (text : List ℕ) (k : Key) (w : Value) (b : Array) (vs : List Value) (v : Value) (st sub : CellMap) (held : w.value ≡ Some (array_inner b)) (is : b.items ≡ vs ++ (v ∷ [])) (old : ArrayShows text k w.span vs st)
    (new : ElementShows text v sub) where
  abbrev n : ℕ
  n = length vs

  w-is : view w ≡ tree.node (tree.array (items_view (vs ++ (v ∷ [])))) w.span
  w-is = view-array w b held ∙ ap (λ l. tree.node (tree.array (items_view l)) w.span) is

  pushed-places : (p : Path) → option_map tree_place (reached p (Some k.span, view w)) ≡ place_shown (graft (position n) st sub p)
  unfolding graft
  pushed-places [] = rw w-is (sym old.here)
  pushed-places (key l ∷ p) = rw w-is (old.names l p)
  pushed-places (position i ∷ p) =
      rw (w-is, element-push vs v i, pick (reached p) (nat_eq n i) (Some (None, view v)) (tree.element_at i (items_view vs)))
      (place-there (nat_eq n i) (reached p (None, view v)) (option_and_then (reached p) (tree.element_at i (items_view vs))) st sub p (position i ∷ p) (new.0 p) (old.elements i p))

  pushed-spans : (j : ℕ) (p : Path) → j < n → key_spans st (position j ∷ p) ≡ key_spans (graft (position n) st sub) (position j ∷ p)
  unfolding graft
  pushed-spans j p less = rw (ne_eqb n j (λ same. absurd (omega (arith, same, less)))) refl

  pushed-last : (λ p. key_spans (graft (position n) st sub) (position n ∷ p)) ≡ key_spans sub
  pushed-last = ap key_spans (sub-graft (position n) st sub)

  here-graft : ◌≡◌ {A = CellMap} (λ p. graft (position n) st sub (position n ∷ p)) sub
  here-graft = sub-graft (position n) st sub

  same-length : (before : List Value) (x : Value) → vs ++ (v ∷ []) ≡ before ++ (x ∷ []) → n ≡ length before
  same-length before x split = omega (arith, ap length split, length-push vs v, length-push before x)

  module _ (e : Path → ℕ) (count : e [] ≡ suc n) (cell : IsTableCell (sub [])) (zeros : e (position n ∷ []) ≡ 0) (past : (i : ℕ) (p : Path) → n < i → e (position i ∷ p) ≡ 0)
      (inner : (t : Table) → v.value ≡ Some (table_inner t) → IsBuilt text t sub (λ p. e (position n ∷ p))) where
    pushed-open : (q : Path) (u : Table) → IsOpenTable w q u → IsBuilt text u (λ p. graft (position n) st sub (q ++ p)) (λ p. e (q ++ p))
    pushed-open [] u has = absurd (kinds-apart w u b has held)
    pushed-open (key l ∷ q) u has = absurd has
    pushed-open (position i ∷ s ∷ q) u has = absurd has
    pushed-open (position i ∷ []) u (a, before, x, also, split, at, table) =
        let parts : vs ++ (v ∷ []) ≡ before ++ (x ∷ []) = sym is ∙ ap (λ (y : Array). y.items) (array-same w b a held also) ∙ split in
        subst (λ j. IsBuilt text u (λ p. graft (position n) st sub (position j ∷ p)) (λ p. e (position j ∷ p))) (same-length before x parts ∙ sym at)
        (subst (λ (f : CellMap). IsBuilt text u f (λ p. e (position n ∷ p))) (sym here-graft) (inner u (ap (λ (y : Value). y.value) (same-final vs before v x parts) ∙ table)))

    pushed-latest : (before : List Value) (x : Value) → vs ++ (v ∷ []) ≡ before ++ (x ∷ []) → IsTableCell (graft (position n) st sub (position (length before) ∷ [])) × (e (position (length before) ∷ []) ≡ 0)
    pushed-latest before x parts =
        subst (λ j. IsTableCell (graft (position n) st sub (position j ∷ [])) × (e (position j ∷ []) ≡ 0)) (same-length before x parts) (subst IsTableCell (sym (ap (λ (f : CellMap). f []) here-graft)) cell, zeros)

    pushed : EntryBuilt text (k, w) (graft (position n) st sub) e
    unfolding graft
    pushed = record {
      shows = record {
        places = pushed-places;
        ordered = rw w-is (ordered-push vs v old.ordered new.1);
        right = (
          old.name,
          rw (array-held w b w.span (held, refl), is)
              (right-push text 0 n vs v (key_spans st) (key_spans (graft (position n) st sub)) (omega arith) pushed-spans old.right (subst (λ (s : KeySpans). AreBorrowedRight text (strings_and_keys v s)) (sym pushed-last) new.2)),
        );
      };
      made = record {
        table = λ u also. absurd (kinds-apart w u b also held);
        array = λ a also.
            let items : a.items ≡ vs ++ (v ∷ []) = ap (λ (x : Array). x.items) (sym (array-same w b a held also)) ∙ is in
            record {
              count = count ∙ sym (ap length items ∙ length-push vs v);
              some = λ none. never-empty vs v (sym items ∙ none);
              latest = λ before x split. pushed-latest before x (sym items ∙ split);
              free = λ i p more.
                  let after : n < i = omega (arith, more, ap length items, length-push vs v) in
                  (rw (ne_eqb n i (λ same. absurd (omega (arith, same, after)))) (old.free i p (omega (arith, after))), past i p after);
            };
      };
      inside = pushed-open;
    }

-- what an array shows, as an entry has it
old-shows : (text : List ℕ) (k : Key) (old : Value) (a : Array) (span : Span) (st : CellMap) (e : Path → ℕ) → old.value ≡ Some (array_inner a) → span ≡ old.span → EntryBuilt text (k, old) st e → ArrayShows text k span a.items st
old-shows text k old a span st e is same entry =
    let seen = view-array old a is in
    record {
      here = sym (rw seen at (entry.shows.places [])) ∙ rw same refl;
      name = entry.shows.right.0;
      elements = λ i p. rw seen at (entry.shows.places (position i ∷ p));
      names = λ n p. rw seen at (entry.shows.places (key n ∷ p));
      ordered = rw seen at entry.shows.ordered;
      right = rw (array-held old a old.span (is, refl)) at entry.shows.right.1;
      free = λ i p more. ((entry.made.array a is).free i p more).0;
    }

-- ---- the last part of a header in double brackets

module _ (text : List ℕ) (h : HeaderInfo) (tail : Claims) (k : Key) (part : SimpleKey) (array : h.array ≡ true) (v : Value) (t : Table) (size : h.extent ≡ v.span) (inside : v.value ≡ Some (table_inner t)) (ascend : NamesAscend t) (section : IsSection text tail t) where
  abbrev element : Claims
  element = opening h TableElement part tail

  shown-element : ElementShows text v (put_all no_cells element)
  shown-element = element-shows text h tail part t section v size inside ascend

  built-element : (u : Table) → v.value ≡ Some (table_inner u) → IsBuilt text u (put_all no_cells element) (λ p. 0)
  built-element u also = subst (λ w. IsBuilt text w (put_all no_cells element) (λ p. 0)) (table-same v t u inside also) (element-built text h tail part t section)

  -- an element at a position where nothing is claimed
  clash-added : (n : ℕ) (st : CellMap) → (λ q. st (position n ∷ q)) ≡ no_cells → clash_found st (adding h part tail n) ≡ None
  clash-added n st free = reported-under (position n) st element ∙ ap (λ f. clash_found f element) free ∙ element-free text h tail part t section

  put-added : (n : ℕ) (st : CellMap) → (λ q. st (position n ∷ q)) ≡ no_cells → put_all st (adding h part tail n) ≡ graft (position n) st (put_all no_cells element)
  put-added n st free = put_all-under (position n) st element ∙ ap (λ f. graft (position n) st (put_all f element)) free

  counts-added : (e : Path → ℕ) → counts_after_through e h [] ≡ counts_after_adding e
  counts-added e = fun_ext (λ p. ap (λ (b : Bool). if b then counts_after_adding e p else e p) array)

  ending-is : (n : ℕ) → ending h part tail n ≡ array_claims h [] part n (adding h part tail n)
  ending-is n = ap (λ (b : Bool). if b then array_claims h [] part n (adding h part tail n) else opening h StandardTable part tail) array

  -- the first element
  pub new-array : (w : Value) (b : Array) → k.span ≡ part.span → w.span ≡ v.span → IsBorrowedRight text (k.name, Some k.span) → w.value ≡ Some (array_inner b) → b.items ≡ v ∷ []
      → MakesEntry text (k, w) (through (λ p. 0) h part [] tail) (counts_after_through (λ p. 0) h [])
  unfolding change same_path clash_found put_all
  new-array w b at same name held is =
      let st = change no_cells [] (with_claim (header_claim h ArrayOfTables [] part)) in
      let shows : ArrayShows text k w.span [] st = record {
        here = rw (at, same, ← size) refl;
        name = subst (λ s. IsBorrowedRight text (k.name, Some s)) at name;
        elements = λ i p. refl;
        names = λ n p. refl;
        ordered = tt;
        right = tt;
        free = λ i p more. refl;
      } in
      rw (ending-is 0, counts-added (λ p. 0)) (
        clash-added 0 st refl,
        rw (put-added 0 st refl)
            (pushed text k w b [] v st (put_all no_cells element) held is shows shown-element (counts_after_adding (λ p. 0)) refl (element-cell text h tail part t section) refl (λ i p more. refl) built-element),
      )

  not-first : (n : ℕ) (cs : Claims) → (n ≡ 0 → ⊥) → array_claims h [] part n cs ≡ cs
  not-first zero cs some = absurd (some refl)
  not-first (suc n) cs some = refl

  -- a later element
  pub pass-array : (old w : Value) (a b : Array) (st : CellMap) (e : Path → ℕ) → old.value ≡ Some (array_inner a) → w.value ≡ Some (array_inner b) → w.span ≡ old.span → b.items ≡ a.items ++ (v ∷ [])
      → EntryBuilt text (k, old) st e → (clash_found st (through e h part [] tail) ≡ None) × EntryBuilt text (k, w) (put_all st (through e h part [] tail)) (counts_after_through e h [])
  pass-array old w a b st e was held same is entry =
      let elements = entry.made.array a was in
      let n = length a.items in
      let free : (λ q. st (position n ∷ q)) ≡ no_cells = fun_ext (λ q. (elements.free n q (omega arith)).0) in
      let none : ◌≡◌ {A = Path → ℕ} (λ q. e (position n ∷ q)) (λ q. 0) = fun_ext (λ q. (elements.free n q (omega arith)).1) in
      let claims : through e h part [] tail ≡ adding h part tail n =
      ap (ending h part tail) elements.count ∙ ending-is n ∙ not-first n (adding h part tail n) (λ zeros. elements.some (nil_from_length a.items zeros)) in
      rw (claims, counts-added e) (
        clash-added n st free,
        rw (put-added n st free)
            (pushed text k w b a.items v st (put_all no_cells element) held is (old-shows text k old a w.span st e was same entry) shown-element (counts_after_adding e) (ap suc elements.count) (element-cell text h tail part t section)
            (elements.free n [] (omega arith)).1 (λ i p more. (elements.free i p (omega (arith, more))).1)
            (λ u also. subst (λ (f : Path → ℕ). IsBuilt text u (put_all no_cells element) f) (sym none) (built-element u also))),
      )

-- ---- through the latest element

module _ (text : List ℕ) (k : Key) (old w : Value) (a b : Array) (vs : List Value) (v x : Value) (st : CellMap) (e : Path → ℕ) (was : old.value ≡ Some (array_inner a)) (held : w.value ≡ Some (array_inner b)) (span : w.span ≡ old.span)
    (split : a.items ≡ vs ++ (v ∷ [])) (is : b.items ≡ vs ++ (x ∷ [])) (entry : EntryBuilt text (k, old) st e) where
  abbrev m : ℕ
  m = length vs

  abbrev sub-old : CellMap
  sub-old q = st (position m ∷ q)

  abbrev base : CellMap
  base = graft (position m) st no_cells

  latest-shown : place_shown (sub-old []) ≡ option_map tree_place (Some (None, view v))
  latest-shown = sym (rw (ap (λ l. tree.element_at m (items_view l)) split, element-push vs v m, eq-eqb m m refl) at ((old-shows text k old a w.span st e was span entry).elements m []))

  base-elements : (i : ℕ) (p : Path) → option_map tree_place (option_and_then (reached p) (tree.element_at i (items_view vs))) ≡ place_shown (base (position i ∷ p))
  unfolding graft
  base-elements i p = elim (cases_Bool (nat_eq m i)) [
    | inl here ↦ rw here (ap (λ j. option_map tree_place (option_and_then (reached p) (tree.element_at j (items_view vs)))) (sym (eqb-true m i here)) ∙ rw (element-past vs) refl)
    | inr off ↦ rw off (rw (ap (λ l. tree.element_at i (items_view l)) split, element-push vs v i, off) at ((old-shows text k old a w.span st e was span entry).elements i p))
  ]

  base-spans : (j : ℕ) (p : Path) → j < m → key_spans st (position j ∷ p) ≡ key_spans base (position j ∷ p)
  unfolding graft
  base-spans j p less = rw (ne_eqb m j (λ same. absurd (omega (arith, same, less)))) refl

  base-free : (i : ℕ) (p : Path) → m ≤ i → base (position i ∷ p) ≡ no_cell
  unfolding graft
  base-free i p more = elim (cases_Bool (nat_eq m i)) [
    | inl here ↦ rw here refl
    | inr off ↦
        let apart : m ≢ i = λ same. false≢true (sym off ∙ eq-eqb m i same) in
        rw off ((old-shows text k old a w.span st e was span entry).free i p (omega (arith, more, apart, ap length split, length-push vs v)))
  ]

  base-shows : ArrayShows text k w.span vs base
  unfolding graft
  base-shows =
      let o = old-shows text k old a w.span st e was span entry in
      record {
        here = o.here;
        name = o.name;
        elements = base-elements;
        names = o.names;
        ordered = ordered-front vs v (rw split at o.ordered);
        right = right-front text 0 m vs v (key_spans st) (key_spans base) (omega arith) base-spans (rw split at o.right);
        free = base-free;
      }

  graft-here : (after : Path → ℕ) → graft (position m) e after [] ≡ e []
  unfolding graft
  graft-here after = refl

  counts-past : (after : Path → ℕ) (i : ℕ) (p : Path) → m < i → graft (position m) e after (position i ∷ p) ≡ 0
  unfolding graft
  counts-past after i p more =
      rw (ne_eqb m i (λ same. absurd (omega (arith, same, more)))) ((entry.made.array a was).free i p (omega (arith, more, ap length split, length-push vs v))).1

  module _ (h : HeaderInfo) (tail : Claims) (part l : SimpleKey) (more : List SimpleKey) (t u : Table) (table : v.value ≡ Some (table_inner t)) (grown : x.value ≡ Some (table_inner u)) (same : x.span ≡ v.span) (ascend : NamesAscend u)
      (on : BuildsOn text t u (λ f. section_at f h (l ∷ more) tail) (λ f. counts_after f h (l ∷ more))) where
    pass-through : (clash_found st (through e h part (l ∷ more) tail) ≡ None) × EntryBuilt text (k, w) (put_all st (through e h part (l ∷ more) tail)) (counts_after_through e h (l ∷ more))
    pass-through =
        let elements = entry.made.array a was in
        let esub = (λ (q : Path). e (position m ∷ q)) in
        let latest = elements.latest vs v split in
        let cs = passing h part (l ∷ more) tail esub in
        let after = counts_after esub h (l ∷ more) in
        let sub = put_all sub-old cs in
        let count : e [] ≡ suc m = elements.count ∙ ap length split ∙ length-push vs v in
        let done = passed-built text h tail part l more sub-old esub latest.0 t u (entry.inside (position m ∷ []) t (a, vs, v, was, split, refl, table)) on in
        let claims : through e h part (l ∷ more) tail ≡ under (position m) cs = ap (λ n. entered n e (passing h part (l ∷ more) tail)) count in
        let counts : counts_after_through e h (l ∷ more) ≡ graft (position m) e after = ap (λ n. counts_after_entered n e (λ f. counts_after f h (l ∷ more))) count in
        let put : put_all st (under (position m) cs) ≡ graft (position m) base sub = put_all-under (position m) st cs ∙ sym (graft-graft (position m) st no_cells sub) in
        let below : ◌≡◌ {A = Path → ℕ} (λ q. graft (position m) e after (position m ∷ q)) after = sub-graft (position m) e after in
        let shown = element-table text x u sub after grown ascend (passed-shown text h tail part l more sub-old esub latest.0 ∙ latest-shown ∙ rw (view-table v t table, same) refl) done.1 in
        rw (claims, counts) (
          reported-under (position m) st cs ∙ done.0,
          rw put
              (pushed text k w b vs x base sub held is base-shows shown (graft (position m) e after) (graft-here after ∙ count) (passed-cell text h tail part l more sub-old esub latest.0)
              (ap (λ (f : Path → ℕ). f []) below ∙ counts-here esub h l more ∙ latest.1) (counts-past after)
              (λ y also. subst (λ z. IsBuilt text z sub (λ q. graft (position m) e after (position m ∷ q))) (table-same x u y grown also) (subst (λ (f : Path → ℕ). IsBuilt text u sub f) (sym below) done.1))),
        )

-- the latest element, at the path that the header leads on
pub pass-latest : (text : List ℕ) (h : HeaderInfo) (tail : Claims) (k : Key) (part : SimpleKey) (rest : List SimpleKey) (old w : Value) (a b : Array) (vs : List Value) (v x : Value) (st : CellMap) (e : Path → ℕ) → PassesElement text h tail rest v x
    → old.value ≡ Some (array_inner a) → w.value ≡ Some (array_inner b) → w.span ≡ old.span → a.items ≡ vs ++ (v ∷ []) → b.items ≡ vs ++ (x ∷ []) → EntryBuilt text (k, old) st e
    → (clash_found st (through e h part rest tail) ≡ None) × EntryBuilt text (k, w) (put_all st (through e h part rest tail)) (counts_after_through e h rest)
pass-latest text h tail k part [] old w a b vs v x st e p was held span split is entry = absurd (p.passes.some refl)
pass-latest text h tail k part (l ∷ more) old w a b vs v x st e p was held span split is entry =
    pass-through text k old w a b vs v x st e was held span split is entry h tail part l more p.before p.after p.was p.held p.span p.passes.ascend p.passes.builds
