-- Places have at most one output.
use Rattle.toml_span_lex.proofs.Common.{common_steps, ◌≡◌, ℕ, List, [], ◌∷◌, Option, flat_map, refl, sym, ap, subst, ◌∙◌, inl, inr, arith, AllByRecursion, nat_list_cmp_total, false≢true, is_lt}
use Rattle.toml_span_tree.specs.Path.{Path, Step, key, position, Place}
use Rattle.std.specs.Ordering.{ordering_reverse}
use Rattle.toml_span_lines.specs.Shown.{PlaceAt, entry_line, PathsAscend, HasPlaces, IsIn, IsPathBefore, IsStepBefore, ShowsPlaces}

-- ---- two that are before each other

step-one-way : (s t : Step) → IsStepBefore s t → IsStepBefore t s → ⊥
step-one-way (key name) (key other) h g = false≢true (sym (ap is_lt (sym h ∙ nat_list_cmp_total.antisymm name other ∙ ap ordering_reverse g)))
step-one-way (position i) (position j) h g = omega (arith, h, g)
step-one-way (key name) (position j) h g = h
step-one-way (position i) (key name) h g = h

path-one-way : (p q : Path) → IsPathBefore p q → IsPathBefore q p → ⊥
path-one-way [] q h g = grind (arith, common_steps)
path-one-way (s ∷ p) [] h g = h
path-one-way (s ∷ p) (t ∷ q) h g = grind (arith, common_steps, step-one-way s t, step-one-way s s, path-one-way p q)

-- ---- lists with the same entries

-- what comes before all later entries
at-entry : (p : Path) (es : List PlaceAt) (e : PlaceAt) → AllByRecursion (λ f. IsPathBefore p f.0) es → IsIn e es → IsPathBefore p e.0
at-entry p [] e h i = absurd i
at-entry p (f ∷ es) e h i = grind (arith, common_steps, at-entry p es e)

abbrev HasAll : List PlaceAt → List PlaceAt → Type 0
HasAll es fs = (e : PlaceAt) → IsIn e es → IsIn e fs

-- both begin with the same entry
same-first : (e f : PlaceAt) (es fs : List PlaceAt) → PathsAscend (e ∷ es) → PathsAscend (f ∷ fs) → IsIn e (f ∷ fs) → IsIn f (e ∷ es) → e ≡ f
same-first e f es fs a b (inl is) j = is
same-first e f es fs a b (inr i) (inl is) = sym is
same-first e f es fs a b (inr i) (inr j) = absurd (path-one-way f.0 e.0 (at-entry f.0 fs e b.0 i) (at-entry e.0 es f a.0 j))

later : (e f : PlaceAt) (es fs : List PlaceAt) → PathsAscend (e ∷ es) → e ≡ f → HasAll (e ∷ es) (f ∷ fs) → HasAll es fs
later e f es fs a same h x i = elim (h x (inr i)) [
  | inl is ↦
      let here : x ≡ e = is ∙ sym same in
      let after = subst (λ (y : PlaceAt). IsPathBefore e.0 y.0) here (at-entry e.0 es x a.0 i) in
      absurd (path-one-way e.0 e.0 after after)
  | inr j ↦ j
]

same-entries : (es fs : List PlaceAt) → PathsAscend es → PathsAscend fs → HasAll es fs → HasAll fs es → es ≡ fs
same-entries [] [] a b h g = refl
same-entries [] (f ∷ fs) a b h g = absurd (g f (inl refl))
same-entries (e ∷ es) [] a b h g = absurd (h e (inl refl))
same-entries (e ∷ es) (f ∷ fs) a b h g =
    let first = same-first e f es fs a b (h e (inl refl)) (g f (inl refl)) in
    ap (λ (x : PlaceAt). x ∷ es) first ∙ ap (λ l. f ∷ l) (same-entries es fs a.1 b.1 (later e f es fs a first h) (later f e fs es b (sym first) g))

same-places : (places : Path → Option Place) (es fs : List PlaceAt) → HasPlaces places es → HasPlaces places fs → HasAll es fs
same-places places es fs h g e i = (g e.0 e.1).0 ((h e.0 e.1).1 i)

pub one-text : (places : Path → Option Place) (text other : List ℕ) → ShowsPlaces places text → ShowsPlaces places other → text ≡ other
one-text places text other (es, up, has, is) (fs, rise, own, so) =
    let same = same-entries es fs up rise (same-places places es fs has own) (same-places places fs es own has) in
    is ∙ ap (λ l. flat_map entry_line l) same ∙ sym so
