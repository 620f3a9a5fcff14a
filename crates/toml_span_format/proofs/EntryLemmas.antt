-- Entries, one by one.
use Rattle.toml_span_lex.proofs.Common.{◌≡◌, ◌<◌, ◌≤◌, ℕ, ◌+◌, ◌-◌, Bool, false, List, [], ◌∷◌, ◌++◌, ap, ap₂, arith, cases_lt, get_or, get_or-map, inl, inr, length, length-map, map, map_more, sym, take, take_all, ◌∙◌}
use Rattle.std.specs.List.Sorted.{IsSortedBy}
use Rattle.toml_span_format.specs.declared.entries.Entry.{Entry}

-- what a list of entries gives past its end
abbrev pub no_entry : Entry
no_entry = record { group = 0; key = 0; first = 0; end = 0 }

-- one element more is the same
pub one_more_same : {X Y Z : Type 0} (f : X → Z) (g : Y → Z) (xs : List X) (ys : List Y) (i : ℕ) (d : X) (e : Y) → i < length xs → i < length ys → f (get_or xs i d) ≡ g (get_or ys i e) → map f (take i xs) ≡ map g (take i ys) → map f (take (i + 1) xs) ≡ map g (take (i + 1) ys)
one_more_same f g xs ys i d e h k same before =
    map_more f xs i d h ∙ ap₂ (λ l z. l ++ z ∷ []) before same ∙ sym (map_more g ys i e k)

-- all elements are the same
pub all_the_same : {X Y Z : Type 0} (f : X → Z) (g : Y → Z) (xs : List X) (ys : List Y) (i : ℕ) → length xs ≤ i → length ys ≤ i → map f (take i xs) ≡ map g (take i ys) → map f xs ≡ map g ys
all_the_same f g xs ys i h k same = ap (map f) (sym (take_all i xs h)) ∙ same ∙ ap (map g) (take_all i ys k)

-- no element before `at` is before the one above it
abbrev pub SortedBelow : {X Y : Type 0} → (Y → Y → Bool) → (X → Y) → List X → ℕ → Type 0
SortedBelow {X} {Y} lt r xs at = (k : ℕ) (d : Y) → k + 1 < at → lt (get_or (map r xs) (k + 1) d) (get_or (map r xs) k d) ≡ false

pub sorted_more : {X Y : Type 0} (lt : Y → Y → Bool) (r : X → Y) (xs : List X) (at : ℕ) (e : X) → 1 ≤ at → at < length xs → lt (r (get_or xs at e)) (r (get_or xs (at - 1) e)) ≡ false → SortedBelow lt r xs at → SortedBelow lt r xs (at + 1)
sorted_more {X} {Y} lt r xs at e some within here before k d below = elim (cases_lt (k + 1) at) [
  | inl h ↦ before k d h
  | inr h ↦
      let last : at ≡ k + 1 = omega arith in
      let prior : at - 1 ≡ k = omega arith in
      let one : get_or (map r xs) (k + 1) d ≡ r (get_or xs at e) = get_or-map r xs (k + 1) e d (omega arith) ∙ ap (λ i. r (get_or xs i e)) (sym last) in
      let two : get_or (map r xs) k d ≡ r (get_or xs (at - 1) e) = get_or-map r xs k e d (omega arith) ∙ ap (λ i. r (get_or xs i e)) (sym prior) in
      rw (one, two) here
]

pub all_sorted : {X Y : Type 0} (lt : Y → Y → Bool) (r : X → Y) (xs : List X) (at : ℕ) → length xs ≤ at → SortedBelow lt r xs at → IsSortedBy lt (map r xs)
all_sorted lt r xs at past below k d low high = below k d (omega (arith, length-map xs r, high))
