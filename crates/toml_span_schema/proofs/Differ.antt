-- A step of the loop that looks for two equal texts.
use Rattle.std.proofs.Common.{◌≡◌, ℕ, ◌+◌, ◌<◌, Bool, true, false, cond, not, ◌&&◌, ◌||◌, List, [], ◌∷◌, ◌++◌, ap, sym, ◌∙◌, refl, length, map, take, drop, get_or, suc, add-one, drop-cons, Decides}
use Rattle.std.proofs.lemmas.Bool.Decides.{same_from_decides}
use Rattle.std.proofs.lemmas.List.{map_more}
use Rattle.std.proofs.lemmas.List.Folds.{list_any-append}
use Rattle.std.proofs.lemmas.Slice.Eq.{bytes_eq-Decides}
use Rattle.std.specs.List.{list_any}
use Rattle.std.specs.Str.{bytes_eq}
use Rattle.toml_span_schema.specs.Canonical.{all_new}

or_cond : (b e : Bool) → (b || (e || false)) ≡ cond e true b
or_cond true true = refl
or_cond true false = refl
or_cond false true = refl
or_cond false false = refl

same_either_way : (q t : List ℕ) → bytes_eq q t ≡ bytes_eq t q
same_either_way q t =
    let there : Decides (bytes_eq q t) (q ≡ t) = bytes_eq-Decides q t in
    let back : Decides (bytes_eq t q) (t ≡ q) = bytes_eq-Decides t q in
    same_from_decides (bytes_eq q t) (bytes_eq t q) there (λ e. sym (back.0 e), λ e. back.1 (sym e))

-- the same test for one more text
any_more : (t q : List ℕ) (E : List (List ℕ)) → list_any (bytes_eq q) (E ++ t ∷ []) ≡ cond (bytes_eq t q) true (list_any (bytes_eq q) E)
any_more t q E =
    list_any-append (bytes_eq q) E (t ∷ [])
    ∙ or_cond (list_any (bytes_eq q) E) (bytes_eq q t)
    ∙ ap (λ b. cond b true (list_any (bytes_eq q) E)) (same_either_way q t)

pub differ_step : {V : Type 0} (f : V → List ℕ) (vs : List V) (i : ℕ) (v : V) (has after : List ℕ → Bool)
    → i < length vs → v ≡ get_or vs i v
    → ((q : List ℕ) → has q ≡ list_any (bytes_eq q) (map f (take i vs)))
    → has (f v) ≡ false
    → ((q : List ℕ) → after q ≡ cond (bytes_eq (f v) q) true (has q))
    → all_new (map f (take i vs)) (map f (drop i vs)) ≡ all_new [] (map f vs)
    → (all_new (map f (take (i + 1) vs)) (map f (drop (i + 1) vs)) ≡ all_new [] (map f vs))
    × ((q : List ℕ) → after q ≡ list_any (bytes_eq q) (map f (take (i + 1) vs)))
differ_step f vs i v has after h is known new more before =
    let E : List (List ℕ) = map f (take i vs) in
    let R : List (List ℕ) = map f (drop (i + 1) vs) in
    let e1 : map f (take (i + 1) vs) ≡ E ++ f v ∷ [] = map_more f vs i v h ∙ ap (λ x. E ++ f x ∷ []) (sym is) in
    let e2 : map f (drop i vs) ≡ f v ∷ R =
    ap (map f) (drop-cons vs i v h) ∙ ap (λ x. f x ∷ map f (drop (suc i) vs)) (sym is) ∙ ap (λ k. f v ∷ map f (drop k vs)) (sym (add-one i)) in
    let none : list_any (bytes_eq (f v)) E ≡ false = sym (known (f v)) ∙ new in (
      ap (λ l. all_new l R) e1 ∙ sym (ap (λ b. not b && all_new (E ++ f v ∷ []) R) none) ∙ sym (ap (all_new E) e2) ∙ before,
      λ q. more q ∙ ap (λ b. cond (bytes_eq (f v) q) true b) (known q) ∙ sym (any_more (f v) q E) ∙ sym (ap (list_any (bytes_eq q)) e1),
    )

-- what was added was not there
pub not_twice : (added there : Bool) → added ≡ not there → added ≡ true → there ≡ false
not_twice added true e h = sym h ∙ e
not_twice added false e h = refl
