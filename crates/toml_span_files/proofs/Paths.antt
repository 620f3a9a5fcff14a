-- The last slash of a path.
use Rattle.std.proofs.Common.{◌≡◌, ◌∙◌, ℕ, ◌<◌, ◌≤◌, ◌+◌, ◌==◌, Bool, true, false, ◌||◌, List, [], ◌∷◌, ◌++◌, ap, arith, cond, drop, get_or, length, length-take, ne_eqb, refl, subst, suc, sym, take}
use Rattle.std.proofs.lemmas.List.{get_or_default, take-append-drop}
use Rattle.std.proofs.lemmas.List.Folds.{list_any_none}
use Rattle.std.proofs.lemmas.Str.Pattern.{NoCharPasses-char, drop_at_char}
use Rattle.std.specs.Str.{IsCharBoundary, NoCharPasses}
use Rattle.std.specs.Str.Pattern.{HasCharAt}
use Rattle.toml_span_files.specs.Place.{folder_of, has_slash, name_of}

pub name_of-without : (path : List ℕ) → has_slash path ≡ false → name_of path ≡ path
name_of-without [] none = refl
name_of-without (b ∷ bs) none = ap (λ t. cond t (name_of bs) (b ∷ bs)) none

pub folder_of-without : (path : List ℕ) → has_slash path ≡ false → folder_of path ≡ []
folder_of-without [] none = refl
folder_of-without (b ∷ bs) none = ap (λ t. cond t (b ∷ folder_of bs) []) none

or-true : (t : Bool) → (t || true) ≡ true
or-true true = refl
or-true false = refl

has_slash-there : (front back : List ℕ) → has_slash (front ++ 47 ∷ back) ≡ true
has_slash-there [] back = refl
has_slash-there (b ∷ bs) back = ap (λ t. (b == 47) || t) (has_slash-there bs back) ∙ or-true (b == 47)

pub name_of-after : (front back : List ℕ) → has_slash back ≡ false → name_of (front ++ 47 ∷ back) ≡ back
name_of-after [] back none = name_of-without back none
name_of-after (b ∷ bs) back none =
    ap (λ t. cond t (name_of (bs ++ 47 ∷ back)) (b ∷ bs ++ 47 ∷ back)) (has_slash-there (b ∷ bs) back)
    ∙ name_of-after bs back none

pub folder_of-after : (front back : List ℕ) → has_slash back ≡ false → folder_of (front ++ 47 ∷ back) ≡ front ++ 47 ∷ []
folder_of-after [] back none = ap (λ l. 47 ∷ l) (folder_of-without back none)
folder_of-after (b ∷ bs) back none =
    ap (λ t. cond t (b ∷ folder_of (bs ++ 47 ∷ back)) []) (has_slash-there (b ∷ bs) back)
    ∙ ap (λ l. b ∷ l) (folder_of-after bs back none)

pub no-slash : (bs : List ℕ) → NoCharPasses (λ d. d == 47) bs → has_slash bs ≡ false
no-slash bs none =
    list_any_none (λ b. b == 47) bs
    (λ k d short. ne_eqb (get_or bs k d) 47
    (λ is. NoCharPasses-char 47 bs k none (omega arith) short (get_or_default bs k 0 d short ∙ is)))

-- The last slash of a path ends at `j`.
pub record IsLastSlash (path : List ℕ) (j : ℕ) : Type 0 where
  pub boundary : IsCharBoundary path j
  pub folder : take j path ≡ folder_of path
  pub name : drop j path ≡ name_of path

take-after : (front back : List ℕ) → take (suc (length front)) (front ++ 47 ∷ back) ≡ front ++ 47 ∷ []
take-after [] back = refl
take-after (b ∷ bs) back = ap (λ l. b ∷ l) (take-after bs back)

pub is_at-slash : (i j : ℕ) (path : List ℕ) → NoCharPasses (λ d. d == 47) (drop j path) → HasCharAt 47 path i j → i ≤ j
    → j ≤ length path → IsLastSlash path j
is_at-slash i j path none there le within =
    let front = take i path in
    let back = drop j path in
    let j-is : j ≡ i + 1 = there.ends in
    let whole : path ≡ front ++ 47 ∷ back =
    sym (take-append-drop i path) ∙ ap (λ l. front ++ l) (drop_at_char 47 path i j there (omega arith)) in
    let long : j ≡ suc (length front) = omega (arith, length-take i path) in
    record {
      boundary = subst (λ n. IsCharBoundary path n) (sym j-is) there.after;
      folder = ap (λ l. take j l) whole ∙ ap (λ n. take n (front ++ 47 ∷ back)) long ∙ take-after front back
          ∙ sym (folder_of-after front back (no-slash back none)) ∙ ap folder_of (sym whole);
      name = sym (name_of-after front back (no-slash back none)) ∙ ap name_of (sym whole);
    }
