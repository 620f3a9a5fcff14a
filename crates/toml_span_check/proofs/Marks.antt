-- Marks of the suffixes of a list say where a pattern matches.
use Rattle.std.proofs.Common.{◌≡◌, ◌∙◌, sym, ap, ap₂, ℕ, zero, suc, ◌+◌, Bool, true, false, ◌&&◌, ◌||◌, if◌then◌else◌, List, [], ◌∷◌, ◌++◌, append_assoc, length, replicate, get_or, refl, arith, add-one, ◌<◌, drop, inl, inr, ◌⊎◌, Some, None}
use Rattle.std.proofs.lemmas.List.{drop_all, length-replicate}
use Rattle.toml_span_check.specs.Globs.{Bytes, Element, fits, is_any}
use Rattle.toml_span_check.specs.Patterns.{after, is_nothing, name_matches, name_step, one_more, path_matches, path_step, some_end, spread}

-- whether `rest` is true for a marked suffix
abbrev pub holds : {A : Type 0} → (List A → Bool) → List Bool → List A → Bool
holds rest [] xs = false
holds rest (m ∷ ms) [] = m && rest []
holds rest (m ∷ ms) (x ∷ xs) = (m && rest (x ∷ xs)) || holds rest ms xs

-- ---- booleans

either : (b : Bool) → (b ≡ true) ⊎ (b ≡ false)
either true = inl refl
either false = inr refl

or-false : (b : Bool) → (b || false) ≡ b
or-false true = refl
or-false false = refl

and-false : (b : Bool) → (b && false) ≡ false
and-false true = refl
and-false false = refl

and-true : (b : Bool) → (b && true) ≡ b
and-true true = refl
and-true false = refl

and-assoc : (b c d : Bool) → ((b && c) && d) ≡ (b && (c && d))
and-assoc true c d = refl
and-assoc false c d = refl

or-and : (b m r : Bool) → ((b || m) && r) ≡ ((b && r) || (m && r))
or-and true m true = refl
or-and true true false = refl
or-and true false false = refl
or-and false m r = refl

spreads : (b m r s h : Bool) → (((b || m) && r) || (((b || m) && s) || h)) ≡ ((b && (r || s)) || ((m && (r || s)) || h))
spreads true true true s h = refl
spreads true true false true h = refl
spreads true true false false h = refl
spreads true false true s h = refl
spreads true false false s h = refl
spreads false true true s h = refl
spreads false true false s h = refl
spreads false false r s h = refl

-- ---- marks

holds-ext : {A : Type 0} (f g : List A → Bool) → ((ys : List A) → f ys ≡ g ys) → (ms : List Bool) (xs : List A) → holds f ms xs ≡ holds g ms xs
holds-ext f g same [] xs = refl
holds-ext f g same (m ∷ ms) [] = ap (λ b. m && b) (same [])
holds-ext f g same (m ∷ ms) (x ∷ xs) = ap₂ (λ a b. (m && a) || b) (same (x ∷ xs)) (holds-ext f g same ms xs)

holds-none : {A : Type 0} (rest : List A → Bool) (xs : List A) → holds rest (false ∷ replicate (length xs) false) xs ≡ false
holds-none rest [] = refl
holds-none rest (x ∷ xs) = holds-none rest xs

pub holds-first : {A : Type 0} (rest : List A → Bool) (xs : List A) → holds rest (true ∷ replicate (length xs) false) xs ≡ rest xs
holds-first rest [] = refl
holds-first rest (x ∷ xs) = ap (λ h. rest (x ∷ xs) || h) (holds-none rest xs) ∙ or-false (rest (x ∷ xs))

holds-spread : {A : Type 0} (rest : List A → Bool) (b : Bool) (ms : List Bool) (xs : List A) → length ms ≡ length xs + 1 →
    holds rest (spread b ms) xs ≡ ((b && some_end rest xs) || holds (some_end rest) ms xs)
holds-spread rest b [] xs is = absurd (omega arith)
holds-spread rest b (m ∷ ms) [] is = or-and b m (rest [])
holds-spread rest b (m ∷ ms) (x ∷ xs) is =
    ap (λ h. ((b || m) && rest (x ∷ xs)) || h) (holds-spread rest (b || m) ms xs (omega arith))
    ∙ spreads b m (rest (x ∷ xs)) (some_end rest xs) (holds (some_end rest) ms xs)

holds-after : {A : Type 0} (test : A → Bool) (rest : List A → Bool) (b : Bool) (ms : List Bool) (xs : List A) → length ms ≡ length xs + 1 →
    holds rest (b ∷ after test ms xs) xs ≡ ((b && rest xs) || holds (one_more test rest) ms xs)
holds-after test rest b [] xs is = absurd (omega arith)
holds-after test rest b (m ∷ ms) [] is =
    sym (ap (λ h. (b && rest []) || h) (and-false m) ∙ or-false (b && rest []))
holds-after test rest b (m ∷ ms) (x ∷ xs) is =
    ap (λ h. (b && rest (x ∷ xs)) || h)
    (holds-after test rest (m && test x) ms xs (omega arith)
    ∙ ap (λ a. a || holds (one_more test rest) ms xs) (and-assoc m (test x) (rest xs)))

pub holds-end : {A : Type 0} (ms : List Bool) (xs : List A) → length ms ≡ length xs + 1 → holds is_nothing ms xs ≡ get_or ms (length xs) false
holds-end [] xs is = absurd (omega arith)
holds-end (m ∷ ms) [] is = and-true m
holds-end (m ∷ ms) (x ∷ xs) is = ap (λ a. a || holds is_nothing ms xs) (and-false m) ∙ holds-end ms xs (omega arith)

pub length-spread : (b : Bool) (ms : List Bool) → length (spread b ms) ≡ length ms
length-spread b [] = refl
length-spread b (m ∷ ms) = ap suc (length-spread (b || m) ms)

pub length-after : {A : Type 0} (test : A → Bool) (ms : List Bool) (xs : List A) → length (after test ms xs) ≡ length xs
length-after test ms [] = refl
length-after test [] (x ∷ xs) = ap suc (length-after test [] xs)
length-after test (m ∷ ms) (x ∷ xs) = ap suc (length-after test ms xs)

pub length-first : (n : ℕ) → length (true ∷ replicate n false) ≡ n + 1
length-first n = ap suc (length-replicate n false) ∙ sym (add-one n)

-- ---- one more byte of a pattern, or one more part

name-spread : (rest : List Element) (name : List ℕ) (ms : List Bool) → length ms ≡ length name + 1 →
    holds (name_matches rest) (spread false ms) name ≡ holds (name_matches (None ∷ rest)) ms name
name-spread rest name ms is =
    holds-spread (name_matches rest) false ms name is
    ∙ holds-ext (some_end (name_matches rest)) (name_matches (None ∷ rest)) (λ ys. refl) ms name

name-after : (set : Bytes) (rest : List Element) (name : List ℕ) (ms : List Bool) → length ms ≡ length name + 1 →
    holds (name_matches rest) (false ∷ after (fits set) ms name) name ≡ holds (name_matches (Some set ∷ rest)) ms name
name-after set rest name ms is =
    holds-after (fits set) (name_matches rest) false ms name is
    ∙ holds-ext (one_more (fits set) (name_matches rest)) (name_matches (Some set ∷ rest)) (λ ys. refl) ms name

path-spread : (part : List Element) (rest : List (List Element)) (path : List (List ℕ)) (ms : List Bool) → is_any part ≡ true → length ms ≡ length path + 1 →
    holds (path_matches rest) (spread false ms) path ≡ holds (path_matches (part ∷ rest)) ms path
path-spread part rest path ms star is =
    holds-spread (path_matches rest) false ms path is
    ∙ holds-ext (some_end (path_matches rest)) (path_matches (part ∷ rest))
    (λ ys. sym (ap (λ b. if b then some_end (path_matches rest) ys else one_more (name_matches part) (path_matches rest) ys) star)) ms path

path-after : (part : List Element) (rest : List (List Element)) (path : List (List ℕ)) (ms : List Bool) → is_any part ≡ false → length ms ≡ length path + 1 →
    holds (path_matches rest) (false ∷ after (name_matches part) ms path) path ≡ holds (path_matches (part ∷ rest)) ms path
path-after part rest path ms other is =
    holds-after (name_matches part) (path_matches rest) false ms path is
    ∙ holds-ext (one_more (name_matches part) (path_matches rest)) (path_matches (part ∷ rest))
    (λ ys. sym (ap (λ b. if b then some_end (path_matches rest) ys else one_more (name_matches part) (path_matches rest) ys) other)) ms path

-- ---- steps

length-step : {A : Type 0} (b : Bool) (test : A → Bool) (ms : List Bool) (xs : List A) → length ms ≡ length xs + 1 →
    length (if b then spread false ms else false ∷ after test ms xs) ≡ length xs + 1
length-step true test ms xs is = length-spread false ms ∙ is
length-step false test ms xs is = ap suc (length-after test ms xs) ∙ sym (add-one (length xs))

abbrev pub NameMarks : List Element → List Element → List ℕ → List Bool → Type 0
NameMarks pattern rest name ms =
    (holds (name_matches rest) ms name ≡ name_matches pattern name) × (length ms ≡ length name + 1)

pub name-first : (pattern : List Element) (name : List ℕ) → NameMarks pattern pattern name (true ∷ replicate (length name) false)
name-first pattern name = (holds-first (name_matches pattern) name, length-first (length name))

pub name-step : (pattern rest : List Element) (name : List ℕ) (code : Element) (ms : List Bool) → NameMarks pattern (code ∷ rest) name ms →
    NameMarks pattern rest name (name_step code ms name)
name-step pattern rest name None ms (is, long) = (name-spread rest name ms long ∙ is, length-spread false ms ∙ long)
name-step pattern rest name (Some set) ms (is, long) =
    (name-after set rest name ms long ∙ is, ap suc (length-after (fits set) ms name) ∙ sym (add-one (length name)))

pub name-end : (pattern : List Element) (name : List ℕ) (ms : List Bool) → NameMarks pattern [] name ms → get_or ms (length name) false ≡ name_matches pattern name
name-end pattern name ms (is, long) = sym (holds-end ms name long) ∙ is

abbrev pub PathMarks : List (List Element) → List (List Element) → List (List ℕ) → List Bool → Type 0
PathMarks pattern rest path ms =
    (holds (path_matches rest) ms path ≡ path_matches pattern path) × (length ms ≡ length path + 1)

pub path-first : (pattern : List (List Element)) (path : List (List ℕ)) → PathMarks pattern pattern path (true ∷ replicate (length path) false)
path-first pattern path = (holds-first (path_matches pattern) path, length-first (length path))

pub path-step : (pattern : List (List Element)) (path : List (List ℕ)) (rest : List (List Element)) (part : List Element) (ms : List Bool) → PathMarks pattern (part ∷ rest) path ms →
    PathMarks pattern rest path (path_step part ms path)
path-step pattern path rest part ms (is, long) =
    let star = is_any part in
    elim (either star) [
      | inl is_star ↦ (ap (λ b. holds (path_matches rest) (if b then spread false ms else false ∷ after (name_matches part) ms path) path) is_star ∙ path-spread part rest path ms is_star long ∙ is, length-step star (name_matches part) ms path long)
      | inr none ↦ (ap (λ b. holds (path_matches rest) (if b then spread false ms else false ∷ after (name_matches part) ms path) path) none ∙ path-after part rest path ms none long ∙ is, length-step star (name_matches part) ms path long)
    ]

pub path-end : (pattern : List (List Element)) (path : List (List ℕ)) (ms : List Bool) → PathMarks pattern [] path ms → get_or ms (length path) false ≡ path_matches pattern path
path-end pattern path ms (is, long) = sym (holds-end ms path long) ∙ is

-- ---- one more element

after-step : {A : Type 0} (test : A → Bool) (ms : List Bool) (xs : List A) (i : ℕ) (d : A) → i < length xs →
    after test (drop i ms) (drop i xs) ≡ (get_or ms i false && test (get_or xs i d)) ∷ after test (drop (suc i) ms) (drop (suc i) xs)
after-step test ms [] i d less = absurd (omega arith)
after-step test [] (x ∷ xs) zero d less = refl
after-step test [] (x ∷ xs) (suc i) d less =
    ap (λ l. after test l (drop i xs)) (sym (drop_all i [] (omega arith))) ∙ after-step test [] xs i d (omega arith)
after-step test (m ∷ ms) (x ∷ xs) zero d less = refl
after-step test (m ∷ ms) (x ∷ xs) (suc i) d less = after-step test ms xs i d (omega arith)

pub after-more : {A : Type 0} (test : A → Bool) (ms : List Bool) (xs : List A) (i : ℕ) (d : A) (old new all : List Bool) (v : Bool) → i < length xs →
    v ≡ (get_or ms i false && test (get_or xs i d)) → new ≡ old ++ v ∷ [] → old ++ after test (drop i ms) (drop i xs) ≡ all →
    new ++ after test (drop (i + 1) ms) (drop (i + 1) xs) ≡ all
after-more test ms xs i d old new all v less value items is =
    ap (λ l. l ++ after test (drop (i + 1) ms) (drop (i + 1) xs)) items
    ∙ append_assoc old (v ∷ []) (after test (drop (i + 1) ms) (drop (i + 1) xs))
    ∙ ap (λ l. old ++ l) (ap (λ b. b ∷ after test (drop (i + 1) ms) (drop (i + 1) xs)) value
    ∙ ap (λ j. (get_or ms i false && test (get_or xs i d)) ∷ after test (drop j ms) (drop j xs)) (add-one i)
    ∙ sym (after-step test ms xs i d less))
    ∙ is
