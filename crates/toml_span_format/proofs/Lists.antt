-- Lists whose elements are the same, seen so.
use Rattle.toml_span_lex.proofs.Common.{◌≡◌, ◌<◌, ◌≤◌, ℕ, ◌+◌, Bool, true, false, IsTrue, List, [], ◌∷◌, ◌++◌, ap, ap₂, false≢true, get_or, get_or-map, length, length-map, map, map-append, map_more, refl, sym, take, take_all, ◌∙◌}

-- a test that fails where two things differ, and one that holds where they are the same
pub differs : {P : Type 0} → (P → ⊥) → (IsTrue false → P) × (P → IsTrue false)
differs h = (λ e. absurd (false≢true e), λ p. absurd (h p))

pub agrees : {P : Type 0} → P → (IsTrue true → P) × (P → IsTrue true)
agrees p = (λ _. p, λ _. refl)

-- one element more is the same
pub same_more : {X Y Z : Type 0} (f : X → Y) (g : Y → Z) (xs ys : List X) (i : ℕ) (x y : X) → i < length xs → i < length ys → get_or xs i x ≡ x → get_or ys i y ≡ y → g (f x) ≡ g (f y) → map g (map f (take i xs)) ≡ map g (map f (take i ys)) →
    map g (map f (take (i + 1) xs)) ≡ map g (map f (take (i + 1) ys))
same_more f g xs ys i x y here there is other same before =
    let one : map f (take (i + 1) xs) ≡ map f (take i xs) ++ (f x ∷ []) = map_more f xs i x here ∙ ap (λ z. map f (take i xs) ++ (f z ∷ [])) is in
    let two : map f (take (i + 1) ys) ≡ map f (take i ys) ++ (f y ∷ []) = map_more f ys i y there ∙ ap (λ z. map f (take i ys) ++ (f z ∷ [])) other in
    rw (one, two, map-append g (map f (take i xs)) (f x ∷ []), map-append g (map f (take i ys)) (f y ∷ []))
    (ap₂ (λ l z. l ++ (z ∷ [])) before same)

-- one element differs
pub other_here : {X Y Z : Type 0} (f : X → Y) (g : Y → Z) (xs ys : List X) (i : ℕ) (x y : X) → i < length xs → i < length ys → get_or xs i x ≡ x → get_or ys i y ≡ y → map g (map f xs) ≡ map g (map f ys) → g (f x) ≡ g (f y)
other_here f g xs ys i x y here there is other same =
    let one : get_or (map f xs) i (f x) ≡ f x = get_or-map f xs i x (f x) here ∙ ap f is in
    let two : get_or (map f ys) i (f y) ≡ f y = get_or-map f ys i y (f y) there ∙ ap f other in
    let one' : get_or (map g (map f xs)) i (g (f x)) ≡ g (f x) = get_or-map g (map f xs) i (f x) (g (f x)) (rw (length-map xs f) here) ∙ ap g one in
    let two' : get_or (map g (map f ys)) i (g (f x)) ≡ g (f y) = get_or-map g (map f ys) i (f y) (g (f x)) (rw (length-map ys f) there) ∙ ap g two in
    sym one' ∙ ap (λ l. get_or l i (g (f x))) same ∙ two'

-- as many elements
pub same_length : {X Y Z : Type 0} (f : X → Y) (g : Y → Z) (xs ys : List X) → map g (map f xs) ≡ map g (map f ys) → length xs ≡ length ys
same_length f g xs ys same =
    sym (length-map xs f) ∙ sym (length-map (map f xs) g) ∙ ap length same ∙ length-map (map f ys) g ∙ length-map ys f

-- all elements are the same
pub all_same : {X Y Z : Type 0} (f : X → Y) (g : Y → Z) (xs ys : List X) (i : ℕ) → length xs ≤ i → length xs ≡ length ys → map g (map f (take i xs)) ≡ map g (map f (take i ys)) → map g (map f xs) ≡ map g (map f ys)
all_same f g xs ys i past many same =
    let one : take i xs ≡ xs = take_all i xs past in
    let two : take i ys ≡ ys = take_all i ys (rw (← many) past) in
    ap (λ l. map g (map f l)) (sym one) ∙ same ∙ ap (λ l. map g (map f l)) two

-- a test of one element that differs
pub other_found : {X Y Z : Type 0} (f : X → Y) (g : Y → Z) (xs ys : List X) (i : ℕ) (x y : X) (b : Bool) → i < length xs → length xs ≡ length ys → x ≡ get_or xs i x → y ≡ get_or ys i y → (g (f x) ≡ g (f y) → IsTrue b) → b ≡ false →
    (IsTrue false → map g (map f xs) ≡ map g (map f ys)) × (map g (map f xs) ≡ map g (map f ys) → IsTrue false)
other_found f g xs ys i x y b here many is other test fails =
    differs (λ e. false≢true (sym fails ∙ test (other_here f g xs ys i x y here (rw (← many) here) (sym is) (sym other) e)))
