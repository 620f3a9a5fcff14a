-- What pointers name, before and after a change.
use Rattle.toml_span_lex.proofs.Common.{arith, common_steps, nat_tests, ◌≡◌, ◌↔◌, ℕ, List, [], ◌∷◌, cond, Bool, true, false, Option, Some, option_map, option_and_then, refl, sym, ap, ◌∙◌, true≢false, bytes_eq, bytes_eq-Decides}
use Rattle.toml_span_tree.specs.Node.{Node, Inner}
use Rattle.toml_span_tree.specs.Value.{inner_of, is_taken}
use Rattle.toml_span_tree.specs.Path.{child, Step, Path, at_step, node_at, set_at_step}
use Rattle.toml_span_tree.specs.Pointer.{step_named, pointed, put_pointed, pointer_segments, segments_apart, paths_diverge, pointers_diverge, NamesPath, IsPointed}
use Rattle.toml_span_tree.specs.code.Pointer.{entry, untaken_entry, value_named, put_named, set_named}
use Rattle.toml_span_tree.proofs.Paths.{below-set, below-other, StepsApart, bytes_same}
use Rattle.toml_span_tree.proofs.Pointers.{found-more, node_at-more, pointed-found}
use Rattle.toml_span_tree.proofs.Puts.{put_found-more, put_pointed-found}

-- the path by which a value is found
pub found-first : (segment : List ℕ) (names : List (List ℕ)) (n m : Node) → value_named (segment ∷ names) n ≡ Some m → (c : Node) × (untaken_entry segment n ≡ Some c) × (value_named names c ≡ Some m)
found-first segment names n m h = grind (arith, nat_tests, common_steps, found-more segment names n)

step_kept : (other : List ℕ) (s : Step) (i : Inner) (w : Node) → step_named other (set_at_step s w i) ≡ step_named other i
step_kept other s i w = grind (arith, nat_tests, common_steps)

-- what a segment names after a change at it
pub entry-set : (segment : List ℕ) (i : Inner) (c w : Node) → entry segment i ≡ Some c → entry segment (set_named segment w i) ≡ Some w
entry-set segment i c w h = grind (arith, nat_tests, common_steps, below-set, step_kept)

pub untaken_entry-of : (segment : List ℕ) (n c : Node) → untaken_entry segment n ≡ Some c → (entry segment (inner_of n) ≡ Some c) × (is_taken c ≡ false)
untaken_entry-of segment n c h = grind (arith, nat_tests, common_steps)

-- the new value has not been taken, if it was not before or is below the start
whole-put : (names : List (List ℕ)) (n m w : Node) → (names ≡ [] → is_taken w ≡ false) → value_named names n ≡ Some m → is_taken n ≡ false → is_taken (put_named names w n) ≡ false
whole-put [] n m w h there whole = h refl
whole-put (segment ∷ names) n m w h there whole = grind (arith, nat_tests, common_steps)

untaken_entry-put : (segment : List ℕ) (names : List (List ℕ)) (n c m w : Node) → untaken_entry segment n ≡ Some c → value_named names c ≡ Some m → is_taken (put_named names w c) ≡ false
    → untaken_entry segment (put_named (segment ∷ names) w n) ≡ Some (put_named names w c)
untaken_entry-put segment names n c m w leads there whole =
    grind (arith, nat_tests, common_steps, put_found-more segment names n c w m leads there, entry-set segment (inner_of n) c (put_named names w c), untaken_entry-of)

-- the new value is found by the same segments
pub found-put : (names : List (List ℕ)) (n m w : Node) → is_taken w ≡ false → value_named names n ≡ Some m → value_named names (put_named names w n) ≡ Some w
found-put [] n m w h there = refl
found-put (segment ∷ names) n m w h there =
    let first = found-first segment names n m there in
    let c = first.0 in
    let whole = whole-put names c m w (λ _. h) first.2 (untaken_entry-of segment n c first.1).1 in
    found-more segment names (put_named (segment ∷ names) w n)
    ∙ ap (option_and_then (value_named names)) (untaken_entry-put segment names n c m w first.1 first.2 whole)
    ∙ found-put names c m w h first.2

-- pointers that diverge
bytes_apart : (a c : List ℕ) → bytes_eq a c ≡ false → bytes_eq c a ≡ false
bytes_apart a c h = grind (arith, nat_tests, common_steps, bytes_same c a, (bytes_eq-Decides a c).1)

steps_apart : (i : Inner) (segment other : List ℕ) (s t : Step) → segments_apart segment other ≡ true → step_named segment i ≡ Some s → step_named other i ≡ Some t → StepsApart t s
steps_apart i segment other s t apart is it = grind (arith, nat_tests, common_steps, bytes_apart)

entry-apart : (segment other : List ℕ) (i : Inner) (w : Node) → segments_apart segment other ≡ true → entry other (set_named segment w i) ≡ entry other i
entry-apart segment other i w apart = grind (arith, nat_tests, common_steps, below-other, bytes_apart segment other)

found_apart_at : (b : Bool) (segment other : List ℕ) (names others : List (List ℕ)) (n c m w : Node) → bytes_eq segment other ≡ b → cond b (paths_diverge names others) (segments_apart segment other) ≡ true
    → untaken_entry segment n ≡ Some c → value_named names c ≡ Some m → (paths_diverge names others ≡ true → value_named others (put_named names w c) ≡ value_named others c)
    → option_and_then (value_named others) (untaken_entry other (put_named (segment ∷ names) w n)) ≡ option_and_then (value_named others) (untaken_entry other n)
found_apart_at true segment other names others n c m w is apart leads there ih =
    let whole = whole-put names c m w (λ none. absurd (true≢false (sym apart ∙ ap (λ names. paths_diverge names others) none))) there (untaken_entry-of segment n c leads).1 in
    grind (arith, nat_tests, common_steps, bytes_same segment other is, untaken_entry-put segment names n c m w leads there whole, ih apart)
found_apart_at false segment other names others n c m w is apart leads there ih =
    grind (arith, nat_tests, common_steps, put_found-more segment names n c w m leads there, entry-apart segment other (inner_of n) (put_named names w c) apart)

-- a change leaves what is named by segments that diverge from its own
pub found-apart : (names others : List (List ℕ)) (n m w : Node) → value_named names n ≡ Some m → paths_diverge names others ≡ true → value_named others (put_named names w n) ≡ value_named others n
found-apart [] others n m w there apart = cc
found-apart (segment ∷ names) [] n m w there apart = cc
found-apart (segment ∷ names) (other ∷ others) n m w there apart =
    let first = found-first segment names n m there in
    found-more other others (put_named (segment ∷ names) w n)
    ∙ found_apart_at (bytes_eq segment other) segment other names others n first.0 m w refl apart first.1 first.2 (λ h. found-apart names others first.0 m w first.2 h)
    ∙ sym (found-more other others n)

pub pointed-names : (p : List ℕ) (n m : Node) → pointed p n ≡ Some m → (names : List (List ℕ)) × (pointer_segments p ≡ Some names) × (value_named names n ≡ Some m)
pointed-names p n m h = grind (arith, nat_tests, common_steps)

pub pointed-put : (p : List ℕ) (n m w : Node) → is_taken w ≡ false → pointed p n ≡ Some m → pointed p (put_pointed p w n) ≡ Some w
pointed-put p n m w h there = grind (arith, nat_tests, common_steps, pointed-names p n m there, pointed-found p, put_pointed-found p, found-put)

pub pointed-apart : (p q : List ℕ) (n m w : Node) → pointed p n ≡ Some m → pointers_diverge p q ≡ true → pointed q (put_pointed p w n) ≡ pointed q n
pointed-apart p q n m w there apart = grind (arith, nat_tests, common_steps, pointed-names p n m there, pointed-found q, put_pointed-found p, found-apart)

-- a pointer names what its segments name step by step
step_of : (o : Option Step) (segment : List ℕ) (i : Inner) (c : Node) → step_named segment i ≡ o → option_and_then (λ s. option_map (λ e. e.1) (at_step s i)) o ≡ Some c
    → (s : Step) × (step_named segment i ≡ Some s) × (option_map (λ e. e.1) (at_step s i) ≡ Some c)
step_of o segment i c is h = grind (arith, nat_tests, common_steps)

found_path_step : (s : Step) (segment : List ℕ) (names : List (List ℕ)) (path : Path) (n c m : Node) → step_named segment (inner_of n) ≡ Some s → child s n ≡ Some c → is_taken c ≡ false
    → NamesPath names path × (node_at path c ≡ Some m) × (is_taken m ≡ true → path ≡ []) → NamesPath (segment ∷ names) (s ∷ path) × (node_at (s ∷ path) n ≡ Some m) × (is_taken m ≡ true → s ∷ path ≡ [])
found_path_step s segment names path n c m is leads whole h = grind (arith, nat_tests, common_steps, node_at-more s path n)

pub found-path : (names : List (List ℕ)) (n m : Node) → value_named names n ≡ Some m → (path : Path) × NamesPath names path × (node_at path n ≡ Some m) × (is_taken m ≡ true → path ≡ [])
found-path [] n m h = ([], tt, h, λ _. refl)
found-path (segment ∷ names) n m h =
    let first = found-first segment names n m h in
    let leads = untaken_entry-of segment n first.0 first.1 in
    let step = step_of (step_named segment (inner_of n)) segment (inner_of n) first.0 refl leads.0 in
    let more = found-path names first.0 m first.2 in
    let below = found_path_step step.0 segment names more.0 n first.0 m step.1 step.2 leads.1 (more.1, more.2, more.3) in
    (step.0 ∷ more.0, below.0, below.1, below.2)

-- and conversely
not_taken : (s : Step) (path : Path) (b : Bool) → (b ≡ true → s ∷ path ≡ []) → b ≡ false
not_taken s path true h =
    let no : s ∷ path ≡ [] = h refl in
    cc
not_taken s path false h = refl

-- there is nothing below a value that has been taken
whole_above : (path : Path) (c m : Node) → node_at path c ≡ Some m → is_taken m ≡ false → is_taken c ≡ false
whole_above [] c m there h = grind (arith, nat_tests, common_steps)
whole_above (s ∷ path) c m there h = grind (arith, nat_tests, common_steps)

path_found_step : (s : Step) (segment : List ℕ) (names : List (List ℕ)) (path : Path) (n m : Node) → ((c : Node) → NamesPath names path → node_at path c ≡ Some m → value_named names c ≡ Some m)
    → NamesPath (segment ∷ names) (s ∷ path) → node_at (s ∷ path) n ≡ Some m → is_taken m ≡ false → value_named (segment ∷ names) n ≡ Some m
path_found_step s segment names path n m ih h there whole = grind (arith, nat_tests, common_steps, found-more segment names n, node_at-more s path n, whole_above path)

pub path-found : (names : List (List ℕ)) (path : Path) (n m : Node) → NamesPath names path → node_at path n ≡ Some m → (is_taken m ≡ true → path ≡ []) → value_named names n ≡ Some m
path-found [] [] n m h there whole = there
path-found [] (s ∷ path) n m h there whole = absurd h
path-found (segment ∷ names) [] n m h there whole = absurd h
path-found (segment ∷ names) (s ∷ path) n m h there whole =
    let left = not_taken s path (is_taken m) whole in
    path_found_step s segment names path n m (λ c named below. path-found names path c m named below (λ is. absurd (true≢false (sym is ∙ left)))) h there left

pub pointed-is : (p : List ℕ) (n m : Node) → (pointed p n ≡ Some m) ↔ IsPointed p n m
pointed-is p n m = (
  λ h.
      let names = pointed-names p n m h in
      let path = found-path names.0 n m names.2 in
      (names.0, path.0, names.1, path.1, path.2, path.3),
  λ h. grind (arith, nat_tests, common_steps, path-found h.0 h.1 n m h.3 h.4 h.5),
)
