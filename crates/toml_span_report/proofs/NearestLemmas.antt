-- The nearest of the names so far.
use Rattle.toml_span_lex.proofs.Common.{◌≡◌, ℕ, ◌+◌, ◌<◌, ◌≤◌, true, false, Option, Some, None, MatchOption, List, [], length, get_or, arith, refl, sym, ap, ◌∙◌, nat_le, position_or_len, slice_get, le-leb, nat_tests, All-from_get_or, find_at, list_all-from_AllPass, position_or_len_is, slice_get-get_or, slice_get_past, common_steps}
use Rattle.toml_span_report.specs.Names.{distance, reach, is_nearest, nearest}

-- among the first i names, the first of the nearest
abbrev pub Stands : List ℕ → List (List ℕ) → ℕ → ℕ → List ℕ → Type 0
Stands word names i bound name =
    (b : ℕ) × (b < i) × (name ≡ get_or names b []) × (bound ≡ distance word name) × (bound ≤ reach word)
    × ((k : ℕ) → k < b → bound < distance word (get_or names k []))

pub record IsBest (word : List ℕ) (names : List (List ℕ)) (i : ℕ) (best : Option (List ℕ)) (bound : ℕ) : Type 0 where
  pub found : MatchOption best (bound ≡ reach word + 1) (Stands word names i bound)
  pub within : bound ≤ reach word + 1
  pub least : (k : ℕ) → k < i → bound ≤ distance word (get_or names k [])

pub best_nearer : (word : List ℕ) (names : List (List ℕ)) (i : ℕ) (best : Option (List ℕ)) (bound d : ℕ) (name : List ℕ) → IsBest word names i best bound → name ≡ get_or names i [] → d ≡ distance word name → d < bound →
    IsBest word names (i + 1) (Some name) d
best_nearer word names i best bound d name before here is nearer = grind (arith, nat_tests, common_steps)

pub best_same : (word : List ℕ) (names : List (List ℕ)) (i : ℕ) (best : Option (List ℕ)) (bound d : ℕ) (name : List ℕ) → IsBest word names i best bound → name ≡ get_or names i [] → d ≡ distance word name → bound ≤ d →
    IsBest word names (i + 1) best bound
best_same word names i best bound d name before here is farther = grind (arith, nat_tests, common_steps)

another_nearer : (word : List ℕ) (names : List (List ℕ)) (name : List ℕ) (b : ℕ) → b < length names → distance word (get_or names b []) < distance word name → is_nearest word names name ≡ false
another_nearer word names name b below nearer = grind (arith, nat_tests, common_steps)

pub best_all : (word : List ℕ) (names : List (List ℕ)) (best : Option (List ℕ)) (bound : ℕ) → IsBest word names (length names) best bound → best ≡ nearest word names
best_all word names None bound h =
    let all : position_or_len (is_nearest word names) names ≡ length names =
    position_or_len_is (is_nearest word names) names (length names) [] (omega arith)
    (λ k below. let floor = h.least k below in let over = h.found in grind (arith, nat_tests))
    (λ below. absurd (omega arith)) in
    sym (find_at (is_nearest word names) names ∙ ap (slice_get names) all ∙ slice_get_past names (length names) (omega arith))
best_all word names (Some name) bound h =
    let b = h.found.0 in
    let below = h.found.1 in
    let here = h.found.2 in
    let is = h.found.3 in
    let within = h.found.4 in
    let own : distance word (get_or names b []) ≡ bound = ap (distance word) (sym here) ∙ sym is in
    let reached = le-leb (distance word (get_or names b [])) (reach word) (omega arith) in
    let least = list_all-from_AllPass (λ other. nat_le (distance word (get_or names b [])) (distance word other)) names
    (All-from_get_or (λ other. nat_le (distance word (get_or names b [])) (distance word other) ≡ true) names [] (λ k under. let floor = h.least k under in le-leb (distance word (get_or names b [])) (distance word (get_or names k [])) (omega arith))) in
    let first : position_or_len (is_nearest word names) names ≡ b =
    position_or_len_is (is_nearest word names) names b [] (omega arith)
    (λ k before. let more = h.found.5 k before in another_nearer word names (get_or names k []) b below (omega arith))
    (λ _. rw (reached, least) refl) in
    ap Some here ∙ sym (slice_get-get_or names b [] below) ∙ sym (find_at (is_nearest word names) names ∙ ap (slice_get names) first)
