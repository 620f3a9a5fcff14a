-- Comments that are among others.
use Rattle.toml_span_lex.proofs.Common.{◌≡◌, ◌<◌, ◌≤◌, ℕ, zero, suc, refl, ◌+◌, List, [], ◌∷◌, Bor, true, false, arith, nat_tests, common_steps, drop, get_or, length, map}
use Rattle.std.proofs.lemmas.List.{drop_more, drop_all}
use Rattle.std.proofs.Math.Dec.{leb}
use Rattle.std.specs.Str.{bytes_eq}
use Rattle.toml_span_edit.specs.Comments.{are_among}
use Rattle.toml_span_edit.proofs.Steps.{now_of, no_name}

-- one more of the second list, which is the next of the first
pub among_same : (ps ws : List (Bor (List ℕ))) (i j : ℕ) → i < length ps → j < length ws →
    bytes_eq (get_or ps i no_name).now (get_or ws j no_name).now ≡ true →
    are_among (map now_of (drop (i + 1) ps)) (map now_of (drop (j + 1) ws)) ≡ are_among (map now_of (drop i ps)) (map now_of (drop j ws))
among_same ps ws i j h g e = rw (drop_more ps i no_name h, drop_more ws j no_name g, e) refl

-- one more of the second list, which is another one
pub among_other : (ps ws : List (Bor (List ℕ))) (i j : ℕ) → i < length ps → j < length ws →
    bytes_eq (get_or ps i no_name).now (get_or ws j no_name).now ≡ false →
    are_among (map now_of (drop i ps)) (map now_of (drop (j + 1) ws)) ≡ are_among (map now_of (drop i ps)) (map now_of (drop j ws))
among_other ps ws i j h g e = rw (drop_more ps i no_name h, drop_more ws j no_name g, e) refl

-- all of the first list is found, or not, where the second ends
ends : (ps : List (Bor (List ℕ))) (i : ℕ) → leb (length ps) i ≡ are_among (map now_of (drop i ps)) []
ends [] zero = refl
ends [] (suc i) = grind (arith, nat_tests, common_steps)
ends (p ∷ ps) zero = grind (arith, nat_tests, common_steps)
ends (p ∷ ps) (suc i) = grind (arith, nat_tests, common_steps, ends ps i)

pub among_end : (ps ws : List (Bor (List ℕ))) (i j : ℕ) → length ws ≤ j →
    leb (length ps) i ≡ are_among (map now_of (drop i ps)) (map now_of (drop j ws))
among_end ps ws i j h = rw (drop_all j ws h) (ends ps i)
