-- A list of strings that a function returns for its items.
use Rattle.toml_span_lex.proofs.Common.{◌≡◌, ℕ, List, [], ◌∷◌, ◌++◌, map, codes, refl, sym, ap, join_by, flat_map-map}
use Rattle.toml_span_tree.specs.Listed.{listed}

join_by-map : {A B : Type 0} (text : B → List ℕ) (read : A → B) (between : List ℕ) (items : List A)
    → join_by text between (map read items) ≡ join_by (λ item. text (read item)) between items
join_by-map text read between [] = refl
join_by-map text read between (x ∷ xs) = ap (λ rest. text (read x) ++ rest) (flat_map-map (λ y. between ++ text y) read xs)

pub listed_map : {A B : Type 0} (text : B → List ℕ) (read : A → B) (items : List A)
    → listed (λ item. text (read item)) items ≡ listed text (map read items)
listed_map text read items = ap (λ inner. codes "[" ++ inner ++ codes "]") (sym (join_by-map text read (codes ", ") items))
