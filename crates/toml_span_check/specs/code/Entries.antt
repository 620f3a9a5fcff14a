-- The entries of a table in the order of their names, or in the order of the text.
use Rattle.std.specs.Prelude.{ℕ, Bool, List, [], ◌∷◌, nat_lt, if◌then◌else◌}
use Rattle.toml_span_lex.specs.declared.key.Key.{Key}
use Rattle.toml_span_tree.specs.declared.value.Value.{Value}

-- the list with x inserted before the first element whose number is at least that of x
abbrev pub put_by : {X : Type 0} → (X → ℕ) → X → List X → List X
put_by number x [] = x ∷ []
put_by number x (y ∷ ys) = if nat_lt (number y) (number x) then y ∷ put_by number x ys else x ∷ y ∷ ys

-- the list in the order of its numbers; elements with the same number keep their order
abbrev pub sorted_by : {X : Type 0} → (X → ℕ) → List X → List X
sorted_by number [] = []
sorted_by number (x ∷ xs) = put_by number x (sorted_by number xs)

-- entries, whose names are in order, in this order or in the one in which their keys start in the text
abbrev pub entries_in_order : Bool → List (Key × Value) → List (Key × Value)
entries_in_order is_sorted es = if is_sorted then es else sorted_by (λ e. e.0.span.start) es
