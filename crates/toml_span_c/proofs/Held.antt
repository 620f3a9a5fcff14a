-- The values inside a value.
use Rattle.toml_span_lex.proofs.Common.{◌≡◌, suc, List, [], ◌∷◌, length, refl, ap}
use Rattle.toml_span_lex.specs.declared.key.Key.{Key}
use Rattle.toml_span_tree.specs.Value.{items_view, members_view}
use Rattle.toml_span_tree.specs.declared.value.Value.{Value}
use Rattle.toml_span_c.specs.Records.{items_count, members_count}

-- the number of values inside
pub count-elements : (es : List Value) → items_count (items_view es) ≡ length es
count-elements [] = refl
count-elements (e ∷ es) = ap (λ n. suc n) (count-elements es)

pub count-entries : (es : List (Key × Value)) → members_count (members_view es) ≡ length es
count-entries [] = refl
count-entries (e ∷ es) = ap (λ n. suc n) (count-entries es)
