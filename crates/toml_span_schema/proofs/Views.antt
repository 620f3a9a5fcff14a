-- Values as plain data: how many there are, and their canonical texts.
use Rattle.std.proofs.Common.{◌≡◌, ◌+◌, List, [], ◌∷◌, ap, ◌∙◌, refl, length, map, add-one}
use Rattle.toml_span_lex.specs.declared.key.Key.{Key}
use Rattle.toml_span_tree.specs.Value.{items_view, members_view, view}
use Rattle.toml_span_tree.specs.declared.value.Value.{Value}
use Rattle.toml_span_schema.specs.Canonical.{canonical, forms}
use Rattle.toml_span_schema.specs.Parts.{items_count, members_count}

pub items_count_view : (vs : List Value) → items_count (items_view vs) ≡ length vs
items_count_view [] = refl
items_count_view (v ∷ vs) = ap (λ n. n + 1) (items_count_view vs) ∙ add-one (length vs)

pub members_count_view : (es : List (Key × Value)) → members_count (members_view es) ≡ length es
members_count_view [] = refl
members_count_view (e ∷ es) = ap (λ n. n + 1) (members_count_view es) ∙ add-one (length es)

pub forms_view : (vs : List Value) → forms (items_view vs) ≡ map (λ v. canonical (view v)) vs
forms_view [] = refl
forms_view (v ∷ vs) = ap (λ l. canonical (view v) ∷ l) (forms_view vs)

pub ruleset arrays = (items_count_view, forms_view)
