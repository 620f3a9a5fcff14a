-- The patterns of several texts.
use Rattle.std.proofs.Common.{◌≡◌, ◌∙◌, ap, ap₂, sym, List, [], ◌∷◌, ◌++◌, ℕ, Option, None, Some, map, option_map, refl}
use Rattle.std.proofs.lemmas.List.{map-append}
use Rattle.std.proofs.lemmas.List.Elements.{filter_map-append}
use Rattle.std.specs.List.{cons_option, filter_map}
use Rattle.toml_span_check.specs.Patterns.{PatternContent, pattern}
use Rattle.toml_span_check.specs.declared.patterns.Pattern.{Pattern}

found-one : (found : Option Pattern) → map pattern (cons_option found []) ≡ cons_option (option_map pattern found) []
found-one None = refl
found-one (Some p) = refl

-- one more text has been read
pub texts-more : {A : Type 0} (h : List ℕ → Option PatternContent) (now : A → List ℕ) (done : List A) (x : A)
    (found : Option Pattern) (items next : List Pattern)
    → option_map pattern found ≡ h (now x) → map pattern items ≡ filter_map h (map now done) → next ≡ items ++ cons_option found []
    → map pattern next ≡ filter_map h (map now (done ++ x ∷ []))
texts-more h now done x found items next is before ends =
    ap (map pattern) ends
    ∙ map-append pattern items (cons_option found [])
    ∙ ap₂ (λ a b. a ++ b) before (found-one found ∙ ap (λ o. cons_option o []) is)
    ∙ sym (filter_map-append h (map now done) (now x ∷ []))
    ∙ ap (filter_map h) (sym (map-append now done (x ∷ [])))
