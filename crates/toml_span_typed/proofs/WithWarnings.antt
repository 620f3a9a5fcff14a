-- One more value at the end of those that were read, with its warnings.
use Rattle.std.proofs.Math.Seq.{drop-append_seam}
use Rattle.toml_span_lex.proofs.Common.{◌≡◌, List, [], ◌∷◌, ◌++◌, Result, refl, ap, sym, subst, ◌∙◌, append_assoc, drop, length}
use Rattle.toml_span_tree.specs.Node.{Node}
use Rattle.toml_span_tree.specs.Error.{ErrorContent}
use Rattle.toml_span_typed.specs.code.WithWarnings.{AddsWithWarnings, AreReadWithWarnings}
use Rattle.toml_span_tree.specs.Errors.{Errors}
use Rattle.toml_span_typed.specs.Reads.{elements, errors}
use Rattle.toml_span_typed.specs.WithWarnings.{EachWithWarnings, Extends}
use Rattle.toml_span_typed.proofs.Arrays.{elements_push, errors_push}

module _ {T : Type 0} (reads : Node → Result T Errors → List ErrorContent → List ErrorContent → Type 0) where
  each_push : (vs : List Node) (v : Node) (answers : List (Result T Errors)) (a : Result T Errors) (w x y : List ErrorContent) → EachWithWarnings reads vs answers w x → reads v a x y → EachWithWarnings reads (vs ++ v ∷ []) (answers ++ a ∷ []) w y
  each_push [] v [] a w x y h one = (y, subst (λ (z : List ErrorContent). reads v a z y) h one, refl)
  each_push (u ∷ us) v (b ∷ bs) a w x y h one = (h.0, h.1, each_push us v bs a h.0 x y h.2 one)
  each_push [] v (b ∷ bs) a w x y h one = elim h [ ]
  each_push (u ∷ us) v [] a w x y h one = elim h [ ]

-- what was read, and one more
pub read_more : {T : Type 0} → (reads : Node → Result T Errors → List ErrorContent → List ErrorContent → Type 0) (vs : List Node) (v : Node) (xs ys : List T) (fs gs w x y : List ErrorContent) → AreReadWithWarnings reads vs xs fs w x → AddsWithWarnings reads v xs fs ys gs x y → AreReadWithWarnings reads (vs ++ v ∷ []) ys gs w y
read_more reads vs v xs ys fs gs w x y h more = (
  h.0 ++ more.0 ∷ [],
  each_push reads vs v h.0 more.0 w x y h.1 more.1,
  elements_push h.0 more.0 ∙ ap (λ zs. zs ++ elements (more.0 ∷ [])) h.2 ∙ sym more.2,
  errors_push h.0 more.0 ∙ ap (λ zs. zs ++ errors (more.0 ∷ [])) h.3 ∙ sym more.3,
)

-- warnings are put after warnings
pub extends_more : (w x y : List ErrorContent) → Extends w x → Extends x y → Extends w y
extends_more w x y h k =
    let a = drop (length w) x in
    let b = drop (length x) y in
    let is : y ≡ w ++ (a ++ b) = k ∙ ap (λ z. z ++ b) h ∙ append_assoc w a b in
    is ∙ ap (λ z. w ++ z) (sym (ap (drop (length w)) is ∙ drop-append_seam w (a ++ b)))
