-- One more value at the end of those that were read.
use Rattle.toml_span_lex.proofs.Common.{◌≡◌, List, [], ◌∷◌, ◌++◌, Result, Ok, Err, refl, ap, sym, ◌∙◌, append_assoc}
use Rattle.toml_span_tree.specs.Node.{Node}
use Rattle.toml_span_tree.specs.Value.{items_view, view}
use Rattle.toml_span_tree.specs.declared.value.Value.{Value}
use Rattle.toml_span_tree.specs.Error.{ErrorContent}
use Rattle.toml_span_typed.specs.code.Arrays.{AddsRead, AreRead}
use Rattle.toml_span_tree.specs.Errors.{Errors, all}
use Rattle.toml_span_typed.specs.Reads.{EachReads, elements, errors, nodes_of}

module _ {T : Type 0} (reads : Node → Result T Errors → Node → Type 0) where
  each_push : (vs : List Node) (v : Node) (answers : List (Result T Errors)) (a : Result T Errors) → EachReads reads vs answers → (w : Node) × reads v a w → EachReads reads (vs ++ v ∷ []) (answers ++ a ∷ [])
  each_push [] v [] a h one = (one, tt)
  each_push (u ∷ us) v (b ∷ bs) a h one = (h.0, each_push us v bs a h.1 one)
  each_push [] v (b ∷ bs) a h one = elim h [ ]
  each_push (u ∷ us) v [] a h one = elim h [ ]

pub elements_push : {T : Type 0} → (answers : List (Result T Errors)) (a : Result T Errors) → elements (answers ++ a ∷ []) ≡ elements answers ++ elements (a ∷ [])
elements_push [] a = refl
elements_push (Ok x ∷ answers) a = ap (λ ys. x ∷ ys) (elements_push answers a)
elements_push (Err e ∷ answers) a = elements_push answers a

pub errors_push : {T : Type 0} → (answers : List (Result T Errors)) (a : Result T Errors) → errors (answers ++ a ∷ []) ≡ errors answers ++ errors (a ∷ [])
errors_push [] a = refl
errors_push (Ok x ∷ answers) a = errors_push answers a
errors_push (Err e ∷ answers) a = ap (λ ys. all e ++ ys) (errors_push answers a) ∙ sym (append_assoc (all e) (errors answers) (errors (a ∷ [])))

-- what was read, and one more
pub read_more : {T : Type 0} → (reads : Node → Result T Errors → Node → Type 0) (vs : List Node) (v : Node) (xs ys : List T) (fs gs : List ErrorContent) → AreRead reads vs xs fs → AddsRead reads v xs fs ys gs → AreRead reads (vs ++ v ∷ []) ys gs
read_more reads vs v xs ys fs gs h more = (
  h.0 ++ more.0 ∷ [],
  each_push reads vs v h.0 more.0 h.1 more.1,
  elements_push h.0 more.0 ∙ ap (λ zs. zs ++ elements (more.0 ∷ [])) h.2 ∙ sym more.2,
  errors_push h.0 more.0 ∙ ap (λ zs. zs ++ errors (more.0 ∷ [])) h.3 ∙ sym more.3,
)

-- one more element of an array
pub nodes_push : (vs : List Value) (v : Value) → nodes_of (items_view (vs ++ v ∷ [])) ≡ nodes_of (items_view vs) ++ view v ∷ []
nodes_push [] v = refl
nodes_push (u ∷ vs) v = ap (λ ws. view u ∷ ws) (nodes_push vs v)
