-- Values that are written over literals.
use Rattle.toml_span_lex.proofs.Common.{◌≡◌, ◌∙◌, ◌++◌, ◌∷◌, ◌&&◌, ℕ, Bool, true, false, false≢true, List, [], Option, Some, None, Result, Ok, IfOk, none-some, same_Some, codes, refl, sym, subst, inr}
use Rattle.toml_span_read.specs.Data.{depth_limit}
use Rattle.toml_span_tree.specs.Node.{Node}
use Rattle.toml_span_tree.specs.Value.{inner_of, view}
use Rattle.toml_span_tree.specs.declared.value.Value.{Value}
use Rattle.toml_span.specs.Parsing.{IsTree}
use Rattle.toml_span_places.specs.Literals.{literal_span}
use Rattle.toml_span_places.specs.Replace.{replaced}
use Rattle.toml_span_edit.specs.Edited.{IsPlaced, is_placed}
use Rattle.toml_span_edit.specs.Made.{at, child, within}
use Rattle.toml_span_edit.specs.Paths.{Path, found}
use Rattle.toml_span_edit.specs.Refused.{CannotSetOver, IsNotSet, is_alone, is_set}
use Rattle.toml_span_edit.specs.Same.{same}
use Rattle.toml_span_edit.specs.declared.step.Destination.TheVariants as destinations

second : (a b : Bool) → (a && b) ≡ true → b ≡ true
second true b h = h
second false b h = absurd (false≢true h)

-- what holds of the value `v`
held : (holds : Node → Bool) (o : Option Node) → within holds o ≡ true → (w : Node) × (o ≡ Some w) × (holds w ≡ true)
held holds None h = absurd (false≢true h)
held holds (Some w) h = (w, refl, h)

-- a text that is read, and what it is read as
pub read_as : {E : Type 0} (text : List ℕ) (root : Value) (r : Result Value E) → r ≡ Ok root →
    IfOk r (λ x. IsTree text depth_limit x) → IsTree text depth_limit root
read_as text root r is tree = subst (λ r. IfOk r (λ x. IsTree text depth_limit x)) is tree

-- the trees of the value and of the new text
pub set_if : (value new : List ℕ) (path : Path) (n : Node) (given root : Value) → IsTree (codes "v = " ++ value) depth_limit given →
    IsTree new depth_limit root → is_set (codes "v = " ++ value) (view given) path n (view root) ≡ true →
    (root : Value) × IsTree new depth_limit root × IsPlaced (is_placed destinations.Here) value path n (view root)
set_if value new path n given root tree read h =
    let probe : List ℕ = codes "v = " ++ value in
    let (w, there, both) = held (λ w. is_alone probe w && at path (λ m. same w) n (view root)) (child (codes "v") (inner_of (view given))) h in
    (root, read, (w, (given, tree, there), second (is_alone probe w) (at path (λ m. same w) n (view root)) both))

pub set_not : (value new : List ℕ) (path : Path) (n : Node) (given root : Value) → IsTree (codes "v = " ++ value) depth_limit given →
    IsTree new depth_limit root → is_set (codes "v = " ++ value) (view given) path n (view root) ≡ false → IsNotSet value path n new
set_not value new path n given root tree read h = inr (inr (given, root, tree, read, h))

-- ---- the text with the value written over a literal

pub nowhere : (value : List ℕ) (path : Path) (n : Node) (text : List ℕ) → found path n ≡ None → CannotSetOver value path n text
nowhere value path n text none new (w, there, eq) = absurd (none-some w (sym none ∙ there))

here : (value : List ℕ) (path : Path) (n w k : Node) (text : List ℕ) → found path n ≡ Some w → found path n ≡ Some k →
    replaced text ((literal_span text w, value) ∷ []) ≡ replaced text ((literal_span text k, value) ∷ [])
here value path n w k text there other =
    subst (λ (k : Node). replaced text ((literal_span text w, value) ∷ []) ≡ replaced text ((literal_span text k, value) ∷ []))
    (same_Some w k (sym there ∙ other)) refl

pub no_span : (value : List ℕ) (path : Path) (n w : Node) (text : List ℕ) → found path n ≡ Some w →
    replaced text ((literal_span text w, value) ∷ []) ≡ None → CannotSetOver value path n text
no_span value path n w text there none new (k, other, eq) =
    absurd (none-some new (sym none ∙ here value path n w k text there other ∙ eq))

pub only_text : (value : List ℕ) (path : Path) (n w : Node) (text out : List ℕ) → found path n ≡ Some w →
    replaced text ((literal_span text w, value) ∷ []) ≡ Some out → IsNotSet value path n out → CannotSetOver value path n text
only_text value path n w text out there made h new (k, other, eq) =
    subst (λ (t : List ℕ). IsNotSet value path n t) (same_Some out new (sym made ∙ here value path n w k text there other ∙ eq)) h
