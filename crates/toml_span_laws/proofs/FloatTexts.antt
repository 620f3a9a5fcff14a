-- In the tree of a document, the text of each float is itself a spelling of that float.
use Rattle.toml_span_lex.proofs.Common.{◌≡◌, ℕ, suc, cond, List, [], ◌∷◌, Option, Some, None, option_map, refl, sym, ap, ◌∙◌, inl, inr, option_and_then, bytes_eq, cases_Bool, none-some, same_Some, arith, nat_tests, common_steps}
use Rattle.toml_span_lex.specs.declared.span.Span.{Span}
use Rattle.toml_span_tree.specs.Node.{Scalar, Node, node, taken, scalar, array, table, Items, no_items, item, Members, no_members, member, entry_at, element_at}
use Rattle.toml_span_tree.specs.Path.{Path, key, position, Place, shape_scalar, shape_of, reached, place_of, place_at}
use Rattle.toml_span_tree.specs.Value.{view}
use Rattle.toml_span_tree.specs.declared.value.Value.{Value}
use Rattle.toml_span.specs.Ordered.{HasOneEach, ItemsHaveOneEach, MembersHaveOneEach}
use Rattle.toml_span.specs.Parsing.{IsTree}
use Rattle.toml_span_read.proofs.PathLemmas.{same_step-self}
use Rattle.toml_span.proofs.Ordered.{one-each}
use Rattle.toml_span_read.specs.Again.{IsScalarText, HasFloatTexts, ItemsHaveFloatTexts, MembersHaveFloatTexts}
use Rattle.toml_span_laws.proofs.CleanedFloats.{cleaned_spells}
use Rattle.toml_span_read.specs.Data.{ParsedSection}
use Rattle.toml_span_laws.proofs.ReadAgain.{HasScalar, tree-scalar}
use Rattle.toml_span_tree.proofs.Paths.{bytes_same}

-- ---- a property that no path contradicts holds for the tree

abbrev At : Type 0
At = Option Span × Node

-- the scalars that are reached after a step have their texts
abbrev IsSpelledBelow : Option At → Type 0
IsSpelledBelow o = (p : Path) (x : Place) (s : Scalar) → option_map place_of (option_and_then (reached p) o) ≡ Some x → x.shape ≡ shape_scalar s → IsScalarText s

abbrev IsSpelled : Node → Type 0
IsSpelled n = (p : Path) (x : Place) (s : Scalar) → place_at p n ≡ Some x → x.shape ≡ shape_scalar s → IsScalarText s

-- the other entries
others : (name : List ℕ) (at : Span) (n : Node) (ms : Members) → entry_at name ms ≡ None → ((k : List ℕ) → IsSpelledBelow (entry_at k (member name at n ms))) → (k : List ℕ) → IsSpelledBelow (entry_at k ms)
others name at n ms once h k p x s is = elim (cases_Bool (bytes_eq k name)) [
  | inl same ↦ absurd (none-some x
      (sym (ap (λ j. option_map place_of (option_and_then (reached p) (entry_at j ms))) (bytes_same k name same) ∙ ap (λ o. option_map place_of (option_and_then (reached p) o)) once) ∙ is))
  | inr off ↦ h k p x s (ap (λ b. option_map place_of (option_and_then (reached p) (cond b (Some (Some at, n)) (entry_at k ms)))) off ∙ is)
]

-- what is reached with the span of a key has the same shape as without it
keyed : (p : Path) (at : Option Span) (n : Node) (x : Place) (s : Scalar) → ((y : Place) → option_map place_of (reached p (at, n)) ≡ Some y → y.shape ≡ shape_scalar s → IsScalarText s) → place_at p n ≡ Some x → x.shape ≡ shape_scalar s → IsScalarText s
keyed [] at (node k span) x s h is e = h (record { shape = shape_of k; key_span = at; span = span }) refl (ap (λ y. y.shape) (same_Some (place_of (None, node k span)) x is) ∙ e)
keyed (t ∷ p) at n x s h is e = h x is e

mutual
  texts : (n : Node) → HasOneEach n → IsSpelled n → HasFloatTexts n
  texts (node taken span) once h = tt
  texts (node (scalar s) span) once h = h [] (place_of (None, node (scalar s) span)) s refl refl
  texts (node (array ns) span) once h = items-texts ns once (λ i p x s is. h (position i ∷ p) x s is)
  texts (node (table ms) span) once h = members-texts ms once (λ k p x s is. h (key k ∷ p) x s is)

  items-texts : (ns : Items) → ItemsHaveOneEach ns → ((i : ℕ) → IsSpelledBelow (element_at i ns)) → ItemsHaveFloatTexts ns
  items-texts no_items once h = tt
  items-texts (item n ns) once h = (texts n once.0 (λ p x s is. h 0 p x s is), items-texts ns once.1 (λ i p x s is. h (suc i) p x s is))

  members-texts : (ms : Members) → MembersHaveOneEach ms → ((k : List ℕ) → IsSpelledBelow (entry_at k ms)) → MembersHaveFloatTexts ms
  members-texts no_members once h = tt
  members-texts (member name at n ms) once h = (
    texts n once.1 (λ p x s is e. keyed p (Some at) n x s
        (λ y found. h name p y s (ap (λ b. option_map place_of (option_and_then (reached p) (cond b (Some (Some at, n)) (entry_at name ms)))) (same_step-self (key name)) ∙ found)) is e),
    members-texts ms once.2 (others name at n ms once.0 h),
  )

-- ---- a spelled value has its text

scalar-text : (t : List ℕ) (limit : ℕ) (bs : List ParsedSection) (s : Scalar) (span : Span) → HasScalar t limit bs s span → IsScalarText s
scalar-text t limit bs s span h = grind (arith, nat_tests, common_steps, cleaned_spells)

pub tree-texts : (t : List ℕ) (limit : ℕ) (root : Value) → IsTree t limit root → HasFloatTexts (view root)
tree-texts t limit root h =
    texts (view root) (one-each (view root) h.2.ordered) (λ p x s is e. (let (bs, has, tree, z) = tree-scalar t limit root p x s h is e in scalar-text t limit bs s x.span z))
