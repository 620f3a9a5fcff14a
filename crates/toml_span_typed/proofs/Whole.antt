-- Parts of is_whole values are whole.
use Rattle.toml_span_lex.proofs.Common.{cond_both, common_steps, arith, ℕ, List, Bool, Option, Some, option_map, IfSome, IsTrue, subst, ◌&&◌, ◌≡◌, bytes_eq}
use Rattle.toml_span_lex.specs.declared.span.Span.{Span}
use Rattle.toml_span_tree.specs.Node.{Members, Node, entry_at, member, no_members}
use Rattle.toml_span_tree.specs.Value.{all_members_whole, is_whole}
use Rattle.toml_span_typed.specs.TableHelper.{without}

pub left : (a b : Bool) → IsTrue (a && b) → IsTrue a
left a b h = grind (arith, common_steps)

pub right : (a b : Bool) → IsTrue (a && b) → IsTrue b
right a b h = grind (arith, common_steps)

-- each entry of a table of whole values is whole
pub found_whole : (name : List ℕ) (ms : Members) → IsTrue (all_members_whole ms) → IfSome (option_map (λ e. e.1) (entry_at name ms)) (λ v. IsTrue (is_whole v))
found_whole name no_members h = tt
found_whole name (member other span value rest) h =
    cond_both (bytes_eq name other) _ _ (λ o. IfSome (option_map {T = Option Span × Node} (λ e. e.1) o) (λ v. IsTrue (is_whole v)))
    (λ _. left (is_whole value) _ h) (λ _. found_whole name rest (right (is_whole value) _ h))

-- whole entries stay so without one of them
pub without_whole : (name : List ℕ) (ms : Members) → IsTrue (all_members_whole ms) → IsTrue (all_members_whole (without name ms))
without_whole name no_members h = h
without_whole name (member other span value rest) h =
    cond_both (bytes_eq name other) _ _ (λ ms. IsTrue (all_members_whole ms))
    (λ _. right (is_whole value) _ h) (λ _. rw (left (is_whole value) _ h) (without_whole name rest (right (is_whole value) _ h)))

-- an entry under a name in a table of whole values is whole
pub placed_whole : (name : List ℕ) (ms : Members) (entry : Option Span × Node) → IsTrue (all_members_whole ms) → entry_at name ms ≡ Some entry → IsTrue (is_whole entry.1)
placed_whole name ms entry h is =
    subst (λ (o : Option (Option Span × Node)). IfSome (option_map {T = Option Span × Node} (λ e. e.1) o) (λ v. IsTrue (is_whole v))) is (found_whole name ms h)
