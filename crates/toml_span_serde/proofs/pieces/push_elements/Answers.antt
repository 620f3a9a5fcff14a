use Rattle.toml_span_lex.proofs.Common.{List, [], ◌∷◌, ◌++◌, sym, subst, ap, ◌∙◌, append-nil, append_assoc, drop_all}
use Rattle.toml_span.specs.Ordered.{AreOrdered}
use Rattle.toml_span_tree.specs.Value.{items_view}
use Rattle.toml_span_tree.specs.declared.value.Value.{Value}
use Rattle.toml_span_serde.specs.Pieces.{array_begins, piece, items_pieces}
use Rattle.toml_span_serde.specs.TextOrder.{items_in_order}
use Rattle.toml_span_serde.specs.Tasks.{all_pieces}
use Rattle.toml_span_serde.proofs.OrderedNames.{elements-next, ordered-push}
use Rattle.toml_span_serde.proofs.Rows.{all_pieces-push, items_pieces-next}
use Rattle.toml_span_serde.proofs.pieces.push_elements.Goals as goal

pub loop-element-init : goal.loop-element-init
loop-element-init c =
    let elements = items_pieces (items_in_order (items_view c.args.array.now.items)) in (
      ap (λ es. all_pieces c.push.new.self.items ++ items_pieces (items_in_order (items_view es))) c.deref-element-items.ensures.value
          ∙ ap (λ ps. ps ++ elements) (all_pieces-push _ _ _ c.in_ok-push.ensures.items)
          ∙ append_assoc (all_pieces c.args.tasks.now.items) (piece array_begins c.args.span ∷ []) elements,
      λ h all. (
        (ordered-push _ _ _ c.in_ok-push.ensures.items h).0,
        subst (λ (es : List Value). AreOrdered (items_view es)) c.deref-element-items.ensures.value all,
      ),
    )

pub loop-element-preserved : goal.loop-element-preserved
loop-element-preserved c =
    let here = sym c.element-item.is in
    let at = c.loop-element.element-index in
    let items = c.deref-element-items.result.now in
    let below = c.loop-element-test.true in (
      items_pieces-next at items c.element-item.result _ _ _
          below here c.loop-element.invariant.0 (all_pieces-push _ _ _ c.in_ok-push-2.ensures.items),
      λ h rest.
          let both = ordered-push _ _ _ c.in_ok-push-2.ensures.items h in
          c.loop-element.invariant.1 both.0 (elements-next at items c.element-item.result below here both.1 rest),
    )

pub returns-clause-pieces : goal.returns-clause-pieces
returns-clause-pieces c =
    let made = all_pieces c.loop-element.tasks.items in
    let left = drop_all c.loop-element.element-index c.deref-element-items.result.now c.loop-element-test.false in
    sym (append-nil made) ∙ ap (λ es. made ++ items_pieces (items_in_order (items_view es))) (sym left) ∙ c.loop-element.invariant.0

pub returns-clause-ordered : goal.returns-clause-ordered
returns-clause-ordered c = λ h.
    let left = drop_all c.loop-element.element-index c.deref-element-items.result.now c.loop-element-test.false in
    c.loop-element.invariant.1 h (subst (λ (es : List Value). AreOrdered (items_view es)) (sym left) tt)
