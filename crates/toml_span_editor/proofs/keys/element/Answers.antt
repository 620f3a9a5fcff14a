use Rattle.toml_span_lex.proofs.Common.{List, ap, ◌∙◌}
use Rattle.toml_span_tree.specs.declared.value.Value.{Value}
use Rattle.toml_span_tree.specs.Value.{items_view}
use Rattle.toml_span_tree.specs.Node.{get_item}
use Rattle.toml_span_tree.proofs.Pointers.{get_item-got}
use Rattle.toml_span_editor.proofs.keys.element.Goals as goal

pub returns : goal.returns
returns c =
    get_item-got c.get.result c.deref.result.now c.args.at c.get.ensures.lookup
    ∙ ap (λ (vs : List Value). get_item c.args.at (items_view vs)) c.deref.ensures.value
