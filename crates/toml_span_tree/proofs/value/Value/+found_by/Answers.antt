use Rattle.toml_span_lex.proofs.Common.{option_and_then, ap, ◌∙◌, sym}
use Rattle.toml_span_tree.specs.code.Pointer.{value_named}
use Rattle.toml_span_tree.specs.Pointer.{segments}
use Rattle.toml_span_tree.specs.Value.{view}
use Rattle.toml_span_tree.proofs.Pointers.{found-cut}
use Rattle.toml_span_tree.proofs.value.Value.+found_by.Goals as goal

pub returns-in-Some : goal.returns-in-Some
returns-in-Some t c =
    let cut = rw c.in-Some.is at c.cut.ensures in
    c.found_by.ensures
    ∙ ap (option_and_then (value_named (segments c.in-Some.rest.now))) c.in_ok-child.ensures
    ∙ sym (found-cut c.args.path.now c.cut.result.0.now _ (view c.args.self.now) cut)
