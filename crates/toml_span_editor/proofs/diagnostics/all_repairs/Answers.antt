use Rattle.toml_span_lex.proofs.Common.{IfOk-weaker, List, ℕ, map, subst}
use Rattle.toml_span_check.specs.Fixing.{fixed}
use Rattle.toml_span_editor.specs.Edits.{ChangesInto, edit_content}
use Rattle.toml_span_editor.proofs.diagnostics.all_repairs.Goals as goal

pub returns : goal.returns
returns c =
    IfOk-weaker c.differences.result _ _
    (λ edits changes. (
      fixed c.in_ok-made.made,
      c.in_ok-made.ensures,
      subst (λ (new : List ℕ). ChangesInto c.args.text.now (map edit_content edits.items) new) c.as_str.ensures.value changes,
    ))
    c.differences.ensures
