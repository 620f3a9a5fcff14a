use Rattle.toml_span_lex.proofs.Common.{◌∙◌, ◌++◌, ℕ, ap, string_bytes}
use Rattle.std.specs.Prelude.{codes}
use Rattle.std.specs.Fmt.{decimal}
use Rattle.toml_span_edit.proofs.Steps.{if_ok}
use Rattle.toml_span_edit.proofs.paths.path_error_text.Goals as goal

pub returns : goal.returns
returns c =
    let message = string_bytes c.in_ok-message.message in
    if_ok _ _
    (λ text is.
    let same = ap (λ (n : ℕ). codes "column " ++ (decimal n ++ (codes ": " ++ message))) c.column_of-column.ensures in
    (message, is ∙ same))
    c.format-2.result c.format-2.ensures.ok
