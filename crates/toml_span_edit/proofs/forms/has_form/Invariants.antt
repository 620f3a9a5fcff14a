use Rattle.toml_span_lex.proofs.Common.{◌≡◌, drop}
use Rattle.std.specs.List.{list_any}
use Rattle.toml_span_edit.specs.Converted.{is_form}
use Rattle.toml_span_edit.proofs.forms.has_form.Given as goal

abbrev pub invariant-loop-form : goal.invariant-loop-form
invariant-loop-form l =
    list_any (is_form l.other) l.forms ≡ list_any (is_form l.other) (drop l.form-index l.forms)
