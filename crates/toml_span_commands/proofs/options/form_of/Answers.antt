use Rattle.toml_span_lex.proofs.Common.{◌∙◌, ap, ap₂, Ok, Option, Result, Bool}
use Rattle.std.specs.Prelude.{None}
use Rattle.toml_span_check.specs.declared.answer.Form.{Form}
use Rattle.toml_span_check.specs.declared.answer.Form.TheVariants as form
use Rattle.toml_span_commands.specs.Options.{with_form}
use Rattle.toml_span_commands.specs.declared.options.Mistake.{Mistake}
use Rattle.toml_span_commands.proofs.options.form_of.Goals as goal

abbrev next : Form → Result (Option Form) Mistake → Bool → Result (Option Form) Mistake
next f chosen given = with_form chosen given f

pub returns : goal.returns
returns c =
    let json = c.with_form-json.ensures ∙ ap (next form.Plain (Ok None)) c.is_given.ensures in
    let raw = c.with_form-raw.ensures ∙ ap₂ (next form.Raw) json c.is_given-2.ensures in
    let toml = c.with_form-toml.ensures ∙ ap₂ (next form.Toml) raw c.is_given-3.ensures in
    let tagged = c.with_form-tagged.ensures ∙ ap₂ (next form.Tagged) toml c.is_given-4.ensures in
    c.with_form.ensures ∙ ap₂ (next form.Items) tagged c.is_given-5.ensures
