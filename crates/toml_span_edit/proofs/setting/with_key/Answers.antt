use Rattle.toml_span_lex.proofs.Common.{◌≡◌, List, IfOk, Some, map, string_bytes, subst, ◌∙◌}
use Rattle.toml_span_lex.specs.declared.span.Span.{Span}
use Rattle.toml_span_places.specs.Replace.{replaced}
use Rattle.toml_span_edit.proofs.setting.with_key.Goals as goal

pub returns : goal.returns
returns c =
    subst
    (λ (spans : List Span). IfOk c.with_spans.result (λ new. replaced c.args.document.text.now (map (λ span. (span, c.args.key.now)) spans) ≡ Some (string_bytes new)))
    (c.as_slice.ensures.value ∙ c.in_ok-spans.ensures) c.with_spans.ensures
