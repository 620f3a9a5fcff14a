use Rattle.toml_span_lex.proofs.Common.{◌∙◌, bytes_eq-Decides, string_bytes, sym}
use Rattle.toml_span_format.proofs.Documents.{unchanged}
use Rattle.toml_span_format.proofs.document.format.Goals as goal

pub returns-then-eq : goal.returns-then-eq
returns-then-eq c =
    unchanged c.args.text.now (string_bytes c.in_ok-new.new) c.in_ok-document.document c.in_ok-document.ensures.0 c.in_ok-document.ensures.1
    (sym c.as_str.ensures.value ∙ (bytes_eq-Decides c.as_str.result.now c.args.text.now).0 (sym c.eq.ensures ∙ c.if-eq.true))
