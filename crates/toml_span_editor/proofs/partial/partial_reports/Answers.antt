use Rattle.toml_span_lex.proofs.Common.{◌∙◌, IfNone, IfOk-weaker, IfSome, List, Option, ap, map, string_bytes, subst}
use Rattle.toml_span_report.specs.Report.{report_content}
use Rattle.toml_span_editor.specs.Documents.{IsNoDocument, IsRead}
use Rattle.toml_span_editor.specs.declared.document.Document.{Document}
use Rattle.toml_span_editor.specs.Partial.{certain, certain_codes, doubts}
use Rattle.toml_span_editor.specs.declared.partial.Doubt.{Doubt}
use Rattle.toml_span_editor.proofs.PartialLemmas.{none_of, partial_of}
use Rattle.toml_span_editor.proofs.partial.partial_reports.Goals as goal

pub returns : goal.returns
returns g c =
    let found = map report_content c.in_ok-made.made.reports.items in
    IfOk-weaker c.certain.result _ _
    (λ made is. partial_of g.S.Schemas.says c.args.chooser c.args.name.now c.args.text.now c.in_ok-kept.kept.parts.items (string_bytes c.in_ok-kept.kept.text) c.as_str.result.now c.as_str-2.result.now c.in-Some.document found (map report_content made.items) (string_bytes c.in_ok-made.made.complaint)
    c.in_ok-kept.ensures c.as_str.ensures.value c.as_str-2.ensures.value (subst (λ (o : Option Document). IfSome o (IsRead c.as_str.result.now)) c.in-Some.is c.in_ok-document.ensures.document) c.in_ok-made.ensures
    (is ∙ ap (λ (ds : List Doubt). certain certain_codes ds found) (c.as_slice-2.ensures.value ∙ c.in_ok-doubts.ensures ∙ ap doubts c.as_slice.ensures.value)))
    c.certain.ensures

pub returns-in_default : goal.returns-in_default
returns-in_default g c =
    none_of g.S.Schemas.says c.args.chooser c.args.name.now c.args.text.now c.in_ok-kept.kept.parts.items (string_bytes c.in_ok-kept.kept.text) c.as_str.result.now (map report_content c.new.result.items)
    c.in_ok-kept.ensures c.as_str.ensures.value
    (subst (λ (o : Option Document). IfNone o (IsNoDocument c.as_str.result.now)) c.in_default.is c.in_ok-document.ensures.none)
    (ap (map report_content) c.new.ensures.items)
