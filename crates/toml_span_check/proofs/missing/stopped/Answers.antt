use Rattle.toml_span_lex.proofs.Common.{◌∙◌, ap, sym, string_bytes}
use Rattle.std.specs.Prelude.{is_none}
use Rattle.toml_span_report.specs.Report.{report_content}
use Rattle.toml_span_tree.specs.Value.{inner_of, view}
use Rattle.toml_span_check.specs.Missing.{lacks, with_mark}
use Rattle.toml_span_check.proofs.Missings.{stops}
use Rattle.toml_span_check.proofs.missing.stopped.Goals as goal

pub returns-in_ok-report-in-Some : goal.returns-in_ok-report-in-Some
returns-in_ok-report-in-Some c =
    let i = inner_of (view c.args.value.now) in
    let rc = report_content c.args.report in
    let text = c.as_str.ensures.value ∙ c.in_ok-text-in-Some.ensures ∙ ap (λ m. lacks (is_none m) i c.args.segment.now) (sym c.in-Some.is) in
    let made = c.in_ok-report-in-Some.ensures ∙ ap (λ m. with_mark rc m c.as_str.result.now) (sym c.in-Some.is) in
    stops c.suggested.result rc _ (string_bytes c.args.path) c.args.mark i c.args.segment.now _ text made c.suggested.ensures

pub returns-in_ok-report-in-None : goal.returns-in_ok-report-in-None
returns-in_ok-report-in-None c =
    let i = inner_of (view c.args.value.now) in
    let rc = report_content c.args.report in
    let text = c.as_str-in-None.ensures.value ∙ c.in_ok-text-in-None.ensures ∙ ap (λ m. lacks (is_none m) i c.args.segment.now) (sym c.in-None.is) in
    let made = c.in_ok-report-in-None.ensures ∙ ap (λ m. with_mark rc m c.as_str-in-None.result.now) (sym c.in-None.is) in
    stops c.suggested-in-None.result rc _ (string_bytes c.args.path) c.args.mark i c.args.segment.now _ text made c.suggested-in-None.ensures
