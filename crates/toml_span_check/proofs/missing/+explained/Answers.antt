use Rattle.toml_span_lex.proofs.Common.{◌∙◌, ap, sym, option_map, string_bytes}
use Rattle.toml_span_report.specs.Report.{report_content}
use Rattle.toml_span_tree.specs.Value.{view}
use Rattle.toml_span_check.proofs.Missings.{explains-end}
use Rattle.toml_span_check.proofs.missing.+explained.Goals as goal

pub returns-in-None : goal.returns-in-None
returns-in-None t c =
    explains-end c.stopped.result (report_content c.args.report) (string_bytes c.args.path) c.args.mark c.args.segments.now c.segment-item.result _ (view c.args.value.now) _
    c.in-len1-up.len_at_least c.segment-item.is c.as_ref-segment.ensures.value (sym c.child_of.ensures ∙ ap (option_map (λ v. view v.now)) c.in-None.is) c.stopped.ensures
