use Rattle.toml_span_lex.proofs.Common.{◌≡◌, ◌++◌, drop, map}
use Rattle.toml_span_report.specs.Report.{report_content}
use Rattle.toml_span_check.specs.Newer.{newer_report}
use Rattle.toml_span_check.proofs.newer.reports_of.Given as goal

abbrev pub invariant-loop-form : goal.invariant-loop-form
invariant-loop-form l =
    map report_content l.reports.items ++ map (newer_report l.text l.is_default) (drop l.form-index l.forms)
    ≡ map (newer_report l.text l.is_default) l.forms
