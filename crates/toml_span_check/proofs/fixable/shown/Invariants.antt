use Rattle.toml_span_lex.proofs.Common.{map}
use Rattle.toml_span_report.specs.Report.{report_content}
use Rattle.toml_span_check.specs.Fixable.{AllShown}
use Rattle.toml_span_check.proofs.fixable.shown.Given as goal

abbrev pub invariant-loop-report : goal.invariant-loop-report
invariant-loop-report l =
    AllShown l.text l.pieces l.statements (map report_content l.yielded) (map report_content l.made.items)
