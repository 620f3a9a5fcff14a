use Rattle.toml_span_lex.proofs.Common.{ap, map}
use Rattle.toml_span_report.specs.Report.{report_content}
use Rattle.toml_span_check.proofs.Errors.{checks_valid}
use Rattle.toml_span_check.proofs.every.check.Goals as goal

pub returns-in-Ok : goal.returns-in-Ok
returns-in-Ok c = checks_valid c.args.text.now c.in-Ok.field-0 _ c.in-Ok.ensures.tree (ap (map report_content) c.new.ensures.items)
