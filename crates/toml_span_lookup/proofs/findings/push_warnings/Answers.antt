use Rattle.toml_span_lookup.proofs.Warned.{adds-more, adds-none}
use Rattle.toml_span_lookup.proofs.findings.push_warnings.Goals as goal

pub loop-report-init : goal.loop-report-init
loop-report-init c = adds-none _

pub loop-report-preserved-in-Continue-1 : goal.loop-report-preserved-in-Continue-1
loop-report-preserved-in-Continue-1 c = adds-more _ c.loop-report.reports.items _ c.in-Some.report c.loop-report.invariant c.in_ok-push-in-Warning.ensures.items c.in-Warning.is
