-- What all reports of violations have in common.
use Rattle.std.specs.Prelude.{◌≡◌}
use Rattle.toml_span_report.specs.declared.report.Report.{Report}
use Rattle.toml_span_report.specs.declared.report.Severity.TheVariants.{Error}

abbrev pub IsError : Report → Type 0
IsError report = report.severity ≡ Error
