use Rattle.toml_span_lex.proofs.Common.{◌≡◌, drop, map}
use Rattle.toml_span_report.specs.Report.{repair_of}
use Rattle.toml_span_check.specs.Safety.{all_safe}
use Rattle.toml_span_check.proofs.fixing.all_safe.Given as goal

abbrev pub invariant-loop-repair : goal.invariant-loop-repair
invariant-loop-repair l = all_safe (map repair_of (drop l.repair-index l.repairs)) ≡ all_safe (map repair_of l.repairs)
