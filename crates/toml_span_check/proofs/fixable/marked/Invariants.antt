use Rattle.toml_span_lex.proofs.Common.{◌≡◌, ◌++◌, drop, map}
use Rattle.toml_span_report.specs.Report.{repair_of}
use Rattle.toml_span_check.specs.Fixable.{marked}
use Rattle.toml_span_check.proofs.fixable.marked.Given as goal

abbrev pub invariant-loop-repair : goal.invariant-loop-repair
invariant-loop-repair l =
    map repair_of l.made.items ++ map (marked l.is_safe) (map repair_of (drop l.repair-index l.repairs))
    ≡ map (marked l.is_safe) (map repair_of l.repairs)
