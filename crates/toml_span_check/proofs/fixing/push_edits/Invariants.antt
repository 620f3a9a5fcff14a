use Rattle.toml_span_lex.proofs.Common.{◌≡◌, ◌++◌, drop, map}
use Rattle.toml_span_places.specs.Replace.{edit_of}
use Rattle.toml_span_report.specs.Report.{repair_of}
use Rattle.toml_span_check.specs.Fixing.{edits}
use Rattle.toml_span_check.proofs.fixing.push_edits.Given as goal

abbrev pub invariant-loop-repair : goal.invariant-loop-repair
invariant-loop-repair l =
    map edit_of l.edits.items ++ edits (map repair_of (drop l.repair-index l.repairs))
    ≡ map edit_of l.fn.edits.items ++ edits (map repair_of l.repairs)
