use Rattle.toml_span_lex.proofs.Common.{◌≡◌, ◌++◌, drop, map}
use Rattle.toml_span_places.specs.Replace.{edit_of}
use Rattle.toml_span_report.specs.Report.{repair_of}
use Rattle.toml_span_check.specs.Safety.{edits}
use Rattle.toml_span_check.proofs.fixing.edits_of.Given as goal

abbrev pub invariant-loop-repair : goal.invariant-loop-repair
invariant-loop-repair l =
    map edit_of l.edits.items ++ edits l.is_crlf (map repair_of (drop l.repair-index l.repairs))
    ≡ edits l.is_crlf (map repair_of l.repairs)
