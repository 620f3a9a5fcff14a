use Rattle.toml_span_lex.proofs.Common.{◌≡◌, drop, map}
use Rattle.toml_span_report.specs.Report.{repair_of}
use Rattle.toml_span_check.specs.Safety.{all_safe}
use Rattle.toml_span_editor.proofs.diagnostics.all_safe.Given as goal

abbrev pub invariant-loop-replacement : goal.invariant-loop-replacement
invariant-loop-replacement l =
    all_safe (map repair_of (drop l.replacement-index l.replacements)) ≡ all_safe (map repair_of l.replacements)
