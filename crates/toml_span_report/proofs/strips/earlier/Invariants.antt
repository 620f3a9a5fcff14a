use Rattle.toml_span_lex.proofs.Common.{◌≡◌, ◌+◌, map, drop}
use Rattle.toml_span_report.specs.Strips.{earlier, strip_content}
use Rattle.toml_span_report.proofs.strips.earlier.Given as goal

abbrev pub invariant-loop-i : goal.invariant-loop-i
invariant-loop-i l = l.i + earlier (map strip_content (drop l.i l.strips)) l.at ≡ earlier (map strip_content l.strips) l.at
