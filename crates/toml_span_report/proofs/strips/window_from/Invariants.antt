use Rattle.toml_span_lex.proofs.Common.{◌≡◌, map, drop}
use Rattle.toml_span_report.specs.Strips.{window_from, strip_content}
use Rattle.toml_span_report.proofs.strips.window_from.Given as goal

abbrev pub invariant-loop-strip : goal.invariant-loop-strip
invariant-loop-strip l =
    window_from l.wide (map strip_content (drop l.strip-index l.strips)) ≡ window_from l.fn.window (map strip_content l.strips)
