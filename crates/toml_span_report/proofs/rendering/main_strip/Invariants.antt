use Rattle.toml_span_lex.proofs.Common.{◌≡◌, map, drop}
use Rattle.toml_span_report.specs.Rendering.{first_primary}
use Rattle.toml_span_report.specs.Strips.{strip_content}
use Rattle.toml_span_report.proofs.rendering.main_strip.Given as goal

abbrev pub invariant-loop-strip : goal.invariant-loop-strip
invariant-loop-strip l = first_primary (map strip_content (drop l.strip-index l.strips)) ≡ first_primary (map strip_content l.strips)
