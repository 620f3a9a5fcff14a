use Rattle.toml_span_lex.proofs.Common.{◌≡◌, map, take}
use Rattle.toml_span_report.specs.Rendering.{greatest}
use Rattle.toml_span_report.specs.Strips.{strip_content}
use Rattle.toml_span_report.proofs.rendering.width_of.Given as goal

abbrev pub invariant-loop-strip : goal.invariant-loop-strip
invariant-loop-strip l = l.greatest ≡ greatest (map strip_content (take l.strip-index l.strips))
