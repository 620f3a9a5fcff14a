use Rattle.toml_span_lex.proofs.Common.{◌≡◌, map, take}
use Rattle.toml_span_read.specs.Data.{parsed_section}
use Rattle.toml_span_format.specs.Same.{bare_section}
use Rattle.toml_span_format.proofs.same.same_sections.Given as goal

abbrev pub invariant-loop-i : goal.invariant-loop-i
invariant-loop-i l = map bare_section (map parsed_section (take l.i l.a)) ≡ map bare_section (map parsed_section (take l.i l.b))
