use Rattle.toml_span_lex.proofs.Common.{string_bytes}
use Rattle.toml_span_check.specs.Fixing.{Leads}
use Rattle.toml_span_check.proofs.fixing.mended.Given as goal

abbrev pub invariant-loop-count : goal.invariant-loop-count
invariant-loop-count l = Leads l.fn.statement l.way l.count (string_bytes l.text)
