use Rattle.toml_span_lex.proofs.Common.{Keeps}
use Rattle.toml_span_lines.proofs.tracked.write_again.Given as goal

abbrev pub invariant-loop : goal.invariant-loop
invariant-loop g l = Keeps (g.W.Write.contents l.fn.writer) (g.W.Write.contents l.writer)
