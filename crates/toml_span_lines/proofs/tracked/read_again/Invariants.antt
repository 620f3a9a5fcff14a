use Rattle.toml_span_lex.proofs.Common.{Keeps}
use Rattle.toml_span_lines.proofs.tracked.read_again.Given as goal

abbrev pub invariant-loop : goal.invariant-loop
invariant-loop g l = Keeps (g.R.Read.remaining l.fn.reader) (g.R.Read.remaining l.reader)
