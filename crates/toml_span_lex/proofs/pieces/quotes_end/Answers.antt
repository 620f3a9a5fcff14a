use Rattle.toml_span_lex.proofs.Common.{arith, ◌==◌}
use Rattle.toml_span_lex.proofs.Runs.{boundary_after, equal_ascii}
use Rattle.toml_span_lex.proofs.pieces.quotes_end.Goals as goal

pub returns-then-bytes-at-clause-boundary : goal.returns-then-bytes-at-clause-boundary
returns-then-bytes-at-clause-boundary c =
    λ k f g. boundary_after (λ b. b == c.args.quote) c.args.text.now c.args.from k (equal_ascii c.args.quote c.requires.ascii) c.utf8.text c.requires.boundary f (omega arith) (λ n x y. c.loop-at.invariant n x (omega arith))
