use Rattle.toml_span_lex.proofs.Common.{arith}
use Rattle.toml_span_lex.proofs.Runs.{boundary_gap}
use Rattle.toml_span_lex.proofs.pieces.ws_and_newlines_end.Goals as goal

pub returns-then-not-is_ws_or_newline-clause-boundary : goal.returns-then-not-is_ws_or_newline-clause-boundary
returns-then-not-is_ws_or_newline-clause-boundary c =
    boundary_gap c.args.text.now c.args.from c.loop-at.at c.utf8.text c.requires (omega arith) (omega arith) c.loop-at.invariant
