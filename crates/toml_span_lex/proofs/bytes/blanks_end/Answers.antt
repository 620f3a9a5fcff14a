use Rattle.toml_span_lex.proofs.Runs.{boundary_after, blank_ascii}
use Rattle.toml_span_lex.specs.Bytes.{is_blank}
use Rattle.toml_span_lex.proofs.Common.{arith}
use Rattle.toml_span_lex.proofs.bytes.blanks_end.Goals as goal

pub returns-then-not-is_blank-clause-boundary : goal.returns-then-not-is_blank-clause-boundary
returns-then-not-is_blank-clause-boundary c =
    boundary_after is_blank c.args.text.now c.args.from c.loop-at.at blank_ascii c.utf8.text c.requires (omega arith) (omega arith) c.loop-at.invariant
