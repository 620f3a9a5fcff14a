use Rattle.toml_span_lex.proofs.Common.{arith}
use Rattle.toml_span_lex.specs.Bytes.{is_printed}
use Rattle.toml_span_lex.proofs.Marks.{run_boundary, run_ends, run_goes_on}
use Rattle.toml_span_lex.proofs.Runs.{unprinted_ascii}
use Rattle.toml_span_lex.proofs.bytes.printed_end.Goals as goal

pub loop-start-preserved : goal.loop-start-preserved
loop-start-preserved c = record {
  forward = omega arith;
  within = omega arith;
  passes = run_goes_on is_printed c.args.text.now c.args.from c.loop-start.start _ c.loop-start.invariant.passes (omega arith) (rw c.as_bytes-bytes.ensures.value at c.marked_in_comments-marked.ensures) c.if-marked-ne0.false;
}

pub returns-then-marked-ne0-clause-run : goal.returns-then-marked-ne0-clause-run
returns-then-marked-ne0-clause-run c = run_ends is_printed c.args.text.now c.args.from c.loop-start.start _ c.loop-start.invariant.passes (omega arith) (rw c.as_bytes-bytes.ensures.value at c.marked_in_comments-marked.ensures) (omega arith) c.marked_in_comments-marked.type_inv (omega arith)

pub returns-then-marked-ne0-clause-boundary : goal.returns-then-marked-ne0-clause-boundary
returns-then-marked-ne0-clause-boundary c =
    run_boundary is_printed c.args.text.now c.args.from _ unprinted_ascii (run_ends is_printed c.args.text.now c.args.from c.loop-start.start _ c.loop-start.invariant.passes (omega arith) (rw c.as_bytes-bytes.ensures.value at c.marked_in_comments-marked.ensures) (omega arith) c.marked_in_comments-marked.type_inv (omega arith))
