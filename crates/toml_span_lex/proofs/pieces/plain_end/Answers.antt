use Rattle.toml_span_lex.proofs.Common.{arith, ◌≡◌, cases_lt, inl, inr, rules}
use Rattle.toml_span_lex.specs.Pieces.{is_plain}
use Rattle.toml_span_lex.proofs.Marks.{run_boundary, run_ends, run_goes_on}
use Rattle.toml_span_lex.proofs.Runs.{special_ascii}
use Rattle.toml_span_lex.proofs.pieces.plain_end.Goals as goal

pub loop-start-preserved : goal.loop-start-preserved
loop-start-preserved c = record {
  forward = omega arith;
  within = omega arith;
  passes = run_goes_on (is_plain c.args.quote) c.args.text.now c.args.from c.loop-start.start _ c.loop-start.invariant.passes (omega arith) (rw c.as_bytes-bytes.ensures.value at c.marked_in_strings-marked.ensures) c.if-marked-ne0.false;
}

pub returns-then-marked-ne0-clause-run : goal.returns-then-marked-ne0-clause-run
returns-then-marked-ne0-clause-run c = run_ends (is_plain c.args.quote) c.args.text.now c.args.from c.loop-start.start _ c.loop-start.invariant.passes (omega arith) (rw c.as_bytes-bytes.ensures.value at c.marked_in_strings-marked.ensures) (omega arith) c.marked_in_strings-marked.type_inv (omega arith)

pub returns-then-marked-ne0-clause-boundary : goal.returns-then-marked-ne0-clause-boundary
returns-then-marked-ne0-clause-boundary c =
    run_boundary (is_plain c.args.quote) c.args.text.now c.args.from _ (special_ascii c.args.quote c.requires.ascii) (run_ends (is_plain c.args.quote) c.args.text.now c.args.from c.loop-start.start _ c.loop-start.invariant.passes (omega arith) (rw c.as_bytes-bytes.ensures.value at c.marked_in_strings-marked.ensures) (omega arith) c.marked_in_strings-marked.type_inv (omega arith))

pub loop-at-preserved : goal.loop-at-preserved
loop-at-preserved c = λ k f g.
    elim (cases_lt k c.loop-at.at) [ inl lt ↦ c.loop-at.invariant k f lt | inr ge ↦ let here : k ≡ c.loop-at.at = omega arith in rw here (search rules) ]
