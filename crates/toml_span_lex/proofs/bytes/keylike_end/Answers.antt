use Rattle.toml_span_lex.proofs.Runs.{boundary_after, keylike_ascii}
use Rattle.toml_span_lex.specs.Bytes.{is_keylike}
use Rattle.toml_span_lex.proofs.Common.{arith, rules, inl, inr, ◌≡◌, cases_lt}
use Rattle.toml_span_lex.proofs.Marks.{run_ends, run_goes_on}
use Rattle.toml_span_lex.proofs.bytes.keylike_end.Goals as goal

pub loop-start-preserved : goal.loop-start-preserved
loop-start-preserved c = record {
  forward = omega arith;
  within = omega arith;
  passes = run_goes_on is_keylike c.args.text.now c.args.from c.loop-start.start _ c.loop-start.invariant.passes (omega arith) (rw c.as_bytes-bytes.ensures.value at c.marked_in_keys-marked.ensures) c.if-marked-ne0.false;
}

pub returns-then-marked-ne0-clause-run : goal.returns-then-marked-ne0-clause-run
returns-then-marked-ne0-clause-run c = run_ends is_keylike c.args.text.now c.args.from c.loop-start.start _ c.loop-start.invariant.passes (omega arith) (rw c.as_bytes-bytes.ensures.value at c.marked_in_keys-marked.ensures) (omega arith) c.marked_in_keys-marked.type_inv (omega arith)

pub returns-then-marked-ne0-clause-boundary : goal.returns-then-marked-ne0-clause-boundary
returns-then-marked-ne0-clause-boundary c =
    let run = run_ends is_keylike c.args.text.now c.args.from c.loop-start.start _ c.loop-start.invariant.passes (omega arith) (rw c.as_bytes-bytes.ensures.value at c.marked_in_keys-marked.ensures) (omega arith) c.marked_in_keys-marked.type_inv (omega arith) in
    boundary_after is_keylike c.args.text.now c.args.from _ keylike_ascii c.utf8.text c.requires run.forward run.within run.passes

pub loop-at-preserved : goal.loop-at-preserved
loop-at-preserved c = λ k f g.
    elim (cases_lt k c.loop-at.at) [ inl lt ↦ c.loop-at.invariant k f lt | inr ge ↦ let here : k ≡ c.loop-at.at = omega arith in rw here (search rules) ]

pub returns-then-not-is_keylike-clause-boundary : goal.returns-then-not-is_keylike-clause-boundary
returns-then-not-is_keylike-clause-boundary c =
    boundary_after is_keylike c.args.text.now c.args.from c.loop-at.at keylike_ascii c.utf8.text c.requires (omega arith) (omega arith) c.loop-at.invariant
