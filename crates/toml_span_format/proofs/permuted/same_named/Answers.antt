use Rattle.toml_span_lex.proofs.Common.{ap, arith, get_or, sym}
use Rattle.toml_span_read.specs.Data.{parsed_assignment}
use Rattle.toml_span_format.specs.Same.{bare_assignment}
use Rattle.toml_span_format.proofs.Lists.{agrees, all_same, differs, other_found, same_length, same_more}
use Rattle.toml_span_format.proofs.permuted.same_named.Goals as goal

pub returns-then-a-b : goal.returns-then-a-b
returns-then-a-b c = differs (λ e. c.if-a-b.true (same_length (λ n. parsed_assignment n.assignment.now) bare_assignment c.args.a.now c.args.b.now e))

pub returns-then-not-same_pair : goal.returns-then-not-same_pair
returns-then-not-same_pair c =
    other_found (λ n. parsed_assignment n.assignment.now) bare_assignment c.args.a.now c.args.b.now c.loop-i.i c.index-a-i.result (get_or c.args.b.now c.loop-i.i c.index-b-i.result) c.same_pair.result
    c.loop-i-test.true c.if-a-b.false c.index-a-i.is (ap (get_or c.args.b.now c.loop-i.i) c.index-b-i.is) c.same_pair.ensures.1 c.if-not-same_pair.true

pub loop-i-preserved : goal.loop-i-preserved
loop-i-preserved c =
    same_more (λ n. parsed_assignment n.assignment.now) bare_assignment c.args.a.now c.args.b.now c.loop-i.i c.index-a-i.result (get_or c.args.b.now c.loop-i.i c.index-b-i.result) c.loop-i-test.true
    (rw (← c.if-a-b.false) c.loop-i-test.true) (sym c.index-a-i.is) (sym (ap (get_or c.args.b.now c.loop-i.i) c.index-b-i.is)) (c.same_pair.ensures.0 c.if-not-same_pair.false)
    c.loop-i.invariant

pub returns : goal.returns
returns c =
    agrees (all_same (λ n. parsed_assignment n.assignment.now) bare_assignment c.args.a.now c.args.b.now c.loop-i.i (omega (arith, c.loop-i-test.false)) c.if-a-b.false
    c.loop-i.invariant)
