use Rattle.toml_span_lex.proofs.Common.{arith, sym}
use Rattle.toml_span_read.specs.Data.{parsed_assignment, parsed_value}
use Rattle.toml_span_format.specs.Same.{bare_assignment, bare_value}
use Rattle.toml_span_format.proofs.Lists.{agrees, all_same, differs, other_found, same_length, same_more}
use Rattle.toml_span_format.proofs.Values.{arrays, inlines}
use Rattle.toml_span_format.proofs.same.+same_value.Goals as goal

pub same_values-returns-then-a-b : goal.same_values-returns-then-a-b
same_values-returns-then-a-b t c = differs (λ e. c.if-a-b.true (same_length parsed_value bare_value c.args.a.now c.args.b.now e))

pub same_values-returns-then-not-same_value : goal.same_values-returns-then-not-same_value
same_values-returns-then-not-same_value t c =
    other_found parsed_value bare_value c.args.a.now c.args.b.now c.loop-i.i c.index-a-i.result c.index-b-i.result c.same_value.result
    c.loop-i-test.true c.if-a-b.false c.index-a-i.is c.index-b-i.is c.same_value.ensures.1 c.if-not-same_value.true

pub same_values-loop-i-preserved : goal.same_values-loop-i-preserved
same_values-loop-i-preserved t c =
    same_more parsed_value bare_value c.args.a.now c.args.b.now c.loop-i.i c.index-a-i.result c.index-b-i.result c.loop-i-test.true
    (rw (← c.if-a-b.false) c.loop-i-test.true) (sym c.index-a-i.is) (sym c.index-b-i.is) (c.same_value.ensures.0 c.if-not-same_value.false)
    c.loop-i.invariant

pub same_values-returns : goal.same_values-returns
same_values-returns t c =
    agrees (all_same parsed_value bare_value c.args.a.now c.args.b.now c.loop-i.i (omega (arith, c.loop-i-test.false)) c.if-a-b.false
    c.loop-i.invariant)

pub same_pairs-returns-then-a-b : goal.same_pairs-returns-then-a-b
same_pairs-returns-then-a-b t c = differs (λ e. c.if-a-b.true (same_length parsed_assignment bare_assignment c.args.a.now c.args.b.now e))

pub same_pairs-returns-then-not-same_pair : goal.same_pairs-returns-then-not-same_pair
same_pairs-returns-then-not-same_pair t c =
    other_found parsed_assignment bare_assignment c.args.a.now c.args.b.now c.loop-i.i c.index-a-i.result c.index-b-i.result c.same_pair.result
    c.loop-i-test.true c.if-a-b.false c.index-a-i.is c.index-b-i.is c.same_pair.ensures.1 c.if-not-same_pair.true

pub same_pairs-loop-i-preserved : goal.same_pairs-loop-i-preserved
same_pairs-loop-i-preserved t c =
    same_more parsed_assignment bare_assignment c.args.a.now c.args.b.now c.loop-i.i c.index-a-i.result c.index-b-i.result c.loop-i-test.true
    (rw (← c.if-a-b.false) c.loop-i-test.true) (sym c.index-a-i.is) (sym c.index-b-i.is) (c.same_pair.ensures.0 c.if-not-same_pair.false)
    c.loop-i.invariant

pub same_pairs-returns : goal.same_pairs-returns
same_pairs-returns t c =
    agrees (all_same parsed_assignment bare_assignment c.args.a.now c.args.b.now c.loop-i.i (omega (arith, c.loop-i-test.false)) c.if-a-b.false
    c.loop-i.invariant)

pub same_value-returns-in-Array-Array : goal.same_value-returns-in-Array-Array
same_value-returns-in-Array-Array t c =
    arrays c.args.a.now c.args.b.now c.in-Array-Array.x c.in-Array-Array.y c.as_slice.result.now c.as_slice-in-Array-Array.result.now
    c.same_values.result c.in-Array-Array.is-0 c.in-Array-Array.is-1 c.as_slice.ensures.value c.as_slice-in-Array-Array.ensures.value
    c.same_values.ensures

pub same_value-returns-in-Inline-Inline : goal.same_value-returns-in-Inline-Inline
same_value-returns-in-Inline-Inline t c =
    inlines c.args.a.now c.args.b.now c.in-Inline-Inline.x c.in-Inline-Inline.y c.as_slice-in-Inline-Inline.result.now
    c.as_slice-in-Inline-Inline-2.result.now c.same_pairs.result c.in-Inline-Inline.is-0 c.in-Inline-Inline.is-1
    c.as_slice-in-Inline-Inline.ensures.value c.as_slice-in-Inline-Inline-2.ensures.value c.same_pairs.ensures
