use Rattle.toml_span_lex.proofs.Common.{arith, false}
use Rattle.toml_span_read.specs.Borrowed.{IsWrittenRight}
use Rattle.toml_span_read.specs.code.Keys.{parts_found}
use Rattle.toml_span_read.proofs.BorrowLemmas.{keys_more}
use Rattle.toml_span_read.proofs.KeyLemmas.{handed_on, one_more, more_after, last_after, stops_after}
use Rattle.toml_span_read.proofs.keys.dotted_key.Goals as goal

pub returns-in-None-clause-key : goal.returns-in-None-clause-key
returns-in-None-clause-key c =
    let (h, few, on, none) = c.in_ok-key.ensures.key in
    last_after false c.args.text.now c.args.limit c.args.at c.parts.next c.in_ok-key.end c.parts.inner.items c.in_ok-key.key (omega (arith, few, c.len.ensures)) h (rw c.in-None.is at none) c.parts.invariant.after

pub parts-preserved : goal.parts-preserved
parts-preserved c =
    let (h, few, on, found) = c.in_ok-key.ensures.key in
    let dot = rw c.in-Some.is at found in
    let pushed = c.in_default.ensures in
    let n = one_more c.parts.inner.items c.add.new.items.items c.in_ok-key.key pushed in
    record {
      forward = omega (arith, on.on, dot.1.on);
      boundary = dot.1.boundary;
      borrows = keys_more (IsWrittenRight c.args.text.now) c.parts.inner.items c.add.new.items.items c.in_ok-key.key pushed c.parts.invariant.borrows c.in_ok-key.ensures.borrows;
      few = omega (arith, n, few, c.len.ensures);
      after = more_after false c.args.text.now c.args.limit c.args.at c.parts.next c.in_ok-key.end c.in-Some.on c.parts.inner.items c.add.new.items.items c.in_ok-key.key pushed h dot.0 c.parts.invariant.after;
    }

pub returns-in_err-key-clause-key : goal.returns-in_err-key-clause-key
returns-in_err-key-clause-key c =
    rw (handed_on c.from_residual.result c.in_err-key.field-0.0 c.from_residual.ensures.1)
    (stops_after parts_found c.in_err-key.field-0.0 false c.args.text.now c.args.limit c.args.at c.parts.next _ c.parts.inner.items (omega (arith, c.len.ensures)) c.parts.invariant.few c.parts.invariant.after c.in_err-key.ensures.key)
