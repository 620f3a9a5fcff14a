use Rattle.toml_span_lex.proofs.Common.{arith, [], ◌∷◌, true, map-append}
use Rattle.toml_span_read.specs.Borrowed.{IsWrittenRight}
use Rattle.toml_span_read.specs.Data.{simple_key}
use Rattle.toml_span_read.specs.code.Keys.{header_found}
use Rattle.toml_span_read.proofs.BorrowLemmas.{keys_more}
use Rattle.toml_span_read.proofs.KeyLemmas.{handed_on, one_more, more_after, last_after, stops_after}
use Rattle.toml_span_read.proofs.keys.header_key.Goals as goal

pub returns-in-None-clause-key : goal.returns-in-None-clause-key
returns-in-None-clause-key c =
    let (h, few, on, none) = c.in_ok-key.ensures.key in
    rw (c.in_default.ensures.ok, map-append simple_key c.parts.parts.items (c.in_ok-key.key ∷ []))
    (last_after true c.args.text.now c.args.limit c.args.at c.parts.next c.in_ok-key.end c.parts.parts.items c.in_ok-key.key (omega (arith, few, c.len.ensures.value)) h (rw c.in-None.is at none) c.parts.invariant.after)

pub parts-preserved : goal.parts-preserved
parts-preserved c =
    let (h, few, on, found) = c.in_ok-key.ensures.key in
    let dot = rw c.in-Some.is at found in
    let pushed = c.in_default.ensures.ok in
    let n = one_more c.parts.parts.items c.push.new.self.items c.in_ok-key.key pushed in
    record {
      forward = omega (arith, on.on, dot.1.on);
      boundary = dot.1.boundary;
      borrows = keys_more (IsWrittenRight c.args.text.now) c.parts.parts.items c.push.new.self.items c.in_ok-key.key pushed c.parts.invariant.borrows c.in_ok-key.ensures.borrows;
      few = omega (arith, n, few, c.len.ensures.value);
      after = more_after true c.args.text.now c.args.limit c.args.at c.parts.next c.in_ok-key.end c.in-Some.on c.parts.parts.items c.push.new.self.items c.in_ok-key.key pushed h dot.0 c.parts.invariant.after;
    }

pub returns-in_err-key-clause-key : goal.returns-in_err-key-clause-key
returns-in_err-key-clause-key c =
    rw (handed_on c.from_residual.result c.in_err-key.field-0.0 c.from_residual.ensures.1)
    (stops_after header_found c.in_err-key.field-0.0 true c.args.text.now c.args.limit c.args.at c.parts.next _ c.parts.parts.items c.len.ensures.value c.parts.invariant.few c.parts.invariant.after c.in_err-key.ensures.key)
