use Rattle.toml_span_lex.proofs.Common.{arith, sym, length, eq-eqb, position_or_len_is}
use Rattle.toml_span_report.specs.Places.{is_line_feed}
use Rattle.toml_span_report.proofs.places.line_feed.Goals as goal

pub returns-then-byte-eq10-clause-value : goal.returns-then-byte-eq10-clause-value
returns-then-byte-eq10-clause-value c =
    sym (position_or_len_is is_line_feed c.args.bytes.now c.loop-i.i 0 (omega arith) c.loop-i.invariant (λ below. eq-eqb _ 10 c.if-byte-eq10.true))

pub returns-clause-value : goal.returns-clause-value
returns-clause-value c =
    sym (position_or_len_is is_line_feed c.args.bytes.now (length c.args.bytes.now) 0 (omega arith) (λ k below. c.loop-i.invariant k (omega arith)) (λ below. absurd (omega arith)))
