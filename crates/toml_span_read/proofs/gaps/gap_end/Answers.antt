use Rattle.toml_span_lex.proofs.Common.{arith}
use Rattle.toml_span_read.proofs.Places.{gap_more}
use Rattle.toml_span_read.proofs.gaps.gap_end.Goals as goal

pub gap-preserved : goal.gap-preserved
gap-preserved c =
    let g = c.in-Some.ensures in
    record {
      forward = omega (arith, g.1.on);
      boundary = g.1.boundary;
      pieces = gap_more c.args.text.now c.args.from c.gap.at c.in-Some.next c.gap.invariant.pieces g.0;
    }
