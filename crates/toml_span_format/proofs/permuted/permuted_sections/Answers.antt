use Rattle.toml_span_lex.proofs.Common.{sym}
use Rattle.toml_span_read.specs.Data.{parsed_section}
use Rattle.toml_span_format.specs.Permuted.{PermutedSection}
use Rattle.toml_span_format.proofs.Permutations.{one_more}
use Rattle.toml_span_format.proofs.permuted.permuted_sections.Goals as goal

pub loop-i-preserved : goal.loop-i-preserved
loop-i-preserved c =
    one_more parsed_section PermutedSection c.args.a.now c.args.b.now c.loop-i.i c.index-a-i.result c.index-b-i.result c.loop-i-test.true
    (rw (← c.if-a-b.false) c.loop-i-test.true) (sym c.index-a-i.is) (sym c.index-b-i.is) (c.in_ok-permuted_section.ensures c.if-not-branch.false)
    c.loop-i.invariant
