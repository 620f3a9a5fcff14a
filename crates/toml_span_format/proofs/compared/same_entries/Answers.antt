use Rattle.toml_span_lex.proofs.Common.{arith}
use Rattle.toml_span_format.proofs.EntryLemmas.{all_the_same, no_entry, one_more_same}
use Rattle.toml_span_format.proofs.compared.same_entries.Goals as goal

pub loop-i-preserved : goal.loop-i-preserved
loop-i-preserved c =
    one_more_same _ _ c.args.a.now c.args.b.now c.loop-i.i no_entry no_entry (omega arith) (omega arith) (c.in_ok-same_entry.ensures c.if-not-branch.false) c.loop-i.invariant

pub returns : goal.returns
returns c = λ _. all_the_same _ _ c.args.a.now c.args.b.now c.loop-i.i (omega arith) (omega arith) c.loop-i.invariant
