use Rattle.toml_span_lex.proofs.Common.{arith, map}
use Rattle.toml_span_format.specs.Entries.{is_before, key_names, rank}
use Rattle.toml_span_format.proofs.EntryLemmas.{all_sorted, no_entry, sorted_more}
use Rattle.toml_span_format.proofs.compared.is_sorted.Goals as goal

pub loop-at-preserved : goal.loop-at-preserved
loop-at-preserved c =
    sorted_more is_before (rank (map key_names c.args.keys.now)) c.args.entries.now c.loop-at.at no_entry (omega arith) (omega arith) (c.is_in_order.ensures c.if-not-is_in_order.false) c.loop-at.invariant

pub returns : goal.returns
returns c = λ _. all_sorted is_before (rank (map key_names c.args.keys.now)) c.args.entries.now c.loop-at.at (omega arith) c.loop-at.invariant
