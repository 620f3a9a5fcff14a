use Rattle.toml_span_lex.proofs.Common.{◌++◌, codes, take, HasWritten, IsPlainFormatter, flat_map}
use Rattle.toml_span_tree.proofs.listed.write_more.Given as goal

abbrev pub invariant-loop-item : goal.invariant-loop-item
invariant-loop-item g l =
    IsPlainFormatter l.initial.f
    → HasWritten g.W.Write.write_str_gives l.initial.f (flat_map (λ item. codes ", " ++ g.T.Item.shown item) (take l.item-index l.items)) l.f
