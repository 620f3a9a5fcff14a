use Rattle.toml_span_lex.proofs.Common.{take, ◌++◌, codes, HasWritten, IsPlainFormatter, flat_map}
use Rattle.toml_span_serde.specs.Misfits.{words_of}
use Rattle.toml_span_serde.proofs.misfit.write_parted.Given as goal

abbrev pub invariant-loop-kind : goal.invariant-loop-kind
invariant-loop-kind g l =
    IsPlainFormatter l.initial.f
    → HasWritten g.W.Write.write_str_gives l.initial.f
    (flat_map (λ kind. codes ", " ++ words_of kind) (take l.kind-index l.kinds)) l.f
