use Rattle.toml_span_lex.proofs.Common.{take, HasWritten, IsPlainFormatter, flat_map}
use Rattle.toml_span_serde.specs.Texts.{further_text}
use Rattle.toml_span_serde.proofs.misfit.write_further.Given as goal

abbrev pub invariant-loop-step : goal.invariant-loop-step
invariant-loop-step g l =
    IsPlainFormatter l.initial.f
    → HasWritten g.W.Write.write_str_gives l.initial.f (flat_map further_text (take l.step-index l.steps)) l.f
