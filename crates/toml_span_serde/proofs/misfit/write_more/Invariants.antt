use Rattle.toml_span_lex.proofs.Common.{take, map, ◌++◌, codes, string_bytes, HasWritten, IsPlainFormatter, flat_map}
use Rattle.toml_span_mistakes.specs.UnknownKeys.{named}
use Rattle.toml_span_serde.proofs.misfit.write_more.Given as goal

abbrev pub invariant-loop-name : goal.invariant-loop-name
invariant-loop-name g l =
    IsPlainFormatter l.initial.f
    → HasWritten g.W.Write.write_str_gives l.initial.f
    (flat_map (λ name. codes ", " ++ named name) (map string_bytes (take l.name-index l.names))) l.f
