use Rattle.toml_span_lex.proofs.Common.{HasWritten, IsPlainFormatter, flat_map}
use Rattle.toml_span_tree.specs.Listed.{quoted_char}
use Rattle.toml_span_tree.proofs.listed.write_quoted_chars.Given as goal

abbrev pub invariant-loop-c : goal.invariant-loop-c
invariant-loop-c g l =
    IsPlainFormatter l.initial.f
    → HasWritten g.W.Write.write_str_gives l.initial.f (flat_map quoted_char l.yielded) l.f
