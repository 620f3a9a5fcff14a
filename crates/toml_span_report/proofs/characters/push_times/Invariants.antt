use Rattle.toml_span_lex.proofs.Common.{◌≡◌, ◌++◌, string_bytes, replicate}
use Rattle.toml_span_report.proofs.characters.push_times.Given as goal

abbrev pub invariant-loop-count : goal.invariant-loop-count
invariant-loop-count l = string_bytes l.out ≡ string_bytes l.fn.out ++ replicate l._count l.c
