use Rattle.std.proofs.lemmas.List.Sums.{suffix_len-le-length}
use Rattle.toml_span_lex.proofs.Common.{arith, nat_tests, common_steps}
use Rattle.toml_span_lex.proofs.lines.line_and_byte.Goals as goal

pub overflow_add-result-2 : goal.overflow_add-result-2
overflow_add-result-2 c = grind (arith, nat_tests, common_steps, suffix_len-le-length)
