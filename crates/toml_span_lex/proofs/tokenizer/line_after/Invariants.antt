use Rattle.toml_span_lex.proofs.Common.{◌≤◌, ◌<◌, ℕ}
use Rattle.toml_span_lex.specs.Text.{NoLineEnd}
use Rattle.toml_span_lex.proofs.tokenizer.line_after.Given as goal

abbrev pub invariant-loop-at : goal.invariant-loop-at
invariant-loop-at l = (n : ℕ) → l.from ≤ n → n < l.at → NoLineEnd l.text n
