use Rattle.toml_span_lex.proofs.Common.{◌≡◌, ◌≤◌, ℕ, ◌+◌, not, take, ◌==◌, count_by}
use Rattle.std.specs.List.{suffix_len}
use Rattle.toml_span_lex.proofs.lines.line_info.Given as goal

abbrev pub invariant-loop-i : goal.invariant-loop-i
invariant-loop-i l = record {
  line_is : l.line ≡ count_by (λ (c : ℕ). c == 10) (take l.i l.text);
  few : l.line ≤ l.i;
  column_is : l.start + suffix_len (λ (c : ℕ). not (c == 10)) (take l.i l.text) ≡ l.i;
}
