use Rattle.toml_span_lex.proofs.Common.{◌≡◌, ◌≤◌, ◌<◌, ◌-◌, ℕ, true, get_or, length}
use Rattle.toml_span_lex.specs.Bytes as spec
use Rattle.toml_span_lex.proofs.bytes.keylike_end.Given as goal

abbrev pub invariant-loop-start : goal.invariant-loop-start
invariant-loop-start l = record {
  forward : l.from ≤ l.start;
  within : l.start ≤ length l.text;
  passes : (k : ℕ) → l.from ≤ k → k < l.start → spec.is_keylike (get_or l.text k 0) ≡ true;
}

abbrev pub decreases-loop-start : goal.decreases-loop-start
decreases-loop-start l = length l.text - l.start

abbrev pub invariant-loop-at : goal.invariant-loop-at
invariant-loop-at l = (k : ℕ) → l.from ≤ k → k < l.at → spec.is_keylike (get_or l.text k 0) ≡ true
