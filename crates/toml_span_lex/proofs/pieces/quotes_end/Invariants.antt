use Rattle.toml_span_lex.proofs.Common.{◌≡◌, ◌≤◌, ◌<◌, ℕ, true, get_or, ◌==◌}
use Rattle.toml_span_lex.proofs.pieces.quotes_end.Given as goal

abbrev pub invariant-loop-at : goal.invariant-loop-at
invariant-loop-at l = (k : ℕ) → l.from ≤ k → k < l.at → (get_or l.text k 0 == l.quote) ≡ true
