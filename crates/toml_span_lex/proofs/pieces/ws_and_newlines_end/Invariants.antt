use Rattle.toml_span_lex.proofs.Common.{◌≡◌, ◌≤◌, ◌<◌, ℕ, true}
use Rattle.toml_span_lex.specs.Pieces as spec
use Rattle.toml_span_lex.proofs.pieces.ws_and_newlines_end.Given as goal

abbrev pub invariant-loop-at : goal.invariant-loop-at
invariant-loop-at l = (k : ℕ) → l.from ≤ k → k < l.at → spec.is_ws_or_newline l.text k ≡ true
