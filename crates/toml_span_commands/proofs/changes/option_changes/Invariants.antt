use Rattle.toml_span_lex.proofs.Common.{◌≡◌, vec_len}
use Rattle.toml_span_commands.proofs.changes.option_changes.Given as goal

abbrev pub invariant-loop-at : goal.invariant-loop-at
invariant-loop-at l = vec_len l.changes ≡ l.at
