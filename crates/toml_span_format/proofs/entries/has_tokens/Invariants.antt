use Rattle.toml_span_lex.proofs.Common.{◌≡◌}
use Rattle.toml_span_format.specs.Entries.{has_tokens}
use Rattle.toml_span_format.proofs.entries.has_tokens.Given as goal

abbrev pub invariant-loop-at : goal.invariant-loop-at
invariant-loop-at l = has_tokens l.pieces l.first l.end ≡ has_tokens l.pieces l.at l.end
