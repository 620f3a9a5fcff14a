use Rattle.toml_span_lex.proofs.Common.{◌≡◌}
use Rattle.toml_span_format.specs.Entries.{has_directive}
use Rattle.toml_span_format.proofs.entries.has_directive.Given as goal

abbrev pub invariant-loop-at : goal.invariant-loop-at
invariant-loop-at l = has_directive l.text l.pieces l.first l.end ≡ has_directive l.text l.pieces l.at l.end
