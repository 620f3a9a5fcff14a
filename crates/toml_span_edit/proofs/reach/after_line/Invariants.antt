use Rattle.toml_span_lex.proofs.Common.{◌≡◌}
use Rattle.toml_span_places.specs.Lines.{after_line}
use Rattle.toml_span_edit.proofs.reach.after_line.Given as goal

abbrev pub invariant-loop-at : goal.invariant-loop-at
invariant-loop-at l = after_line l.text l.at ≡ after_line l.text l.from
