use Rattle.toml_span_lex.proofs.Common.{◌≡◌, ◌+◌, ◌-◌, ◌≤◌, drop, length}
use Rattle.toml_span_editor.specs.Positions as spec
use Rattle.toml_span_editor.proofs.positions.column_end.Given as goal

abbrev pub invariant-units : goal.invariant-units
invariant-units l = record {
  within : l.at ≤ length l.text;
  same : l.at + spec.column l.encoding l.left (drop l.at l.text)
      ≡ l.start + spec.column l.encoding l.character (drop l.start l.text);
}

abbrev pub decreases-units : goal.decreases-units
decreases-units l = length l.text - l.at
