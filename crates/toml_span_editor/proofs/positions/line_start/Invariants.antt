use Rattle.toml_span_lex.proofs.Common.{◌≡◌, ◌+◌, ◌-◌, ◌≤◌, drop, length}
use Rattle.toml_span_editor.specs.Positions as spec
use Rattle.toml_span_editor.proofs.positions.line_start.Given as goal

abbrev pub invariant-lines : goal.invariant-lines
invariant-lines l = record {
  within : l.at ≤ length l.text;
  same : l.at + spec.line_start l.left (drop l.at l.text) ≡ spec.line_start l.line l.text;
}

abbrev pub decreases-lines : goal.decreases-lines
decreases-lines l = length l.text - l.at
