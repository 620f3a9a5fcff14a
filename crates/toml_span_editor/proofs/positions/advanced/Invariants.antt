use Rattle.toml_span_lex.proofs.Common.{◌≡◌, ◌-◌, drop}
use Rattle.toml_span_editor.specs.Positions.{position_from}
use Rattle.toml_span_editor.proofs.positions.advanced.Given as goal

abbrev pub invariant-loop-at : goal.invariant-loop-at
invariant-loop-at l = position_from l.encoding l.position (l.to - l.at) (drop l.at l.text)
    ≡ position_from l.encoding l.fn.position (l.to - l.from) (drop l.from l.text)
