use Rattle.toml_span_lex.proofs.Common.{◌≡◌, ◌-◌, if◌then◌else◌, ap, sym, refl, ◌∙◌, drop, arith}
use Rattle.toml_span_editor.proofs.PositionLemmas.{line_start-next, line_start-end, line_start-zero}
use Rattle.toml_span_editor.proofs.positions.line_start.Goals as goal
use Rattle.toml_span_editor.proofs.positions.line_start.Goals.{then-ends_line_at, else-ends_line_at}

pub lines-preserved : goal.lines-preserved
lines-preserved c =
    let fewer : c.if-ends_line_at.left ≡ (if c.ends_line_at.result then c.lines.left - 1 else c.lines.left) =
    elim c.if-ends_line_at.branch [
      | then-ends_line_at w ↦ w.left-is ∙ sym (ap (λ t. if t then c.lines.left - 1 else c.lines.left) w.if-ends_line_at.true)
      | else-ends_line_at w ↦ w.left-is ∙ sym (ap (λ t. if t then c.lines.left - 1 else c.lines.left) w.if-ends_line_at.false)
    ] in
    let next = line_start-next c.lines.left c.if-ends_line_at.left c.args.text.now c.lines.at _ _ c.ends_line_at.result (omega arith) (omega arith) refl refl c.ends_line_at.ensures fewer in
    record { within = omega arith; same = omega arith }

pub returns-else-at-text-clause-value : goal.returns-else-at-text-clause-value
returns-else-at-text-clause-value c =
    let none = line_start-end c.lines.left c.args.text.now c.lines.at (omega arith) in omega arith

pub returns-after-lines-clause-value : goal.returns-after-lines-clause-value
returns-after-lines-clause-value c =
    let none = line_start-zero c.lines.left (drop c.lines.at c.args.text.now) (omega arith) in omega (arith, c.lines.invariant.same)
