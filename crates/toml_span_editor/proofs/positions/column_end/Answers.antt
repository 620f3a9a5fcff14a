use Rattle.toml_span_lex.proofs.Common.{◌≡◌, ◌≢◌, ◌-◌, ap, ◌∙◌, inl, inr, get_or, arith}
use Rattle.toml_span_editor.specs.Positions.{units}
use Rattle.toml_span_editor.proofs.PositionLemmas.{column-stop, column-go, column-end}
use Rattle.toml_span_editor.proofs.positions.column_end.Goals as goal
use Rattle.toml_span_editor.proofs.positions.column_end.Goals.{then-byte-eq10-via-then-byte-eq10, then-byte-eq10-via-else-byte-eq10+then-byte-eq13, then-byte-eq10-via-else-byte-eq10+else-byte-eq13+then-left-width}

pub returns-then-byte-eq10-clause-value : goal.returns-then-byte-eq10-clause-value
returns-then-byte-eq10-clause-value c =
    let byte = c.byte_at-byte.ensures in
    let width : c.units-width.result ≡ units c.args.encoding (get_or c.args.text.now c.units.at 0) =
    c.units-width.ensures ∙ ap (units c.args.encoding) c.byte_at-byte.ensures in
    elim c.then-byte-eq10.branch [
      | then-byte-eq10-via-then-byte-eq10 w ↦
          let stop = column-stop c.args.encoding c.units.left c.args.text.now c.units.at (omega arith) (inl (omega arith)) in omega arith
      | then-byte-eq10-via-else-byte-eq10+then-byte-eq13 w ↦
          let stop = column-stop c.args.encoding c.units.left c.args.text.now c.units.at (omega arith) (inr (inl (omega arith))) in omega arith
      | then-byte-eq10-via-else-byte-eq10+else-byte-eq13+then-left-width w ↦
          let stop = column-stop c.args.encoding c.units.left c.args.text.now c.units.at (omega arith) (inr (inr (omega arith))) in omega arith
    ]

pub units-preserved : goal.units-preserved
units-preserved c =
    let byte = c.byte_at-byte.ensures in
    let width : c.units-width.result ≡ units c.args.encoding (get_or c.args.text.now c.units.at 0) =
    c.units-width.ensures ∙ ap (units c.args.encoding) c.byte_at-byte.ensures in
    let no_feed : get_or c.args.text.now c.units.at 0 ≢ 10 = omega arith in
    let no_return : get_or c.args.text.now c.units.at 0 ≢ 13 = omega arith in
    let go = column-go c.args.encoding c.units.left (c.units.left - c.units-width.result) c.args.text.now c.units.at (omega arith) no_feed no_return (omega arith) (omega arith) in
    record { within = omega arith; same = omega arith }

pub returns-clause-value : goal.returns-clause-value
returns-clause-value c =
    let stop = column-end c.args.encoding c.units.left c.args.text.now c.units.at (omega arith) in omega arith
