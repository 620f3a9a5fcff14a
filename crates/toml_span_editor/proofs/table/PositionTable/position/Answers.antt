use Rattle.toml_span_lex.proofs.Common.{◌≡◌, ◌*◌, ◌/◌, ◌-◌, ap, ◌∙◌, drop, get_or, arith}
use Rattle.toml_span_editor.specs.Positions.{position_of, position_from, first}
use Rattle.toml_span_editor.proofs.PositionLemmas.{position_from-to}
use Rattle.toml_span_editor.proofs.table.PositionTable.position.Goals as goal

pub returns-in-Some : goal.returns-in-Some
returns-in-Some c =
    let table = c.args.self.now in
    let k = c.args.at / 16 in
    let mark = c.in-Some.position.now in
    let place = c.in-Some.ensures.lookup in
    let here : c.in-Some.position.now ≡ position_of table.encoding table.text.now (k * 16) =
    place.1 ∙ ap (λ xs. get_or xs k mark) c.deref.ensures.value ∙ table.marked k mark (rw c.deref.ensures.value at place.3.0) in
    c.advanced.ensures
    ∙ ap (λ p. position_from table.encoding p (c.args.at - k * 16) (drop (k * 16) table.text.now)) here
    ∙ position_from-to table.encoding first table.text.now (k * 16) c.args.at (omega arith)
