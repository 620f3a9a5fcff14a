use Rattle.toml_span_lex.proofs.Common.{◌∙◌, List, ap, map}
use Rattle.toml_span_report.specs.Report.{repair_of}
use Rattle.toml_span_report.specs.declared.report.Replacement.{Replacement}
use Rattle.toml_span_check.specs.Fixable.{first_start}
use Rattle.toml_span_check.proofs.Shows.{shows_bare, shows_fixed}
use Rattle.toml_span_check.proofs.fixable.without_unmade.Goals as goal

pub returns-then-branch : goal.returns-then-branch
returns-then-branch c =
    let at = c.first_start-start.ensures ∙ ap (λ (rs : List Replacement). first_start (map repair_of rs)) c.as_slice.ensures.value in
    shows_fixed c.args.text.now c.args.pieces.now c.args.statements.now c.args.report c.faulty-statement.result c.first_start-start.result c.in_ok-is_fixable.field-0
    at c.faulty-statement.ensures c.in_ok-is_fixable.ensures c.if-branch.true

pub returns : goal.returns
returns c =
    let at = c.first_start-start.ensures ∙ ap (λ (rs : List Replacement). first_start (map repair_of rs)) c.as_slice.ensures.value in
    shows_bare c.args.text.now c.args.pieces.now c.args.statements.now c.args.report c.faulty-statement.result c.first_start-start.result c.in_ok-is_fixable.field-0 c.new.result
    at c.faulty-statement.ensures c.in_ok-is_fixable.ensures c.if-branch.false c.new.ensures.items
