use Rattle.toml_span_lex.proofs.Common.{YieldsList-end, rules}
use Rattle.std.proofs.lemmas.Iterator.Adapters.{YieldsList-from_vec}
use Rattle.toml_span_check.proofs.Shows.{shows_all, shows_more, shows_none}
use Rattle.toml_span_check.proofs.fixable.shown.Goals as goal

pub loop-report-init : goal.loop-report-init
loop-report-init c = shows_none c.args.text.now c.as_slice-pieces.result.now c.as_slice-statements.result.now c.new-made.result.items c.new-made.ensures.items

pub loop-report-preserved : goal.loop-report-preserved
loop-report-preserved c =
    shows_more c.args.text.now c.as_slice-pieces.result.now c.as_slice-statements.result.now c.loop-report.yielded c.loop-report.made.items c.push.new.self.items c.in-Some.report c.in_ok-without_unmade.field-0
    c.loop-report.invariant c.in_ok-without_unmade.ensures c.in_ok-push.ensures.items

pub returns : goal.returns
returns c =
    let end = YieldsList-end (YieldsList-from_vec {s = c.into_iter-report-iterator.result} c.args.reports.items (search rules) (search rules))
    c.loop-report.yielded c.loop-report.report-iterator c.loop-report.yielded_by c.next.result c.next.new.self c.in-None.is c.next.ensures.steps in
    shows_all c.args.text.now c.as_slice-pieces.result.now c.in_ok-reading.reading.pieces.items c.as_slice-statements.result.now c.in_ok-reading.reading.statements.items c.args.reports.items c.loop-report.yielded c.loop-report.made.items
    c.in_ok-reading.ensures c.as_slice-pieces.ensures.value c.as_slice-statements.ensures.value c.loop-report.invariant end.0
