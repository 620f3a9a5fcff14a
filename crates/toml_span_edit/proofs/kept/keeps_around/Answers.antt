use Rattle.toml_span_lex.proofs.Common.{arith, take_rest}
use Rattle.toml_span_edit.proofs.Around.{same_around}
use Rattle.toml_span_edit.proofs.kept.keeps_around.Goals as goal

pub returns-then-is_same : goal.returns-then-is_same
returns-then-is_same c =
    let old = c.args.old.now in
    let new = c.args.new.now in
    let stop = c.saturating_sub-stop.result in
    λ e. same_around old new c.args.span stop (omega arith) (c.is_same.ensures c.if-is_same.true)
    (let back = c.is_same-then-is_same.ensures e in rw (take_rest old c.args.span.end, take_rest new stop) at back)
