use Rattle.toml_span_lex.proofs.Common.{◌≡◌, ◌+◌, ◌-◌, ◌∙◌, arith, length, ap}
use Rattle.toml_span_lex.specs.declared.span.Span.{Span}
use Rattle.toml_span_read.proofs.LineRead.{end_is}
use Rattle.toml_span_read.proofs.sections.last_end.Goals as goal

pub returns-in-Some : goal.returns-in-Some
returns-in-Some c =
    let some = c.in-Some.ensures.item.3.0 in
    let l : (length c.args.assignments.now - 1) + 1 ≡ length c.args.assignments.now = omega (arith, some) in
    ap (λ (z : Span). z.end) c.extent_of.ensures ∙ end_is c.args.assignments.now (length c.args.assignments.now - 1) c.args.without c.in-Some.last.now l c.in-Some.ensures.item.1
