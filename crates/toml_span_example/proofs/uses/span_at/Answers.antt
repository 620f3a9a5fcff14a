use Rattle.toml_span_lex.proofs.Common.{sym}
use Rattle.toml_span_tree.specs.Value.{view}
use Rattle.toml_span_example.proofs.uses.Conclusions.{reads-value, reads-nothing, span-place}
use Rattle.toml_span_example.proofs.uses.span_at.Goals as goal

pub returns-in-Some-clause-found : goal.returns-in-Some-clause-found
returns-in-Some-clause-found c =
    let value = c.in-Some.value.now in
    reads-value c.args.text.now c.args.pointer.now c.in_ok-root.root (view value) _ _ c.in_ok-root.ensures.answers (sym c.in-Some.ensures) (λ k span. span-place value k span)

pub returns-clause-found : goal.returns-clause-found
returns-clause-found c = reads-nothing c.args.text.now c.args.pointer.now c.in_ok-root.root _ c.in_ok-root.ensures.answers (sym c.in-None.ensures)
