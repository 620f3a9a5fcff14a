use Rattle.toml_span_lex.proofs.Common.{arith, ap, ◌∙◌, common_steps}
use Rattle.toml_span_tree.specs.Node.{Inner, node}
use Rattle.toml_span_tree.proofs.Values.{inner_view-Array}
use Rattle.toml_span_typed.proofs.Tuples.{refused_count}
use Rattle.toml_span_typed.proofs.deserialize.tuples.two.Goals as goal

pub returns-then-found-ne2-clause-err : goal.returns-then-found-ne2-clause-err
returns-then-found-ne2-clause-err c =
    let span = c.args.value.now.span in
    let is = c.in-Array.ensures.given ∙ ap (λ (i : Inner). node i span) (inner_view-Array c.in-Array.elements) in
    refused_count 2 c.in-Array.elements.items c.len-found.result _ _ _ is (grind (arith, common_steps)) (grind arith) c.miscounted.ensures
