use Rattle.toml_span_lex.proofs.Common.{ℕ, List, subst}
use Rattle.toml_span_format.specs.Document.{SameDocument}
use Rattle.toml_span_c.proofs.format.toml_span_format.Goals as goal

pub returns-in-Tree-clause-made : goal.returns-in-Tree-clause-made
returns-in-Tree-clause-made c h =
    let made = c.put_formatted.ensures.made h in
    let same = subst (λ (t : List ℕ). SameDocument t made.0) c.in-Tree.ensures.1 made.1 in
    (made.0, ((c.in-Tree.root, c.in-Tree.ensures.2), same), made.2)
