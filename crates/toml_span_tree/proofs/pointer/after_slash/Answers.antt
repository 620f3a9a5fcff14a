use Rattle.toml_span_lex.proofs.Common.{arith, strip_prefix_char}
use Rattle.toml_span_tree.proofs.pointer.after_slash.Goals as goal

pub returns-in-None : goal.returns-in-None
returns-in-None c path e =
    let other = rw c.in-None.is at (strip_prefix_char 47 c.args.pointer.now c.strip_prefix.result c.strip_prefix.ensures.cases (omega arith)) in
    absurd (other path e)
