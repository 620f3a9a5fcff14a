use Rattle.toml_span_lex.proofs.Common.{arith, sym}
use Rattle.toml_span_edit.proofs.Elements.{past_gone}
use Rattle.toml_span_edit.proofs.made.array_gone.Goals as goal

pub returns-in-None : goal.returns-in-None
returns-in-None c =
    let array = c.args.array.now in
    let small = array.small in
    let ok = array.ok in
    sym (past_gone _ array.items c.args.others.now.items c.in-None.ensures (omega (arith, small, ok.0, ok.1)))
