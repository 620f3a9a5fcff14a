use Rattle.toml_span_lex.proofs.Common.{arith}
use Rattle.toml_span_places.proofs.OpenedLemmas.{counts_put}
use Rattle.toml_span_places.proofs.opened.add.Goals as goal

pub returns : goal.returns
returns c =
    counts_put c.args.opened.now.elements.entries _ c.in_ok-sorted.sorted c.in-Some.more _ c.in_ok-sorted.ensures
    (omega (arith, c.in_ok-added.ensures, c.in-Some.ensures)) c.in_ok-insert.ensures.entries
