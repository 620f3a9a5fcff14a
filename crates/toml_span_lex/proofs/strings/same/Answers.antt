use Rattle.toml_span_lex.proofs.PieceLemmas.{slice_join}
use Rattle.toml_span_lex.proofs.strings.same.Goals as goal

pub returns-in-None-clause-ok : goal.returns-in-None-clause-ok
returns-in-None-clause-ok c = λ q v k. rw (rw c.in-None.is at k) (slice_join c.args.text.now c.args.from c.args.at c.args.next c.requires.forward c.requires.on)
