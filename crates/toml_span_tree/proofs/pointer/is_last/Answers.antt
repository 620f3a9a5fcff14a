use Rattle.toml_span_lex.proofs.Common.{ap, option_map}
use Rattle.toml_span_tree.proofs.Lent.{more-some}
use Rattle.toml_span_tree.proofs.pointer.is_last.Goals as goal

pub returns-in-Some-clause-more : goal.returns-in-Some-clause-more
returns-in-Some-clause-more c e = more-some _ _ _ _ c.cut.ensures (ap (option_map (λ rest. rest.now)) c.in-Some.is)
