use Rattle.toml_span_format.proofs.Texts.{same_texts}
use Rattle.toml_span_format.proofs.tokens.same_texts.Goals as goal

pub returns : goal.returns
returns c = same_texts c.args.a.now c.args.b.now c.eq.result c.eq.ensures
