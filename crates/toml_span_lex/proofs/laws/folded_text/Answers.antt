use Rattle.toml_span_lex.proofs.Folded.{folded_step}
use Rattle.toml_span_lex.proofs.laws.folded_text.Goals as goal

pub returns : goal.returns
returns c = folded_step
