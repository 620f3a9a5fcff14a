use Rattle.toml_span_laws.proofs.StringLaws.{span_cuts}
use Rattle.toml_span_laws.proofs.strings.span_is_the_content.Goals as goal

pub returns : goal.returns
returns c = λ text i j span source value multi h other. span_cuts text i j span source value multi h other
