use Rattle.toml_span_laws.proofs.StringLaws.{unchanged}
use Rattle.toml_span_laws.proofs.strings.unchanged_is_the_text.Goals as goal

pub returns : goal.returns
returns c = λ text i j span source value multi h other none. unchanged text i j span source value multi h other none
