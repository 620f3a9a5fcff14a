use Rattle.toml_span_laws.proofs.FirstPair.{first-pair, reported-first}
use Rattle.toml_span_laws.proofs.parse.clashes.reported_is_first_by_place.Goals as goal

pub returns : goal.returns
returns c = λ text limit sections reported h. (first-pair text limit sections reported h, reported-first text limit sections reported h)
