use Rattle.toml_span.proofs.Ordered.{one-each}
use Rattle.toml_span_laws.proofs.parse.ordered_has_one_each.Goals as goal

pub returns : goal.returns
returns c = one-each
