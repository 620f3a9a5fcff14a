use Rattle.toml_span_laws.proofs.Apart.{flat-apart, names-apart, tree-apart}
use Rattle.toml_span_laws.proofs.parse.key_starts_differ.Goals as goal

pub returns : goal.returns
returns c = record { flat = flat-apart; names = names-apart; tree = tree-apart }
