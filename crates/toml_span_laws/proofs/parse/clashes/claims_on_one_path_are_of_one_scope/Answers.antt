use Rattle.toml_span_laws.proofs.OneScope.{one-scope}
use Rattle.toml_span_laws.proofs.parse.clashes.claims_on_one_path_are_of_one_scope.Goals as goal

pub returns : goal.returns
returns c = one-scope
