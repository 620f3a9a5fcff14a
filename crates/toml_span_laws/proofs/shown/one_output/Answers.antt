use Rattle.toml_span_laws.proofs.OneAnswer.{one-output, one-run}
use Rattle.toml_span_laws.proofs.shown.one_output.Goals as goal

pub returns : goal.returns
returns c = record { answer = one-output; run = one-run }
