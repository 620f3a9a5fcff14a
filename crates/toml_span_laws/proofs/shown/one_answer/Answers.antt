use Rattle.toml_span_laws.proofs.OneAnswer.{one-shown, not-refused, one-reported, one-refused}
use Rattle.toml_span_laws.proofs.shown.one_answer.Goals as goal

pub returns : goal.returns
returns c = record { document = one-shown; refused = not-refused; line = one-reported; reported = one-refused }
