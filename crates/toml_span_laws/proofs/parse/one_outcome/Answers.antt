use Rattle.toml_span_laws.proofs.Answered.{one-outcome, some-outcome}
use Rattle.toml_span_laws.proofs.parse.one_outcome.Goals as goal

pub returns : goal.returns
returns c = record { some = λ limit. some-outcome c.args.text.now limit (c.reading_gives.ensures.document limit); one = λ limit x y a b. one-outcome c.args.text.now limit x y a b }
