use Rattle.toml_span_read.proofs.NumberReads.{number_further}
use Rattle.toml_span_laws.proofs.numbers.number_ends.Goals as goal

pub returns : goal.returns
returns c = λ i j s h. number_further s c.args.text.now i j c.utf8.text h
