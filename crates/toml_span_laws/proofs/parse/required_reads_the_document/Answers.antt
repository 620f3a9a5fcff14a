use Rattle.toml_span_laws.proofs.Fields.{required-at, required-over}
use Rattle.toml_span_laws.proofs.parse.required_reads_the_document.Goals as goal

pub returns : goal.returns
returns g c = record { reads = λ places name before after answer. required-at g.T.Deserialize.reads places name before after answer; over = λ places name before after answer. required-over g.T.Deserialize.reads places name before after answer }
