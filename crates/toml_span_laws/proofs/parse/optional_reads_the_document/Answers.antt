use Rattle.toml_span_laws.proofs.Fields.{tried-at, tried-over}
use Rattle.toml_span_laws.proofs.parse.optional_reads_the_document.Goals as goal

pub returns : goal.returns
returns g c = record { reads = λ places name before after answer. tried-at g.T.Deserialize.reads places name before after answer; over = λ places name before after answer. tried-over g.T.Deserialize.reads places name before after answer }
