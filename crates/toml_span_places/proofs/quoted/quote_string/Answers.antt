use Rattle.toml_span_read.specs.Again.{ReadsAsString}
use Rattle.toml_span_places.specs.Quoted.{quoted}
use Rattle.toml_span_places.proofs.QuotedAgain.{if_text, reads_string}
use Rattle.toml_span_places.proofs.quoted.quote_string.Goals as goal

pub returns-clause-reads : goal.returns-clause-reads
returns-clause-reads c = if_text (ReadsAsString c.args.text.now) c.spelled_string.result (quoted c.args.text.now) (reads_string c.args.text.now c.utf8.text) c.spelled_string.ensures
