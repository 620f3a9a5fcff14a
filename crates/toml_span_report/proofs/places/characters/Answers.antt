use Rattle.toml_span_lex.proofs.Common.{rules, chars_from_encodes}
use Rattle.toml_span_report.proofs.places.characters.Goals as goal

pub returns-clause-value : goal.returns-clause-value
returns-clause-value c = search (rules, chars_from_encodes)
