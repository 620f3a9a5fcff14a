use Rattle.toml_span_lex.proofs.Common.{[]}
use Rattle.toml_span_laws.proofs.OneReading.{simple_one, key_one}
use Rattle.toml_span_laws.proofs.keys.one_key.Goals as goal

pub returns-clause-single : goal.returns-clause-single
returns-clause-single c = simple_one

pub returns-clause-dotted : goal.returns-clause-dotted
returns-clause-dotted c = λ header text limit i. key_one header text limit [] i
