use Rattle.toml_span_lex.proofs.Common.{◌∙◌, sym, arith, nat_tests, common_steps}
use Rattle.toml_span_serde.proofs.Counts.{passed, same-count, some-piece}
use Rattle.toml_span_serde.proofs.Rows.{ahead-same}
use Rattle.toml_span_serde.proofs.reader.ReaderFormat.skip.Goals as goal

pub returns-in_err-look-clause-value : goal.returns-in_err-look-clause-value
returns-in_err-look-clause-value c = λ n rest is. absurd (some-piece n rest (sym is ∙ c.in_err-look.ensures.none.0))

pub returns-in-Some-clause-value : goal.returns-in-Some-clause-value
returns-in-Some-clause-value c = λ n rest is. grind (arith, nat_tests, common_steps, ahead-same, passed, same-count)
