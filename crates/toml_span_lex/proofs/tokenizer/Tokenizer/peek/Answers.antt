use Rattle.toml_span_lex.proofs.Common.{refl}
use Rattle.toml_span_lex.proofs.tokenizer.Tokenizer.peek.Goals as goal

pub returns-clause-unchanged : goal.returns-clause-unchanged
returns-clause-unchanged c = refl

pub returns-clause-step : goal.returns-clause-step
returns-clause-step c = (c.step.new.self.at, rw c.copy-ahead.ensures at c.step.ensures.step, rw c.copy-ahead.ensures at c.step.ensures.borrows)
