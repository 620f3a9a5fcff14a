use Rattle.toml_span_lex.proofs.Common.{refl, sym, inr, ◌∙◌, false≢true}
use Rattle.toml_span_lex.specs.Tokens.{lexeme}
use Rattle.toml_span_lex.proofs.tokenizer.Tokenizer.eat_spanned.Goals as goal

pub returns-in-Some-clause-eats : goal.returns-in-Some-clause-eats
returns-in-Some-clause-eats c = (
  refl,
  inr (
    c.step.new.self.at,
    c.in-Some.span,
    lexeme c.in-Some.found,
    rw c.copy-ahead.ensures at (rw c.in-Some.is at c.in_ok-span.ensures.step),
    λ e. false≢true (sym c.if-is_same.false ∙ c.is_same.ensures.1 e),
  ),
)
