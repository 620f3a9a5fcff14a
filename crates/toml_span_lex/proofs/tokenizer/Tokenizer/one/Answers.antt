use Rattle.toml_span_lex.proofs.Within.{after_char}
use Rattle.toml_span_lex.proofs.tokenizer.Tokenizer.one.Goals as goal

pub invariant_of-self : goal.invariant_of-self
invariant_of-self c =
    (c.char_at-c.ensures.boundary, after_char c.self.inside.input.now c.self.inside.at c.char_at-c.result.0 c.char_at-c.result.1 c.char_at-c.ensures.char)
