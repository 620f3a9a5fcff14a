use Rattle.toml_span_lex.proofs.Common.{arith, refl, inr, IsCharBoundary-start}
use Rattle.toml_span_lex.proofs.Within.{after_char}
use Rattle.toml_span_lex.proofs.tokenizer.first_place.Goals as goal

pub char_at-c-requires-clause-boundary : goal.char_at-c-requires-clause-boundary
char_at-c-requires-clause-boundary c = IsCharBoundary-start c.args.text.now c.utf8.text

pub returns-then-c-eq65279-clause-whole : goal.returns-then-c-eq65279-clause-whole
returns-then-c-eq65279-clause-whole c = after_char c.args.text.now 0 c.char_at-c.result.0 c.char_at-c.result.1 c.char_at-c.ensures.char

pub returns-else-c-eq65279-clause-boundary : goal.returns-else-c-eq65279-clause-boundary
returns-else-c-eq65279-clause-boundary c = IsCharBoundary-start c.args.text.now c.utf8.text

pub returns-else-c-eq65279-clause-place : goal.returns-else-c-eq65279-clause-place
returns-else-c-eq65279-clause-place c = inr (refl, inr (c.char_at-c.result.0, c.char_at-c.result.1, c.char_at-c.ensures.char, c.if-c-eq65279.false))

pub returns-else-c-eq65279-clause-whole : goal.returns-else-c-eq65279-clause-whole
returns-else-c-eq65279-clause-whole c = λ k at. absurd (omega arith)
