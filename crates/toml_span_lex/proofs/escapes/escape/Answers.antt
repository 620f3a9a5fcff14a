use Rattle.toml_span_lex.proofs.Common.{arith, refl, inl, inr, get_or}
use Rattle.toml_span_lex.specs.Escapes.{opens_escape}
use Rattle.toml_span_lex.proofs.Runs.{after_ascii, char_fails}
use Rattle.toml_span_lex.proofs.EscapeLemmas.{simple_ascii, past_escape, closed}
use Rattle.toml_span_lex.proofs.escapes.escape.Goals as goal

pub returns-in-Some-clause-boundary : goal.returns-in-Some-clause-boundary
returns-in-Some-clause-boundary c = after_ascii c.args.text.now c.args.at _ refl c.utf8.text (omega arith) (simple_ascii _ c.in-Some.c (cc c.in-Some.ensures))

pub returns-else-len-gt0-clause-escape : goal.returns-else-len-gt0-clause-escape
returns-else-len-gt0-clause-escape c =
    inr (inl (_, refl, char_fails opens_escape c.args.text.now _ _ _ past_escape refl (closed (get_or c.args.text.now c.args.at 0) c.hex_len-len.result (cc c.in_default.ensures) (rw c.as_bytes-bytes.ensures.value at c.hex_len-len.ensures) c.if-len-gt0.false) c.char_at-c.ensures.char, c.char_at-c.ensures.char))

pub returns-else-len-gt0-clause-boundary : goal.returns-else-len-gt0-clause-boundary
returns-else-len-gt0-clause-boundary c = c.char_at-c.ensures.boundary
