use Rattle.toml_span_lex.proofs.Common.{refl, rules}
use Rattle.toml_span_lex.proofs.Runs.{after_ascii, after_line, char_found, char_boundary}
use Rattle.toml_span_lex.proofs.text.char_at.Goals as goal

pub returns-then-is_crlf-clause-boundary : goal.returns-then-is_crlf-clause-boundary
returns-then-is_crlf-clause-boundary c = after_line c.args.text.now c.args.at c.utf8.text (search rules)

pub returns-then-byte-lt128-clause-boundary : goal.returns-then-byte-lt128-clause-boundary
returns-then-byte-lt128-clause-boundary c = after_ascii c.args.text.now c.args.at _ refl c.utf8.text c.requires.within (search rules)

pub returns-in-Some-clause-char : goal.returns-in-Some-clause-char
returns-in-Some-clause-char c =
    char_found c.args.text.now c.next.new.self.rest.now c.args.at c.len_utf8.result c.in-Some.c (search rules) c.len_utf8.ensures.value (let h = c.in-Some.ensures.steps in cc h.0)

pub returns-in-Some-clause-boundary : goal.returns-in-Some-clause-boundary
returns-in-Some-clause-boundary c =
    char_boundary c.args.text.now c.next.new.self.rest.now c.args.at c.len_utf8.result c.in-Some.c c.utf8.text c.requires.boundary c.len_utf8.ensures.value (let h = c.in-Some.ensures.steps in cc h.0)
