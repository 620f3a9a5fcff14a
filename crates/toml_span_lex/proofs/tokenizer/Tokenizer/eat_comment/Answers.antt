use Rattle.toml_span_lex.proofs.Common.{arith, rules, refl, ◌≡◌, ◌<◌, length, get_or, false}
use Rattle.toml_span_lex.specs.Bytes.{hash, is_printed}
use Rattle.toml_span_lex.proofs.Runs.{neither_line, unprinted_ascii}
use Rattle.toml_span_lex.proofs.NoFault.{unprinted_begins}
use Rattle.toml_span_lex.proofs.Within.{after_char, comment_forward}
use Rattle.toml_span_lex.proofs.tokenizer.Tokenizer.eat_comment.Goals as goal

pub invariant_of-self-in-None : goal.invariant_of-self-in-None
invariant_of-self-in-None c =
    (c.char_at-c.ensures.boundary, after_char c.self.inside.input.now c.printed_end-end.result c.char_at-c.result.0 c.char_at-c.result.1 c.char_at-c.ensures.char)

pub returns-in-None-clause-text : goal.returns-in-None-clause-text
returns-in-None-clause-text c = rw (← c.self.view_is) refl

pub returns-in-None-clause-comment : goal.returns-in-None-clause-comment
returns-in-None-clause-comment c =
    let text = c.self.inside.input.now in
    let end = c.printed_end-end.result in
    let run = c.printed_end-end.ensures.run in
    let l : end < length text = omega (arith, run.within) in
    let unprinted : is_printed (get_or text end 0) ≡ false = run.stops l in
    let none = c.in-None.ensures.line_end in
    let same = neither_line text end c.char_at-c.result.0 c.char_at-c.result.1 none (unprinted_ascii _ unprinted) l c.char_at-c.ensures.char in
    let first : get_or text c.self.inside.at 0 ≡ hash = search rules in
    let on : c.self.inside.at < end = comment_forward text c.self.inside.at end first run in
    rw (← c.self.view_is) (end, _, _, ((first, (on, run, refl)), refl), (refl, c.char_at-c.ensures.char, rw same (unprinted_begins (get_or text end 0) unprinted none.0)))
