use Rattle.toml_span_lex.proofs.Common.{refl, rules}
use Rattle.toml_span_lex.specs.Bytes.{is_keylike}
use Rattle.toml_span_lex.proofs.Runs.{after_line, begins_none, neither, run_forward}
use Rattle.toml_span_lex.proofs.tokenizer.other_at.Goals as goal

pub returns-then-is_crlf-clause-boundary : goal.returns-then-is_crlf-clause-boundary
returns-then-is_crlf-clause-boundary c = after_line c.args.input.now c.args.at c.utf8.input (search rules)

pub returns-then-is_keylike-clause-finds : goal.returns-then-is_keylike-clause-finds
returns-then-is_keylike-clause-finds c =
    let run = c.keylike_end-end.ensures.run in
    (run_forward is_keylike c.args.input.now c.args.at _ c.requires.within (search rules) run, run, c.range.ensures.value)

pub returns-else-is_keylike-clause-finds : goal.returns-else-is_keylike-clause-finds
returns-else-is_keylike-clause-finds c =
    (refl, c.char_at-c.ensures.char, begins_none c.args.input.now c.args.at _ _ (search rules) c.requires.within (neither _ _ (neither _ _ c.requires.other (search rules)) c.requires.quote) c.char_at-c.ensures.char)
