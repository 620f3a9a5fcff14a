use Rattle.toml_span_lex.proofs.Common.{arith, refl, rules, ◌≡◌, ◌+◌, get_or}
use Rattle.toml_span_lex.proofs.Runs.{after_ascii, read_within}
use Rattle.toml_span_lex.proofs.MadeStrings.{third_quote}
use Rattle.toml_span_lex.proofs.strings.content_from.Goals as goal

pub returns-then-not-multi-clause-boundary : goal.returns-then-not-multi-clause-boundary
returns-then-not-multi-clause-boundary c = after_ascii c.args.text.now c.args.at _ refl c.utf8.text c.requires.within c.requires.ascii

pub returns-in-None-clause-boundary : goal.returns-in-None-clause-boundary
returns-in-None-clause-boundary c =
    let text = c.args.text.now in
    let third : get_or text (c.args.at + 2) 0 ≡ get_or text c.args.at 0 = third_quote text c.args.at (search rules) in
    after_ascii text (c.args.at + 2) _ (omega arith) c.utf8.text (read_within text (c.args.at + 2) (omega (arith, c.requires.some))) (omega (arith, c.requires.ascii))
