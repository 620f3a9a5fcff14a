use Rattle.std.proofs.lemmas.Str.Pattern.{split_once_first}
use Rattle.toml_span_lex.proofs.Common.{None, Some, arith, common_steps}
use Rattle.toml_span_commands.specs.Words.{name_of, value_in}
use Rattle.toml_span_commands.proofs.words.parts.Goals as goal

pub returns-in-Some-clause-name : goal.returns-in-Some-clause-name
unfolding name_of
returns-in-Some-clause-name c =
    (split_once_first 61 c.args.word.now (Some c.in-Some.parts) c.in-Some.ensures.cases (omega arith)).1

pub returns-in-Some-clause-value : goal.returns-in-Some-clause-value
unfolding value_in
returns-in-Some-clause-value c =
    (split_once_first 61 c.args.word.now (Some c.in-Some.parts) c.in-Some.ensures.cases (omega arith)).2

pub returns-in-None-clause-name : goal.returns-in-None-clause-name
unfolding name_of
returns-in-None-clause-name c =
    let none = split_once_first 61 c.args.word.now None c.in-None.ensures.cases (omega arith) in
    grind (arith, common_steps, none)

pub returns-in-None-clause-value : goal.returns-in-None-clause-value
unfolding value_in
returns-in-None-clause-value c =
    let none = split_once_first 61 c.args.word.now None c.in-None.ensures.cases (omega arith) in
    grind (arith, common_steps, none)
