use Rattle.toml_span_lex.proofs.Common.{rules, refl, ◌≡◌, Ok, Err}
use Rattle.toml_span_read.specs.Numerals.{number, numeral}
use Rattle.toml_span_read.proofs.NumberReads.{numeral_reads, number_advances}
use Rattle.toml_span_read.proofs.numbers.number.Goals as goal

pub returns-in-Err-clause-advances : goal.returns-in-Err-clause-advances
returns-in-Err-clause-advances c = (numeral_reads c.args.text.now c.args.at c.requires.begins).told c.in-Err.fault (search rules)

pub returns-in-Err-clause-number : goal.returns-in-Err-clause-number
unfolding number
returns-in-Err-clause-number c =
    let h : numeral c.args.text.now c.args.at ≡ Err c.in-Err.fault = search rules in rw h refl

pub number_kind-requires-clause-end : goal.number_kind-requires-clause-end
number_kind-requires-clause-end c =
    (number_advances c.in-Ok.numeral c.args.text.now c.args.at c.in-Ok.end c.utf8.text c.requires.begins (search rules)).boundary

pub number_kind-requires-clause-here : goal.number_kind-requires-clause-here
number_kind-requires-clause-here c = (numeral_reads c.args.text.now c.args.at c.requires.begins).given (c.in-Ok.numeral, c.in-Ok.end) (search rules)

pub returns-in-Ok-number_kind-clause-advances : goal.returns-in-Ok-number_kind-clause-advances
returns-in-Ok-number_kind-clause-advances c = number_advances c.in-Ok.numeral c.args.text.now c.args.at c.in-Ok.end c.utf8.text c.requires.begins (search rules)

pub returns-in-Ok-number_kind-clause-number : goal.returns-in-Ok-number_kind-clause-number
unfolding number
returns-in-Ok-number_kind-clause-number c =
    let h : numeral c.args.text.now c.args.at ≡ Ok (c.in-Ok.numeral, c.in-Ok.end) = search rules in (_, c.in-Ok-number_kind.ensures, rw h refl)
