use Rattle.toml_span_lex.proofs.Common.{true, false}
use Rattle.toml_span_read.proofs.ValueRead.{truth_read, number_bare, letters_number, other_read}
use Rattle.toml_span_read.proofs.values.word.Goals as goal

pub returns-in-True-clause-scalar : goal.returns-in-True-clause-scalar
returns-in-True-clause-scalar c =
    truth_read true c.truth.result c.args.text.now c.as_bytes.result.now c.args.at _ c.truth.ensures c.as_bytes.ensures.value c.requires.no_date c.requires.no_number c.keylike_end-end.ensures.run c.in-True.ensures

pub returns-in-False-clause-scalar : goal.returns-in-False-clause-scalar
returns-in-False-clause-scalar c =
    truth_read false c.truth-in-False.result c.args.text.now c.as_bytes.result.now c.args.at _ c.truth-in-False.ensures c.as_bytes.ensures.value c.requires.no_date c.requires.no_number c.keylike_end-end.ensures.run c.in-False.ensures

pub returns-in-Special-clause-scalar : goal.returns-in-Special-clause-scalar
returns-in-Special-clause-scalar c =
    number_bare c.number.result c.args.text.now c.args.at c.requires.no_date (letters_number c.args.text.now c.as_bytes.result.now c.args.at _ c.as_bytes.ensures.value c.keylike_end-end.ensures.run c.in-Special.ensures) c.number.ensures.number

pub returns-in-Other-clause-scalar : goal.returns-in-Other-clause-scalar
returns-in-Other-clause-scalar c =
    other_read c.args.text.now c.as_bytes.result.now c.args.at _ c.as_bytes.ensures.value c.requires.no_date c.requires.no_number c.keylike_end-end.ensures.run c.in-Other.ensures
