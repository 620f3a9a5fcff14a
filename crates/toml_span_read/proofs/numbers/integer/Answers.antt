use Rattle.toml_span_lex.proofs.Common.{rules, ◌≡◌, None}
use Rattle.toml_span_read.specs.Numerals.{magnitude}
use Rattle.toml_span_read.specs.Numerals.{integer, signed}
use Rattle.toml_span_read.proofs.NumberLemmas.{signed_past}
use Rattle.toml_span_read.proofs.numbers.integer.Goals as goal
use Rattle.toml_span_read.proofs.numbers.integer.Goals.{in-Some, in-None}

pub returns-in-None-value : goal.returns-in-None-value
unfolding integer
returns-in-None-value c =
    let n : signed c.args.negative (magnitude c.args.radix c.args.text.now c.args.from c.args.piece.end) ≡ None = elim c.match-magnitude.branch [
      | in-Some w ↦ search rules
      | in-None w ↦ signed_past c.args.negative _ (search rules)
    ] in
    rw (c.invalid_number.ensures, n)
