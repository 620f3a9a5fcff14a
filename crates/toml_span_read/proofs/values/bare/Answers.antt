use Rattle.toml_span_lex.proofs.Common.{◌≡◌, true, rules, get_or, or_left}
use Rattle.toml_span_read.specs.Faults.{begins_number}
use Rattle.toml_span_read.proofs.ValueRead.{number_bare}
use Rattle.toml_span_read.proofs.values.bare.Goals as goal

pub returns-then-byte-eq43-clause-scalar : goal.returns-then-byte-eq43-clause-scalar
returns-then-byte-eq43-clause-scalar c =
    let first : begins_number (get_or c.args.text.now c.args.at 0) ≡ true = search rules in
    number_bare c.number.result c.args.text.now c.args.at (search rules) (or_left _ _ first) c.number.ensures.number
