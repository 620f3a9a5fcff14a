use Rattle.std.proofs.Common.{ap, ◌∙◌, ◌*◌, ◌%◌, ◌^◌}
use Rattle.std.proofs.lemmas.Nat.{mul-mod_first}
use Rattle.toml_span_schema.specs.Numbers.{value_after}
use Rattle.toml_span_schema.proofs.decimal.remainder_with_zeros.Goals as goal

pub returns : goal.returns
returns c =
    c.remainder_of_zeros.ensures
    ∙ ap (λ x. (x * 10 ^ c.args.zeros) % c.args.divisor) c.remainder.ensures.value
    ∙ mul-mod_first (value_after 0 c.args.digits.now) (10 ^ c.args.zeros) c.args.divisor
