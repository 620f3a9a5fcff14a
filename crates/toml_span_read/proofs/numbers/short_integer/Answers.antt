use Rattle.toml_span_lex.proofs.Common.{rules, ◌≡◌, ◌<◌, ◌+◌, false, get_or, ◌==◌}
use Rattle.toml_span_lex.specs.Bytes.{is_keylike}
use Rattle.toml_span_tree.specs.Node.{integer}
use Rattle.toml_span_read.specs.Data.{parsed_kind, scalar}
use Rattle.toml_span_read.proofs.NumberReads.{signed_sound}
use Rattle.toml_span_read.proofs.ShortIntegers.{short_made, short_further}
use Rattle.toml_span_read.proofs.numbers.short_integer.Goals as goal
use Rattle.toml_span_read.proofs.numbers.short_integer.Goals.{then-byte_at-eq48, else-byte_at-eq48}

pub returns-in-Some-clause-scalar : goal.returns-in-Some-clause-scalar
returns-in-Some-clause-scalar c =
    let text = c.args.text.now in
    let i = c.args.at in
    let j = c.few_digits-value.result.1 in
    let l : i < j = search rules in
    let lead : get_or text i 0 ≡ 48 → j ≡ i + 1 = λ z. elim c.if-byte_at-eq48.branch [ then-byte_at-eq48 w ↦ search rules | else-byte_at-eq48 w ↦ search rules ] in
    let k : is_keylike (get_or text j 0) ≡ false = search rules in
    let dot : (get_or text j 0 == 46) ≡ false = search rules in
    let colon : (get_or text j 0 == 58) ≡ false = search rules in
    let value = signed_sound false c.few_digits-value.result.0 c.in-Some.value (search rules) in
    let made : parsed_kind c.integer_kind.result ≡ scalar (integer c.in-Some.value) = search rules in
    short_made _ _ text i j _ made l c.few_digits-value.ensures.within c.few_digits-value.ensures.digits c.few_digits-value.ensures.value lead k dot colon value

pub returns-in-Some-clause-further : goal.returns-in-Some-clause-further
returns-in-Some-clause-further c =
    let l : c.args.at < c.few_digits-value.result.1 = search rules in
    short_further c.args.text.now c.args.at _ c.utf8.text c.requires l c.few_digits-value.ensures.within c.few_digits-value.ensures.digits
