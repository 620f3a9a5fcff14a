use Rattle.toml_span_lex.proofs.Common.{rules, ◌≡◌, ◌≤◌, ◌^◌, false, get_or, refl, filter, digits_value}
use Rattle.toml_span_read.specs.Numerals.{is_digit_in}
use Rattle.toml_span_read.proofs.NumberLemmas.{sum_goes_on, sum_passes, sum_past}
use Rattle.toml_span_read.proofs.numbers.magnitude.Goals as goal
use Rattle.toml_span_read.proofs.numbers.magnitude.Goals.{in-Some+in_ok-value, in_default}

pub loop-byte-preserved : goal.loop-byte-preserved
loop-byte-preserved c = elim c.match-digit.branch [
  | in-Some+in_ok-value w ↦
      sum_goes_on _ _ _ _ _ c.loop-byte-test.true w.in-Some.ensures.0 (rw (w.value-is, w.in_ok-value.ensures, w.in-Some.ensures.1) refl) c.loop-byte.invariant
  | in_default w ↦
      let n : is_digit_in c.args.radix (get_or c.args.digits.now c.loop-byte.byte-index 0) ≡ false = search rules in
      rw w.value-is (sum_passes _ _ _ _ c.loop-byte-test.true n c.loop-byte.invariant)
]

pub returns-in_err-value : goal.returns-in_err-value
returns-in_err-value c =
    let h : 2 ^ 64 ≤ digits_value c.args.radix (filter (is_digit_in c.args.radix) c.args.digits.now) =
    sum_past _ _ _ _ _ c.loop-byte-test.true c.in-Some.ensures.0 c.in-Some.ensures.1 c.loop-byte.invariant c.in_err-value.ensures in
    search (rules, h)
