use Rattle.toml_span_lex.proofs.Common.{rules, arith, ◌≡◌, ◌≤◌, ◌-◌, true, get_or, refl, is_ascii_digit}
use Rattle.toml_span_read.proofs.ShortIntegers.{few_more}
use Rattle.toml_span_read.proofs.numbers.few_digits.Goals as goal

pub loop-at-preserved : goal.loop-at-preserved
loop-at-preserved c =
    let f : c.args.from ≤ c.loop-at.at = omega (arith, c.loop-at.auto) in
    let d : is_ascii_digit (get_or c.args.text.now c.loop-at.at 0) ≡ true = search rules in
    let e : c.from.result ≡ get_or c.args.text.now c.loop-at.at 0 - 48 = search rules in
    record {
      read = few_more c.args.text.now c.args.from c.loop-at.at c.loop-at.value _ f d (rw e refl) c.loop-at.invariant.read;
      small = search rules;
    }
