use Rattle.toml_span_lex.proofs.Common.{◌≡◌, true, arith, nat_tests, sym, length, get_or, position_or_len_is}
use Rattle.toml_span_report.specs.Places.{begins_character}
use Rattle.toml_span_report.proofs.places.next_start.Goals as goal
use Rattle.toml_span_report.proofs.places.next_start.Goals.{then-byte-lt128-via-then-byte-lt128, then-byte-lt128-via-else-byte-lt128+then-byte-ge192}

pub returns-then-byte-lt128-clause-value : goal.returns-then-byte-lt128-clause-value
returns-then-byte-lt128-clause-value c =
    let begins : begins_character (get_or c.args.bytes.now c.loop-i.i 0) ≡ true = elim c.then-byte-lt128.branch [
      | then-byte-lt128-via-then-byte-lt128 w ↦ grind (arith, nat_tests, w.if-byte-lt128.true)
      | then-byte-lt128-via-else-byte-lt128+then-byte-ge192 w ↦ grind (arith, nat_tests, w.if-byte-ge192.true)
    ] in
    sym (position_or_len_is begins_character c.args.bytes.now c.loop-i.i 0 (omega arith) c.loop-i.invariant (λ below. begins))

pub returns-clause-value : goal.returns-clause-value
returns-clause-value c =
    sym (position_or_len_is begins_character c.args.bytes.now (length c.args.bytes.now) 0 (omega arith) (λ k below. c.loop-i.invariant k (omega arith)) (λ below. absurd (omega arith)))
