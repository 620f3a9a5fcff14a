use Rattle.toml_span_lex.proofs.Common.{rules, arith, ◌≡◌, ◌≤◌, ◌<◌, sym, ◌∙◌, true, false, get_or, length, ◌==◌, false≢true}
use Rattle.toml_span_read.specs.Numerals.{is_digit_in}
use Rattle.toml_span_read.specs.Numerals.{digits_end}
use Rattle.toml_span_read.proofs.NumberLemmas.{digit_some, digit_none, no_figure, reading_digit, reading_underscore, digits_read, digits_complete, no_digits_inside, no_digits_at_end, no_keylike_figure}
use Rattle.toml_span_read.proofs.numbers.digits_end.Goals as goal
use Rattle.toml_span_read.proofs.numbers.digits_end.Goals.{then-is_some, else-is_some+then-bytes-at-eq95+then-was_digit, else-bytes-at-eq95-via-then-bytes-at-eq95+else-was_digit, else-bytes-at-eq95-via-else-bytes-at-eq95}

pub returns-then-bytes-from-eq95-clause-end : goal.returns-then-bytes-from-eq95-clause-end
unfolding digits_end
returns-then-bytes-from-eq95-clause-end c = search rules

pub returns-then-was_digit-2-clause-end : goal.returns-then-was_digit-2-clause-end
returns-then-was_digit-2-clause-end c =
    let g : c.args.from ≤ c.loop-at.at = search rules in
    let d : is_digit_in c.args.radix (get_or c.args.text.now c.loop-at.at 0) ≡ false = search (rules, digit_none) in
    let u : (get_or c.args.text.now c.loop-at.at 0 == 95) ≡ false = elim c.else-bytes-at-eq95.branch [
      | else-bytes-at-eq95-via-then-bytes-at-eq95+else-was_digit w ↦ absurd (false≢true (sym w.if-was_digit.false ∙ c.if-was_digit-2.true))
      | else-bytes-at-eq95-via-else-bytes-at-eq95 w ↦ search rules
    ] in
    let w : c.loop-at.at ≤ length c.args.text.now = omega (arith, c.loop-at.auto, c.requires.within, c.loop-at-test) in
    sym (digits_complete _ _ c.args.piece.start _ _ _ (digits_read _ _ _ c.args.piece.end _ (rw c.if-was_digit-2.true at c.loop-at.invariant) g w (no_figure _ _ d u)))

pub returns-else-was_digit-2-clause-end : goal.returns-else-was_digit-2-clause-end
returns-else-was_digit-2-clause-end c =
    let g : c.args.from ≤ c.loop-at.at = search rules in
    let l : c.loop-at.at < c.args.piece.end = search rules in
    let d : is_digit_in c.args.radix (get_or c.args.text.now c.loop-at.at 0) ≡ false = search (rules, digit_none) in
    rw c.invalid_number-else-was_digit-2.ensures (sym (no_digits_inside _ _ c.args.piece.start _ _ _ _ c.loop-at.invariant c.if-was_digit-2.false g l d))

pub loop-at-preserved : goal.loop-at-preserved
loop-at-preserved c =
    let g : c.args.from ≤ c.loop-at.at = search rules in
    elim c.if-is_some.branch [
      | then-is_some w ↦
          let d : is_digit_in c.args.radix (get_or c.args.text.now c.loop-at.at 0) ≡ true = search (rules, digit_some) in
          rw w.was_digit-is (reading_digit _ _ _ _ _ _ c.loop-at.invariant g d)
      | else-is_some+then-bytes-at-eq95+then-was_digit w ↦
          let u : get_or c.args.text.now c.loop-at.at 0 ≡ 95 = search rules in
          rw w.was_digit-is (reading_underscore _ _ _ _ _ (rw w.if-was_digit.true at c.loop-at.invariant) g u)
    ]

pub returns-else-was_digit-3-clause-end : goal.returns-else-was_digit-3-clause-end
returns-else-was_digit-3-clause-end c =
    let e : c.loop-at.at ≡ c.args.piece.end = search rules in
    rw c.invalid_number-else-was_digit-3.ensures
    (sym (no_digits_at_end _ _ c.args.piece.start _ _ _ (rw e at c.loop-at.invariant) c.if-was_digit-3.false c.requires.end c.requires.last))

pub returns-then-was_digit-3-clause-end : goal.returns-then-was_digit-3-clause-end
returns-then-was_digit-3-clause-end c =
    let e : c.loop-at.at ≡ c.args.piece.end = search rules in
    let d = digits_read _ _ _ _ _ (rw (e, c.if-was_digit-3.true) at c.loop-at.invariant) c.requires.end c.requires.within
    (no_keylike_figure c.args.radix (get_or c.args.text.now c.args.piece.end 0) c.requires.last) in
    sym (digits_complete _ _ c.args.piece.start _ _ _ d)
