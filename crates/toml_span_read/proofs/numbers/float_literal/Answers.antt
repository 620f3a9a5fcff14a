use Rattle.toml_span_lex.proofs.Common.{rules, arith, ◌≡◌, ◌+◌, ◌∷◌, get_or, refl, ◌∙◌, slice_range}
use Rattle.toml_span_read.proofs.NumberLemmas.{slice_cons, slice_ascii}
use Rattle.toml_span_read.proofs.NumberReads.{float_on}
use Rattle.toml_span_read.proofs.Places.{after_byte}
use Rattle.toml_span_read.proofs.numbers.float_literal.Goals as goal

pub range-requires-clause-start_boundary : goal.range-requires-clause-start_boundary
range-requires-clause-start_boundary c = λ _. after_byte c.args.text.now c.args.at c.utf8.text (search rules) (search rules)

pub range-requires-else-byte_at-eq43-clause-start_le_end : goal.range-requires-else-byte_at-eq43-clause-start_le_end
range-requires-else-byte_at-eq43-clause-start_le_end c = omega (arith, float_on c.args.text.now c.args.at c.args.end c.requires.float)

pub returns-then-byte_at-eq43-clause-ascii : goal.returns-then-byte_at-eq43-clause-ascii
returns-then-byte_at-eq43-clause-ascii c =
    let on = float_on c.args.text.now c.args.at c.args.end c.requires.float in
    let v = c.range.ensures.value in
    λ k. rw v (slice_ascii c.args.text.now c.args.at (c.args.at + 1) c.args.end k c.requires.float (omega arith) (omega (arith, on)))

pub returns-then-byte_at-eq43-clause-cleaned : goal.returns-then-byte_at-eq43-clause-cleaned
returns-then-byte_at-eq43-clause-cleaned c =
    let text = c.args.text.now in
    let on = float_on text c.args.at c.args.end c.requires.float in
    let p : get_or text c.args.at 0 ≡ 43 = search rules in
    let e : slice_range text c.args.at c.args.end ≡ 43 ∷ slice_range text (c.args.at + 1) c.args.end = slice_cons text c.args.at c.args.end on.0 on.1 ∙ (rw p refl) in
    rw (c.range.ensures.value, e) refl

pub returns-else-byte_at-eq43-clause-ascii : goal.returns-else-byte_at-eq43-clause-ascii
returns-else-byte_at-eq43-clause-ascii c =
    let on = float_on c.args.text.now c.args.at c.args.end c.requires.float in
    let v = c.range-else-byte_at-eq43.ensures.value in
    λ k. rw v (slice_ascii c.args.text.now c.args.at c.args.at c.args.end k c.requires.float (omega arith) (omega (arith, on)))
