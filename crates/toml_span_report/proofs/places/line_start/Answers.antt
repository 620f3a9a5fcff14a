use Rattle.toml_span_lex.proofs.Common.{◌≡◌, arith, nat_tests, IsCharBoundary-start, common_steps}
use Rattle.toml_span_report.proofs.PlaceLemmas.{line_start-step, line_start-zero, after_feed}
use Rattle.toml_span_report.proofs.places.line_start.Goals as goal

pub loop-start-preserved : goal.loop-start-preserved
loop-start-preserved c = grind (arith, nat_tests, common_steps, line_start-step)

pub returns-else-bytes-start-ne10-clause-value : goal.returns-else-bytes-start-ne10-clause-value
returns-else-bytes-start-ne10-clause-value c = grind (arith, nat_tests, common_steps, line_start-step)

pub returns-else-bytes-start-ne10-clause-boundary : goal.returns-else-bytes-start-ne10-clause-boundary
returns-else-bytes-start-ne10-clause-boundary c = grind (arith, nat_tests, common_steps, after_feed)

pub returns-after-loop-start-clause-value : goal.returns-after-loop-start-clause-value
returns-after-loop-start-clause-value c =
    let first : c.loop-start.start ≡ 0 = omega arith in
    let zero = line_start-zero c.args.text.now in
    grind (arith, nat_tests)

pub returns-after-loop-start-clause-boundary : goal.returns-after-loop-start-clause-boundary
returns-after-loop-start-clause-boundary c =
    let first : c.loop-start.start ≡ 0 = omega arith in
    rw first (IsCharBoundary-start c.args.text.now c.utf8.text)

pub returns-else-start-first-clause-value : goal.returns-else-start-first-clause-value
returns-else-start-first-clause-value c = grind (arith, nat_tests, common_steps, line_start-step)
