use Rattle.toml_span_lex.proofs.Common.{arith, nat_tests, common_steps}
use Rattle.toml_span_report.proofs.LineEndLemmas.{line_end-found}
use Rattle.toml_span_report.proofs.places.line_end.Goals as goal

pub returns-then-bytes-end-eq13-clause-value : goal.returns-then-bytes-end-eq13-clause-value
returns-then-bytes-end-eq13-clause-value c =
    let whole = line_end-found c.args.text.now _ _ c.args.at _ c.as_bytes-bytes.ensures.value c.split_at.ensures.back c.line_feed.ensures.value c.requires.0 c.line_feed.ensures.within in
    grind (arith, nat_tests)

pub returns-else-at-end-clause-value : goal.returns-else-at-end-clause-value
returns-else-at-end-clause-value c =
    let whole = line_end-found c.args.text.now _ _ c.args.at _ c.as_bytes-bytes.ensures.value c.split_at.ensures.back c.line_feed.ensures.value c.requires.0 c.line_feed.ensures.within in
    grind (arith, nat_tests, common_steps)
