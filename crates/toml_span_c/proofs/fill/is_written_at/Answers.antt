use Rattle.toml_span_lex.proofs.Common.{◌≡◌, ◌<◌, length, arith, nat_tests, common_steps}
use Rattle.toml_span_c.proofs.Cuts.{uncut-differs}
use Rattle.toml_span_c.proofs.fill.is_written_at.Goals as goal

pub returns-else-span-document : goal.returns-else-span-document
returns-else-span-document c =
    let past : c.args.span.start ≡ c.args.span.end → length c.args.document.now < c.args.span.end = λ same. grind (arith, c.if-span-document.either, same) in
    let differs = uncut-differs c.args.document.now c.args.text.now c.args.span c.utf8.document c.utf8.text past c.in-None.ensures.cases in
    grind (arith, nat_tests, common_steps, differs, past)
