use Rattle.toml_span_lex.proofs.Common.{codes, string_bytes, decimal}
use Rattle.toml_span_check.specs.Sarif.{lines}
use Rattle.toml_span_check.proofs.Pieces.{four-titled}
use Rattle.toml_span_check.proofs.sarif.push_lines.Goals as goal

pub returns : goal.returns
unfolding lines
returns c =
    let start = c.args.start in
    let end = c.args.end in
    four-titled (string_bytes c.args.out.now) (codes "{\"startLine\":") (decimal start.0) (codes ",\"startColumn\":") (decimal start.1)
    (codes ",\"endLine\":") (decimal end.0) (codes ",\"endColumn\":") (decimal end.1) _ _ _ _
    c.in_ok-push_number.ensures c.in_ok-push_number-2.ensures c.in_ok-push_number-3.ensures c.in_ok-push_number-4.ensures
