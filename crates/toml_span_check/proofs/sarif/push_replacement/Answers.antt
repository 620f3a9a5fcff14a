use Rattle.toml_span_lex.proofs.Common.{◌++◌, ◌∙◌, ap, codes, string_bytes}
use Rattle.toml_span_report.specs.Visible.{quoted}
use Rattle.toml_span_check.specs.Sarif.{region, replacement}
use Rattle.toml_span_check.proofs.Pieces.{five}
use Rattle.toml_span_check.proofs.sarif.push_replacement.Goals as goal

pub returns : goal.returns
unfolding replacement
returns c =
    let fix = c.args.replacement.now in
    five (string_bytes c.args.out.now) (codes "{\"deletedRegion\":") (region c.args.text.now fix.span)
    (codes ",\"insertedContent\":{\"text\":") (quoted (string_bytes fix.text)) (codes "}}") _ _ _ _ _
    c.in_ok-push_str.ensures.bytes c.in_ok-push_region.ensures c.in_ok-push_str-2.ensures.bytes
    (c.in_ok-push_quoted.ensures ∙ ap (λ s. string_bytes c.push_str-2.new.self ++ quoted s) c.as_str.ensures.value)
    c.in_ok-push_str-3.ensures.bytes
