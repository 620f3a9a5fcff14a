-- The contents of two lists of reports, one after the other.
use Rattle.toml_span_lex.proofs.Common.{◌≡◌, List, ◌++◌, map, ap, ◌∙◌, map-append}
use Rattle.toml_span_report.specs.Report.{report_content}
use Rattle.toml_span_report.specs.declared.report.Report.{Report}

pub reports_append : (xs ys zs : List Report) → zs ≡ xs ++ ys → map report_content zs ≡ map report_content xs ++ map report_content ys
reports_append xs ys zs is = ap (map report_content) is ∙ map-append report_content xs ys
