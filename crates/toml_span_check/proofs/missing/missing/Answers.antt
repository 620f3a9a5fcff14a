use Rattle.toml_span_lex.proofs.Common.{◌≡◌, ap, map, cow_str_bytes, option_map, rules}
use Rattle.toml_span_report.specs.Report.{report_content}
use Rattle.toml_span_tree.specs.Value.{view}
use Rattle.toml_span_check.specs.Missing.{nothing_there}
use Rattle.toml_span_check.proofs.Missings.{misses}
use Rattle.toml_span_check.proofs.missing.missing.Goals as goal

pub returns-in-Some : goal.returns-in-Some
returns-in-Some c =
    let is : report_content c.in_ok-report.report ≡ nothing_there c.args.pointer.now = search rules in
    misses c.explained.result _ c.args.pointer.now _ _ _ (view c.args.root.now) (ap (option_map (λ names. map cow_str_bytes names.now)) c.in-Some.is)
    c.new.ensures.bytes is c.explained.ensures
