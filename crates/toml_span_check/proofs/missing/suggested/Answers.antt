use Rattle.toml_span_lex.proofs.Common.{◌∙◌, ◌++◌, [], ap, sym, codes, map, option_map, string_bytes}
use Rattle.toml_span_report.specs.Names.{nearest}
use Rattle.toml_span_report.specs.Report.{report_content}
use Rattle.toml_span_tree.specs.Value.{inner_of, members_view, view}
use Rattle.toml_span_check.specs.Missing.{with_step}
use Rattle.toml_span_check.proofs.Missings.{suggests}
use Rattle.toml_span_check.proofs.Pieces.{three}
use Rattle.toml_span_check.proofs.missing.suggested.Goals as goal

pub returns : goal.returns
returns c =
    let i = inner_of (view c.args.value.now) in
    let path = string_bytes c.args.path in
    let meant = c.in-Some-2.meant.now in
    let table = sym c.as_table.ensures ∙ ap (option_map (λ t. members_view t.now.entries)) c.in-Some.is in
    let names = ap (map (λ n. n.now)) c.as_slice.ensures.value ∙ c.in_ok-names.ensures in
    let similar = ap (nearest c.args.name.now) (sym names) ∙ sym c.in_ok-meant.ensures ∙ ap (option_map (λ n. n.now)) c.in-Some-2.is in
    let step = c.as_str.ensures.value ∙ c.in_ok-push_step.ensures in
    let help = three [] (codes "did you mean `") (with_step i path meant) (codes "`?") _ _ _ c.in_ok-help.ensures.ok
    (c.in_ok-push_str.ensures.bytes ∙ ap (λ t. string_bytes c.in_ok-help.help ++ t) step) c.in_ok-push_str-2.ensures.bytes in
    suggests c.help.result (report_content c.args.report) path i c.args.name.now meant _ _ table similar (c.as_str-2.ensures.value ∙ help) c.help.ensures
