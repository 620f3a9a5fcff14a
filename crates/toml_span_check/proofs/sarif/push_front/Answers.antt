use Rattle.toml_span_lex.proofs.Common.{◌++◌, ◌∙◌, ap, codes, string_bytes}
use Rattle.toml_span_check.specs.Sarif.{front, level_of}
use Rattle.toml_span_report.specs.JsonLine.{clipped_json}
use Rattle.toml_span_report.specs.Visible.{quoted}
use Rattle.toml_span_check.proofs.Pieces.{seven}
use Rattle.toml_span_check.proofs.sarif.push_front.Goals as goal

pub returns : goal.returns
unfolding front
returns c =
    let report = c.args.report.now in
    seven (string_bytes c.args.out.now) (codes ",\n{\"ruleId\":") (quoted (string_bytes report.code)) (codes ",\"level\":\"") (level_of report.severity)
    (codes "\",\"message\":{\"text\":") (clipped_json (string_bytes report.message)) (codes "}") _ _ _ _ _ _ _
    c.in_ok-push_str.ensures.bytes
    (c.in_ok-push_quoted.ensures ∙ ap (λ s. string_bytes c.push_str.new.self ++ quoted s) c.as_str.ensures.value)
    c.in_ok-push_str-2.ensures.bytes
    (c.in_ok-push_str-3.ensures.bytes ∙ ap (λ s. string_bytes c.push_str-2.new.self ++ s) c.level_of.ensures)
    c.in_ok-push_str-4.ensures.bytes
    (c.in_ok-push_clipped.ensures ∙ ap (λ s. string_bytes c.push_str-4.new.self ++ clipped_json s) c.as_str-2.ensures.value)
    c.in_ok-push_str-5.ensures.bytes
