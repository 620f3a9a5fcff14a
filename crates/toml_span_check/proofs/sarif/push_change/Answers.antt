use Rattle.toml_span_lex.proofs.Common.{◌++◌, codes, flat_map, map, string_bytes}
use Rattle.toml_span_report.specs.Report.{repair_of}
use Rattle.toml_span_check.specs.Sarif.{artifact, change, replacement}
use Rattle.toml_span_check.proofs.Pieces.{six}
use Rattle.toml_span_check.proofs.sarif.push_change.Goals as goal

pub returns : goal.returns
unfolding change
returns c =
    let text = c.args.text.now in
    six (string_bytes c.args.out.now) (codes ",\"fixes\":[{\"artifactChanges\":[") (artifact c.args.name.now) (codes ",\"replacements\":[")
    (replacement text (repair_of c.args.first.now)) (flat_map (λ fix. codes "," ++ replacement text fix) (map repair_of c.args.more.now)) (codes "]}]}]") _ _ _ _ _ _
    c.in_ok-push_str.ensures.bytes c.in_ok-push_artifact.ensures c.in_ok-push_str-2.ensures.bytes c.in_ok-push_replacement.ensures
    c.in_ok-push_replacements.ensures c.in_ok-push_str-3.ensures.bytes
