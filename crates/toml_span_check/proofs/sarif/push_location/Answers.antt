use Rattle.toml_span_lex.proofs.Common.{◌++◌, ◌∙◌, ap, codes, string_bytes}
use Rattle.toml_span_check.specs.Sarif.{artifact, label_message, location, region}
use Rattle.toml_span_check.proofs.Pieces.{seven}
use Rattle.toml_span_check.proofs.sarif.push_location.Goals as goal

pub returns : goal.returns
unfolding location
returns c =
    let label = c.args.label.now in
    seven (string_bytes c.args.out.now) (codes "{\"physicalLocation\":") (artifact c.args.name.now) (codes ",\"region\":")
    (region c.args.text.now label.span) (codes "}") (label_message (string_bytes label.message)) (codes "}") _ _ _ _ _ _ _
    c.in_ok-push_str.ensures.bytes c.in_ok-push_artifact.ensures c.in_ok-push_str-2.ensures.bytes c.in_ok-push_region.ensures
    c.in_ok-push_str-3.ensures.bytes
    (c.in_ok-push_label_message.ensures ∙ ap (λ s. string_bytes c.push_str-3.new.self ++ label_message s) c.as_str.ensures.value)
    c.in_ok-push_str-4.ensures.bytes
