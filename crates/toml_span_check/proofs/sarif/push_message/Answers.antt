use Rattle.toml_span_lex.proofs.Common.{codes, string_bytes}
use Rattle.toml_span_check.specs.Sarif.{message}
use Rattle.toml_span_check.proofs.Pieces.{three}
use Rattle.toml_span_check.proofs.sarif.push_message.Goals as goal
use Rattle.toml_span_report.specs.JsonLine.{clipped_json}

pub returns : goal.returns
unfolding message
returns c =
    three (string_bytes c.args.out.now) (codes ",\"message\":{\"text\":") (clipped_json c.args.message.now) (codes "}") _ _ _
    c.in_ok-push_str.ensures.bytes c.in_ok-push_clipped.ensures c.in_ok-push_str-2.ensures.bytes
