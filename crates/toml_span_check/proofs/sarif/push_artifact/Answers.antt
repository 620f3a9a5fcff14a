use Rattle.toml_span_lex.proofs.Common.{codes, string_bytes}
use Rattle.toml_span_check.specs.Sarif.{artifact, uri}
use Rattle.toml_span_check.proofs.Pieces.{three}
use Rattle.toml_span_check.proofs.sarif.push_artifact.Goals as goal

pub returns : goal.returns
unfolding artifact
returns c =
    three (string_bytes c.args.out.now) (codes "{\"artifactLocation\":{\"uri\":\"") (uri c.args.name.now) (codes "\"}") _ _ _
    c.in_ok-push_str.ensures.bytes c.in_ok-push_uri.ensures c.in_ok-push_str-2.ensures.bytes
