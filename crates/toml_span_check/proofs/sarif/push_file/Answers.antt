use Rattle.toml_span_lex.proofs.Common.{codes, string_bytes}
use Rattle.toml_span_check.specs.Sarif.{artifact, file_alone}
use Rattle.toml_span_check.proofs.Pieces.{three}
use Rattle.toml_span_check.proofs.sarif.push_file.Goals as goal

pub returns : goal.returns
unfolding file_alone
returns c =
    three (string_bytes c.args.out.now) (codes "{\"physicalLocation\":") (artifact c.args.name.now) (codes "}}") _ _ _
    c.in_ok-push_str.ensures.bytes c.in_ok-push_artifact.ensures c.in_ok-push_str-2.ensures.bytes
