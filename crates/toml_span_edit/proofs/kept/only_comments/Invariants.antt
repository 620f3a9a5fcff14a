use Rattle.toml_span_lex.proofs.Common.{◌≡◌, drop, false}
use Rattle.toml_span_edit.specs.Kept.{only_comments}
use Rattle.toml_span_edit.proofs.kept.only_comments.Given as goal

abbrev pub invariant-loop-byte : goal.invariant-loop-byte
invariant-loop-byte l = only_comments false l.bytes ≡ only_comments l.is_within (drop l.byte-index l.bytes)
