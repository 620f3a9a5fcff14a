use Rattle.toml_span_lex.proofs.Common.{◌≡◌, drop}
use Rattle.toml_span_commands.specs.Configured.{has_schemas}
use Rattle.toml_span_commands.proofs.configured.has_schemas.Given as goal

abbrev pub invariant-loop-file : goal.invariant-loop-file
invariant-loop-file l =
    has_schemas (drop l.file-index l.files) ≡ has_schemas l.files
