use Rattle.toml_span_lex.proofs.Common.{◌≡◌, drop}
use Rattle.toml_span_commands.specs.Configured.{has_stdin}
use Rattle.toml_span_commands.proofs.check.has_stdin.Given as goal

abbrev pub invariant-loop-file : goal.invariant-loop-file
invariant-loop-file l = has_stdin (drop l.file-index l.files) ≡ has_stdin l.files
