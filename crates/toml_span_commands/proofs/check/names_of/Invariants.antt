use Rattle.toml_span_lex.proofs.Common.{◌≡◌, map, string_bytes, take}
use Rattle.toml_span_commands.specs.Configured.{shown_name}
use Rattle.toml_span_commands.proofs.check.names_of.Given as goal

abbrev pub invariant-loop-file : goal.invariant-loop-file
invariant-loop-file l = map (λ name. string_bytes name) l.names.items ≡ map shown_name (take l.file-index l.files)
