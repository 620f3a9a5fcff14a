use Rattle.toml_span_lex.proofs.Common.{◌≡◌, drop, map}
use Rattle.toml_span_commands.specs.Configured.{have_version, version_of}
use Rattle.toml_span_commands.proofs.configured.have_version.Given as goal

abbrev pub invariant-loop-file : goal.invariant-loop-file
invariant-loop-file l =
    have_version l.version (map version_of (drop l.file-index l.files)) ≡ have_version l.version (map version_of l.files)
