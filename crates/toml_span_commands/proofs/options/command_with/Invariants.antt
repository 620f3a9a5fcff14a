use Rattle.std.proofs.Common.{◌≡◌, drop}
use Rattle.clap.specs.Words.{app_of}
use Rattle.toml_span_commands.specs.Options.{plain, with_options}
use Rattle.toml_span_commands.proofs.options.command_with.Given as goal

abbrev pub invariant-loop-option : goal.invariant-loop-option
invariant-loop-option l =
    with_options (app_of l.command) (drop l.option-index l.options) ≡ with_options plain l.options
