use Rattle.toml_span_lex.proofs.Common.{◌∙◌, ap, true, arith}
use Rattle.clap.specs.Simple.{app_of_fields}
use Rattle.clap.specs.Words.{App, rule_of}
use Rattle.toml_span_commands.specs.Options.{with_options}
use Rattle.toml_span_commands.proofs.Added.{added, one-more}
use Rattle.toml_span_commands.proofs.options.command_with.Goals as goal

abbrev with_version : App → App
with_version app = record app { top = record app.top { has_version = true } }

pub loop-option-init : goal.loop-option-init
loop-option-init c =
    let bare = ap app_of_fields c.override_help.ensures ∙ ap app_of_fields c.in_ok-bin_name.ensures.0 ∙ c.new.ensures.app in
    let plain = ap app_of_fields c.version-command.ensures ∙ ap with_version bare in
    ap (λ (app : App). with_options app c.args.options.now) plain

pub loop-option-preserved : goal.loop-option-preserved
loop-option-preserved c =
    one-more _ _ c.args.options.now c.loop-option.option-index _ (rule_of c.arg.result) (omega arith) c.arg.ensures.rule
    (added _ _ _ c.in_ok-command.ensures c.arg.ensures.own)
    ∙ c.loop-option.invariant
