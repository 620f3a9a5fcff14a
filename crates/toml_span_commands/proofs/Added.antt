-- Commands that get one more argument.
use Rattle.toml_span_lex.proofs.Common.{◌≡◌, ◌∙◌, ℕ, ◌+◌, ◌<◌, List, ◌∷◌, Bor, add-one, ap, drop, drop-cons, false, get_or, length, sym}
use Rattle.clap.specs.Built.{AddsArg}
use Rattle.clap.specs.Words.{App, Rule, app_of, rule_of, with_rule}
use Rattle.clap.specs.declared.builder.arg.Arg.{Arg}
use Rattle.clap.specs.declared.builder.command.Command.{Command}
use Rattle.toml_span_commands.specs.Options.{rule, with_options}
use Rattle.toml_span_commands.specs.declared.options.Kind.{Kind}

pub added : (old new : Command) (a : Arg) → AddsArg old a new → a.global ≡ false
    → app_of new ≡ with_rule (app_of old) (rule_of a)
added old new a adds own = adds.shape own

-- the program with the options from the position k on, after the first of them
pub one-more : (app next : App) (options : List (Bor (List ℕ) × Kind)) (k : ℕ) (d : Bor (List ℕ) × Kind) (r : Rule)
    → k < length options → r ≡ rule (get_or options k d).0.now (get_or options k d).1 → next ≡ with_rule app r
    → with_options next (drop (k + 1) options) ≡ with_options app (drop k options)
one-more app next options k d r within is grown =
    let rest = drop (k + 1) options in
    let first : drop k options ≡ get_or options k d ∷ rest = rw add-one (drop-cons options k d within) in
    ap (λ (a : App). with_options a rest) (grown ∙ ap (with_rule app) is) ∙ sym (ap (with_options app) first)
