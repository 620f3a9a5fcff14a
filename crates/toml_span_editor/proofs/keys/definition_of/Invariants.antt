use Rattle.toml_span_lex.proofs.Common.{◌≡◌, drop}
use Rattle.toml_span_editor.specs.Keys.{definition_or, first_span}
use Rattle.toml_span_editor.proofs.keys.definition_of.Given as goal

abbrev pub invariant-loop-mention : goal.invariant-loop-mention
invariant-loop-mention l =
    definition_or (first_span l.mentions) (drop l.mention-index l.mentions)
    ≡ definition_or (first_span l.mentions) l.mentions
