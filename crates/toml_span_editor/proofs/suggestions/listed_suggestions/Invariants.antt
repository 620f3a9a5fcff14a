use Rattle.toml_span_editor.specs.Completions.{Replace}
use Rattle.toml_span_editor.proofs.suggestions.listed_suggestions.Given as goal

abbrev pub invariant-loop-literal : goal.invariant-loop-literal
invariant-loop-literal l = Replace l.site.typed l.suggestions.items
