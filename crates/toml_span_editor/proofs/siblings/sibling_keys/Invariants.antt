use Rattle.toml_span_editor.specs.Completions.{Replace}
use Rattle.toml_span_editor.proofs.siblings.sibling_keys.Given as goal

abbrev pub invariant-loop-sibling : goal.invariant-loop-sibling
invariant-loop-sibling l = Replace l.site.typed l.suggestions.items
