use Rattle.toml_span_lex.proofs.Common.{◌≡◌, ◌++◌, drop, map}
use Rattle.toml_span_editor.specs.Keys.{mentions_of}
use Rattle.toml_span_places.specs.Keys.{key_mention}
use Rattle.toml_span_tree.specs.Nodes.{step_of}
use Rattle.toml_span_editor.proofs.keys.mentions_of.Given as goal

abbrev pub invariant-loop-key : goal.invariant-loop-key
invariant-loop-key l =
    l.found.items ++ mentions_of (map step_of l.path) (map key_mention (drop l.key-index l.keys))
    ≡ mentions_of (map step_of l.path) (map key_mention l.keys)
