use Rattle.toml_span_lex.proofs.Common.{◌≡◌, drop, map}
use Rattle.toml_span_editor.specs.Renaming.{key_at}
use Rattle.toml_span_places.specs.Keys.{key_mention}
use Rattle.toml_span_editor.proofs.keys.key_at.Given as goal

abbrev pub invariant-loop-key : goal.invariant-loop-key
invariant-loop-key l =
    key_at l.at (map key_mention (drop l.key-index l.keys)) ≡ key_at l.at (map key_mention l.keys)
