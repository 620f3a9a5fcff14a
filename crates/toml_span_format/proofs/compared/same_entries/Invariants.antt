use Rattle.toml_span_lex.proofs.Common.{◌≡◌, map, take}
use Rattle.toml_span_format.specs.Entries.{content, key_names}
use Rattle.toml_span_format.proofs.compared.same_entries.Given as goal

abbrev pub invariant-loop-i : goal.invariant-loop-i
invariant-loop-i l = map (content l.old.text.now l.old.pieces.items (map key_names l.old_keys)) (take l.i l.a) ≡ map (content l.new.text.now l.new.pieces.items (map key_names l.new_keys)) (take l.i l.b)
