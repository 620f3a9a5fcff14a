use Rattle.toml_span_lex.proofs.Common.{◌≡◌, map, take, string_bytes}
use Rattle.toml_span_mistakes.proofs.unknown_keys.lent_names.Given as goal

abbrev pub invariant-loop-name : goal.invariant-loop-name
invariant-loop-name l = map (λ name. name.now) l.names.items ≡ map string_bytes (take l.name-index l.owned)
