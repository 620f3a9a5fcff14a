use Rattle.toml_span_lex.proofs.Common.{◌≡◌, map, take, string_bytes}
use Rattle.toml_span_serde.proofs.names.copied.Given as goal

abbrev pub invariant-loop-text : goal.invariant-loop-text
invariant-loop-text l = map string_bytes l.copy.items ≡ map string_bytes (take l.text-index l.texts)
