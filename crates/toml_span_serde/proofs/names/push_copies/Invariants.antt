use Rattle.toml_span_lex.proofs.Common.{◌≡◌, ◌++◌, map, take, string_bytes}
use Rattle.toml_span_serde.proofs.names.push_copies.Given as goal

abbrev pub invariant-loop-text : goal.invariant-loop-text
invariant-loop-text l =
    map string_bytes l.texts.items ≡ map string_bytes l.initial.texts.items ++ map (λ text. text.now) (take l.text-index l.copied)
