use Rattle.toml_span_lex.proofs.Common.{◌≡◌, length, map, take, string_bytes, flat_map}
use Rattle.std.specs.Option.{option_to_list}
use Rattle.toml_span_mistakes.specs.UnknownKeys.{suggestion_for}
use Rattle.toml_span_mistakes.proofs.unknown_keys.suggestions.Given as goal

abbrev pub invariant-loop-name : goal.invariant-loop-name
invariant-loop-name l =
    map string_bytes l.help.items
    ≡ flat_map (λ name. option_to_list (suggestion_for (length l.names) (map (λ name. name.now) l.expected) name))
    (map (λ name. name.now) (take l.name-index l.names))
