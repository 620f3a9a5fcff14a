use Rattle.toml_span_lex.proofs.Common.{◌≡◌, ◌++◌, codes, map, take, string_bytes, flat_map}
use Rattle.toml_span_mistakes.specs.UnknownKeys.{named}
use Rattle.toml_span_mistakes.proofs.unknown_keys.push_more.Given as goal

abbrev pub invariant-loop-name : goal.invariant-loop-name
invariant-loop-name l =
    string_bytes l.out
    ≡ string_bytes l.fn.out
    ++ flat_map (λ name. codes ", " ++ named name) (map (λ name. name.now) (take l.name-index l.names))
