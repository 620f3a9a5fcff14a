use Rattle.toml_span_lex.proofs.Common.{◌≡◌, ◌++◌, drop, map}
use Rattle.toml_span_read.specs.Data.{simple_key}
use Rattle.toml_span_places.specs.Newer.{key_forms}
use Rattle.toml_span_places.proofs.newer.push_keys.Given as goal

abbrev pub invariant-loop-key : goal.invariant-loop-key
invariant-loop-key l =
    l.out.items ++ key_forms l.text (map simple_key (drop l.key-index l.keys))
    ≡ l.fn.out.items ++ key_forms l.text (map simple_key l.keys)
