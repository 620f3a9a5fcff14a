use Rattle.toml_span_lex.proofs.Common.{◌≡◌, ◌++◌, map}
use Rattle.std.specs.Prelude.{filter_map}
use Rattle.toml_span_read.specs.Data.{parsed_section}
use Rattle.toml_span_places.specs.Keys.{document_keys, mentioned_key, key_mention}
use Rattle.toml_span_places.specs.Mentions.{mentioned}
use Rattle.toml_span_places.proofs.keys.key_places.Given as goal

abbrev pub invariant-loop-mention : goal.invariant-loop-mention
invariant-loop-mention l =
    map key_mention l.out.items ++ filter_map (mentioned_key l.text) (map mentioned l.mention-iterator.rest.items)
    ≡ document_keys l.text (map parsed_section l.sections)
