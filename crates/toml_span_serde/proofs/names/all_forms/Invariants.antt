use Rattle.toml_span_lex.proofs.Common.{◌≡◌, map, take, string_bytes, flat_map}
use Rattle.toml_span_serde.specs.Names.{forms_read}
use Rattle.toml_span_serde.proofs.names.all_forms.Given as goal

abbrev pub invariant-loop-name : goal.invariant-loop-name
invariant-loop-name l = map string_bytes l.texts.items ≡ flat_map forms_read (take l.name-index l.names)
