use Rattle.toml_span_lex.proofs.Common.{◌≡◌, map, take}
use Rattle.toml_span_read.specs.Data.{simple_key}
use Rattle.toml_span_format.specs.Entries.{key_names}
use Rattle.toml_span_format.specs.Keys.{part_names}
use Rattle.toml_span_format.proofs.keys.names_of.Given as goal

abbrev pub invariant-loop-part : goal.invariant-loop-part
invariant-loop-part l = key_names l.names ≡ part_names (map simple_key (take l.part-index l.key.inner.items))
