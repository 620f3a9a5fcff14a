use Rattle.toml_span_lex.proofs.Common.{◌≡◌, map, take}
use Rattle.toml_span_read.specs.Data.{parsed_section}
use Rattle.toml_span_format.specs.Entries.{key_names}
use Rattle.toml_span_format.specs.Keys.{keys}
use Rattle.toml_span_format.proofs.keys.keys_of.Given as goal

abbrev pub invariant-loop-section : goal.invariant-loop-section
invariant-loop-section l = map key_names l.keys.items ≡ keys (map parsed_section (take l.section-index l.sections))
