use Rattle.toml_span_lex.proofs.Common.{◌≡◌, ◌++◌, map, keys}
use Rattle.toml_span_typed.specs.code.TableHelper.{key_text}
use Rattle.toml_span_typed.proofs.Tables.{key_place}
use Rattle.toml_span_typed.proofs.de_helpers.table_helper.key_names.Given as goal

abbrev pub invariant-loop-key : goal.invariant-loop-key
invariant-loop-key l = map key_text l.names.items ++ map key_place l.key-iterator ≡ map key_place (keys l.table)
