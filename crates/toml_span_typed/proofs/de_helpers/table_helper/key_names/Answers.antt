use Rattle.toml_span_lex.proofs.Common.{◌≡◌, map, ◌∙◌, arith, keys, common_steps}
use Rattle.toml_span_typed.specs.code.TableHelper.{key_text}
use Rattle.toml_span_typed.proofs.Tables.{key_place, names-of_keys}
use Rattle.toml_span_typed.proofs.de_helpers.table_helper.key_names.Goals as goal

pub returns : goal.returns
returns c =
    let all : map key_text c.loop-key.names.items ≡ map key_place (keys c.args.table.now) = grind (arith, common_steps) in
    all ∙ names-of_keys c.args.table.now.entries
