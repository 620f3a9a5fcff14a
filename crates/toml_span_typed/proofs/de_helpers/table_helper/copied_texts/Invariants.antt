use Rattle.toml_span_lex.proofs.Common.{◌≡◌, map, take, string_bytes}
use Rattle.toml_span_typed.proofs.de_helpers.table_helper.copied_texts.Given as goal

abbrev pub invariant-loop-text : goal.invariant-loop-text
invariant-loop-text l = map string_bytes l.copies.items ≡ map (λ text. text.now) (take l.text-index l.texts)
