use Rattle.toml_span_lex.proofs.Common.{[], refl, option_and_then, ap, ◌∙◌}
use Rattle.toml_span_tree.specs.code.Pointer.{value_named}
use Rattle.toml_span_tree.proofs.Pointers.{pointed-found, pointer-empty}
use Rattle.toml_span_tree.proofs.laws.empty_pointer.Goals as goal

pub returns : goal.returns
returns c = λ n. pointed-found [] n ∙ ap (option_and_then (λ names. value_named names n)) (pointer-empty [] refl)
