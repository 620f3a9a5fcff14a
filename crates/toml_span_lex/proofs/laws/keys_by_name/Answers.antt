use Rattle.toml_span_lex.proofs.Common.{refl, cow_str_bytes}
use Rattle.toml_span_lex.proofs.Texts.{equal_text, text_equal, tie_equal, equal_tie}
use Rattle.toml_span_lex.proofs.laws.keys_by_name.Goals as goal

pub returns : goal.returns
returns c = λ a b.
    let x = cow_str_bytes a.name in
    let y = cow_str_bytes b.name in
    ((equal_text x y, text_equal x y), refl, (tie_equal x y, equal_tie x y))
