use Rattle.toml_span_tree.proofs.DateTexts.{parts_of_text, text_of_parts}
use Rattle.toml_span_tree.proofs.laws.date_texts.Goals as goal

pub returns : goal.returns
returns c = λ text. (parts_of_text text, text_of_parts text)
