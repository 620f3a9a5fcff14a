use Rattle.toml_span_laws.proofs.ReadAgain.{flat-string, tree-string, tree-itself}
use Rattle.toml_span_laws.proofs.parse.strings_show_the_text.Goals as goal

pub returns : goal.returns
returns c = record { flat = flat-string; tree = tree-string; unchanged = tree-itself }
