use Rattle.toml_span_laws.proofs.ScalarTexts.{scalar_text_reads}
use Rattle.toml_span_laws.proofs.WrittenOver.{tree-text-reads}
use Rattle.toml_span_laws.proofs.again.scalar_texts.Goals as goal

pub returns : goal.returns
returns c = record { spelled = scalar_text_reads; tree = tree-text-reads }
