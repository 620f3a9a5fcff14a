use Rattle.toml_span_read.proofs.InsideLemmas.{document_inside}
use Rattle.toml_span_laws.proofs.lines.sections_inside_the_text.Goals as goal

pub returns : goal.returns
returns c = λ text limit ss h. document_inside ss text limit h
