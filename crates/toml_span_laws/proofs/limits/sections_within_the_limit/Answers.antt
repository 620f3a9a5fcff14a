use Rattle.toml_span_laws.proofs.DepthLaws.{document_within}
use Rattle.toml_span_laws.proofs.limits.sections_within_the_limit.Goals as goal

pub returns : goal.returns
returns c = λ text limit ss h. document_within ss text limit h
