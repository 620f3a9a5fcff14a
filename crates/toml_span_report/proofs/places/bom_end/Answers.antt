use Rattle.toml_span_lex.proofs.Common.{IsCharBoundary-start}
use Rattle.toml_span_report.proofs.places.bom_end.Goals as goal

pub returns-else-bytes-gt2-clause-boundary : goal.returns-else-bytes-gt2-clause-boundary
returns-else-bytes-gt2-clause-boundary c = IsCharBoundary-start c.args.text.now c.utf8.text
