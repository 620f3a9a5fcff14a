use Rattle.std.proofs.Common.{arith}
use Rattle.toml_span_laws.proofs.StatementLaws.{document_statements}
use Rattle.toml_span_laws.proofs.statements.statements_of_a_document.Goals as goal

pub returns : goal.returns
returns c = λ text limit sections pieces statements l spelled cover split. document_statements text limit sections pieces statements (omega (arith, l)) spelled cover split
