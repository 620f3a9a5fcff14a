use Rattle.toml_span_laws.proofs.OneReading.{value_one, assignment_one, tail_one, header_one, document_one}
use Rattle.toml_span_laws.proofs.reading.one_reading.Goals as goal

pub returns-clause-value : goal.returns-clause-value
returns-clause-value c = value_one

pub returns-clause-assignment : goal.returns-clause-assignment
returns-clause-assignment c = assignment_one

pub returns-clause-rest : goal.returns-clause-rest
returns-clause-rest c = tail_one

pub returns-clause-header : goal.returns-clause-header
returns-clause-header c = header_one

pub returns-clause-document : goal.returns-clause-document
returns-clause-document c = document_one
