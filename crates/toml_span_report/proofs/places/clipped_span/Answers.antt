use Rattle.toml_span_lex.proofs.Common.{arith, nat_tests, common_steps}
use Rattle.toml_span_report.proofs.places.clipped_span.Goals as goal

pub returns-clause-lies : goal.returns-clause-lies
returns-clause-lies c = record {
  forward = grind (arith, nat_tests, common_steps);
  within = c.ceil_boundary-end.ensures.boundary.0;
  begins = c.floor_boundary-start.ensures.boundary;
  ends = c.ceil_boundary-end.ensures.boundary;
}
