use Rattle.std.specs.Prelude.{All}
use Rattle.toml_span_schema.specs.Reports.{IsError}
use Rattle.toml_span_schema.proofs.schema.Schema.distinct.Given as goal

abbrev pub invariant-loop-violation : goal.invariant-loop-violation
invariant-loop-violation l = All IsError l.reports.items
