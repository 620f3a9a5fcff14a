use Rattle.toml_span_lex.proofs.Common.{ap, inl, map, refl}
use Rattle.toml_span_report.specs.Report.{report_content}
use Rattle.toml_span_check.specs.code.Every.{source_of}
use Rattle.toml_span_check.proofs.Errors.{begins, reads_first}
use Rattle.toml_span_check.proofs.every.errors_from.Goals as goal

pub with_error-requires-clause-found : goal.with_error-requires-clause-found
with_error-requires-clause-found c =
    inl (begins (source_of c.args.text.now c.in_ok-reading.reading) _ c.new.ensures.items (ap (map report_content) c.new-2.ensures.items) refl c.in_ok-from_str.ensures.ok)

pub with_faults-requires-clause-found : goal.with_faults-requires-clause-found
with_faults-requires-clause-found c =
    let source = source_of c.args.text.now c.in_ok-reading.reading in
    reads_first source c.args.error.now c.in_ok-first.first _ _ c.in_ok-reading.ensures c.requires c.in_ok-first.ensures
    (begins source _ c.new.ensures.items (ap (map report_content) c.new-2.ensures.items) refl c.in_ok-from_str.ensures.ok) refl c.in_ok-found.ensures
