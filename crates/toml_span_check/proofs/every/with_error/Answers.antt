use Rattle.toml_span_report.specs.Report.{report_content}
use Rattle.toml_span_check.specs.code.Every.{progress, source_of}
use Rattle.toml_span_check.proofs.Blanks.{adds_of, kept_at, without_is}
use Rattle.toml_span_check.proofs.every.with_error.Goals as goal

pub blanked-requires-clause-from : goal.blanked-requires-clause-from
blanked-requires-clause-from c =
    kept_at (source_of c.args.text.now c.args.reading.now) (progress c.args.found) c.as_str.result.now c.as_slice-pieces.result.now c.args.next.extent.statement.first c.offset_of-start.result
    c.utf8.text c.requires.reading c.requires.found c.as_str.ensures.value c.as_slice-pieces.ensures.value c.offset_of-start.ensures

pub blanked-requires-clause-to : goal.blanked-requires-clause-to
blanked-requires-clause-to c =
    kept_at (source_of c.args.text.now c.args.reading.now) (progress c.args.found) c.as_str.result.now c.as_slice-pieces.result.now c.args.next.extent.end c.offset_of-end.result
    c.utf8.text c.requires.reading c.requires.found c.as_str.ensures.value c.as_slice-pieces.ensures.value c.offset_of-end.ensures

pub returns : goal.returns
returns c =
    let source = source_of c.args.text.now c.args.reading.now in
    adds_of source c.args.next.extent (report_content c.args.next.report) c.args.next.place (progress c.args.found) _ _
    (without_is source c.args.next.extent _ c.as_str.result.now (progress c.args.found).blanked c.as_slice-pieces.result.now c.offset_of-start.result c.offset_of-end.result
    c.in_ok-found.ensures c.as_str.ensures.value c.as_slice-pieces.ensures.value c.offset_of-start.ensures c.offset_of-end.ensures)
    c.in_ok-push_new.ensures
