use Rattle.toml_span_check.specs.code.Every.{source_of}
use Rattle.toml_span_check.proofs.Errors.{error_of}
use Rattle.toml_span_check.proofs.every.error_at.Goals as goal

pub returns : goal.returns
returns c =
    error_of (source_of c.args.text.now c.args.reading.now) c.args.copy.now c.args.from c.args.error.now c.in_ok-made.made c.in_ok-report.report c.as_slice-pieces.result.now
    c.as_slice-statements.result.now c.is_clash-clash.result c.extent_of-extent.result c.as_slice-pieces.ensures.value c.as_slice-statements.ensures.value c.is_clash-clash.ensures
    c.extent_of-extent.ensures c.in_ok-made.ensures c.in_ok-report.ensures
