use Rattle.toml_span_report.specs.Strips.{strip_at}
use Rattle.toml_span_report.proofs.strips.strip_at.Goals as goal

pub returns : goal.returns
unfolding strip_at
returns c = cc (c.range.ensures.value, c.range-2.ensures.value, c.range-3.ensures.value)
