use Rattle.toml_span_report.specs.Explanations.{explained}
use Rattle.toml_span_report.proofs.explanations.explain.Goals as goal

pub returns : goal.returns
unfolding explained
returns c = c.text_in.ensures
