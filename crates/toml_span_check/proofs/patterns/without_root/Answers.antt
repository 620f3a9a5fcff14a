use Rattle.toml_span_check.proofs.PatternLemmas.{unrooted}
use Rattle.toml_span_check.proofs.patterns.without_root.Goals as goal

pub returns-in-None : goal.returns-in-None
unfolding lib.Utf8.encode
returns-in-None c = unrooted c.args.text.now c.in-None.ensures.cases
