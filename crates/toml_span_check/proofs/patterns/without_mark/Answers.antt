use Rattle.toml_span_check.proofs.PatternLemmas.{unmarked}
use Rattle.toml_span_check.proofs.patterns.without_mark.Goals as goal

pub returns-in-None : goal.returns-in-None
unfolding lib.Utf8.encode
returns-in-None c = unmarked c.args.text.now c.in-None.ensures.cases
