use Rattle.toml_span_mistakes.proofs.bytes.start_of.Given as goal

abbrev pub decreases-loop-start : goal.decreases-loop-start
decreases-loop-start l = l.start
