use Rattle.toml_span_check.specs.Fixing.{Drafts, work}
use Rattle.toml_span_check.proofs.fixing.drafted.Given as goal

abbrev pub invariant-loop-at : goal.invariant-loop-at
invariant-loop-at l = Drafts l.text l.pieces l.statements l.way l.at (work l.work)
