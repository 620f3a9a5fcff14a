use Rattle.toml_span_lex.proofs.Common.{◌≡◌, drop}
use Rattle.toml_span_lookup.specs.Findings.{guide_at}
use Rattle.toml_span_lookup.proofs.lookup.Lookup.guide_at.Given as goal

abbrev pub invariant-loop-used : goal.invariant-loop-used
invariant-loop-used l = guide_at (drop l.used-index l.self.used.items) l.path ≡ guide_at l.self.used.items l.path
