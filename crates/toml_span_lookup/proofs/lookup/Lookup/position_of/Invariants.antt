use Rattle.std.proofs.Common.{◌≡◌, drop}
use Rattle.toml_span_lookup.specs.Findings.{has_path}
use Rattle.toml_span_lookup.proofs.lookup.Lookup.position_of.Given as goal

abbrev pub invariant-loop-at : goal.invariant-loop-at
invariant-loop-at l = has_path (drop l.at l.self.used.items) l.path ≡ has_path l.self.used.items l.path
