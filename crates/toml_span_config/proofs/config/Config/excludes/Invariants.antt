use Rattle.std.proofs.Common.{◌≡◌, drop, take}
use Rattle.toml_span_config.specs.Config.{config, excludes, selects_below}
use Rattle.toml_span_config.proofs.config.Config.excludes.Given as goal

abbrev pub invariant-loop-at : goal.invariant-loop-at
invariant-loop-at l = selects_below (config l.self).2 (take l.at l.path) (drop l.at l.path) ≡ excludes (config l.self) l.path
