use Rattle.std.proofs.Common.{◌≡◌, drop}
use Rattle.std.specs.List.{list_all}
use Rattle.toml_span_check.specs.Globs.{codes_of, is_star}
use Rattle.toml_span_check.proofs.globs.is_any.Given as goal

abbrev pub invariant-loop-code : goal.invariant-loop-code
invariant-loop-code l = list_all is_star (codes_of (drop l.code-index l.part)) ≡ list_all is_star (codes_of l.part)
