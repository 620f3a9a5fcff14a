use Rattle.toml_span_lex.proofs.Common.{◌≡◌, map, take}
use Rattle.toml_span_read.specs.Earlier.{value_at}
use Rattle.toml_span_read.specs.code.Earlier.{holds}
use Rattle.toml_span_read.specs.Data.{parsed_assignment}
use Rattle.toml_span_read.proofs.earlier.Earlier.catch_up.Given as goal

-- the assignments so far are in the tree
abbrev pub invariant-loop-at : goal.invariant-loop-at
invariant-loop-at l =
    (l.self.fewest ≡ l.fn.self.fewest) × (holds l.self.tree ≡ value_at (map parsed_assignment (take l.at l.values)))
