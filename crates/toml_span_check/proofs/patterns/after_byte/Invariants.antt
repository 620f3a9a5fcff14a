use Rattle.std.proofs.Common.{◌≡◌, ◌++◌, ◌∷◌, drop, false}
use Rattle.toml_span_check.specs.Globs.{fits, set_of}
use Rattle.toml_span_check.specs.Patterns.{after}
use Rattle.toml_span_check.proofs.patterns.after_byte.Given as goal

abbrev pub invariant-loop-index : goal.invariant-loop-index
invariant-loop-index l =
    l.next.items ++ after (fits (set_of l.set)) (drop l.index l.marks) (drop l.index l.name)
    ≡ false ∷ after (fits (set_of l.set)) l.marks l.name
