use Rattle.std.proofs.Common.{◌≡◌, ◌++◌, ◌∷◌, drop, false, map}
use Rattle.toml_span_check.specs.Globs.{codes_of}
use Rattle.toml_span_check.specs.Patterns.{after, name_matches}
use Rattle.toml_span_check.proofs.patterns.after_part.Given as goal

abbrev pub invariant-loop-index : goal.invariant-loop-index
invariant-loop-index l =
    l.next.items ++ after (name_matches (codes_of l.pattern)) (drop l.index l.marks) (map (λ part. part.now) (drop l.index l.path))
    ≡ false ∷ after (name_matches (codes_of l.pattern)) l.marks (map (λ part. part.now) l.path)
