use Rattle.toml_span_lex.proofs.Common.{◌≡◌, ◌+◌, ◌≤◌, length, map, reverse, string_bytes, take}
use Rattle.toml_span_serde.specs.Tasks.{piece_of}
use Rattle.toml_span_serde.specs.Twice as spec
use Rattle.toml_span_serde.proofs.twice.earlier.Given as goal

abbrev pub invariant-loop-at : goal.invariant-loop-at
invariant-loop-at l =
    (spec.earlier (map string_bytes l.forms) l.depth (reverse (map piece_of (take l.at l.before)))
    ≡ spec.earlier (map string_bytes l.forms) 0 (reverse (map piece_of l.before)))
    × (l.depth + l.at ≤ length l.before)
