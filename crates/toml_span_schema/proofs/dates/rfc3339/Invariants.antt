use Rattle.std.proofs.Common.{◌≡◌, ℕ, List, ◌++◌, string_bytes}
use Rattle.toml_span_schema.specs.Dates.{rfc3339_from}
use Rattle.toml_span_schema.proofs.dates.rfc3339.Given as goal

abbrev pub invariant-loop-c : goal.invariant-loop-c
invariant-loop-c l =
    (rest : List ℕ) → string_bytes l.out ++ rfc3339_from l.place rest ≡ rfc3339_from 0 (l.yielded ++ rest)
