use Rattle.std.proofs.Common.{◌≡◌, ℕ, List, ◌++◌, false, string_bytes}
use Rattle.toml_span_schema.specs.Patterns.{translated_from}
use Rattle.toml_span_schema.proofs.patterns.translated.Given as goal

abbrev pub invariant-loop-c : goal.invariant-loop-c
invariant-loop-c l =
    (rest : List ℕ) →
    string_bytes l.out ++ translated_from l.state l.in_class rest ≡ translated_from 0 false (l.yielded ++ rest)
