use Rattle.toml_span_lex.proofs.Common.{◌≡◌, map, take}
use Rattle.toml_span_c.specs.Edits.{names_of}
use Rattle.toml_span_c.proofs.edits.names.Given as goal

abbrev pub invariant-loop-segment : goal.invariant-loop-segment
invariant-loop-segment l = map (λ s. s.now) l.found.items ≡ names_of (take l.segment-index l.segments)
