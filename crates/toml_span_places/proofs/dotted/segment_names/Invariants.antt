use Rattle.toml_span_lex.proofs.Common.{◌≡◌, map, take, cow_str_bytes}
use Rattle.toml_span_places.proofs.dotted.segment_names.Given as goal

abbrev pub invariant-loop-segment : goal.invariant-loop-segment
invariant-loop-segment l = map (λ name. name.now) l.names.items ≡ map cow_str_bytes (take l.segment-index l.segments)
