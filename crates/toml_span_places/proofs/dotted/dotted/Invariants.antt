use Rattle.toml_span_lex.proofs.Common.{◌-◌, length, map, cow_str_bytes, IsCharBoundary}
use Rattle.toml_span_places.specs.code.Dotted.{AfterSegments}
use Rattle.toml_span_places.proofs.dotted.dotted.Given as goal

abbrev pub invariant-steps : goal.invariant-steps
invariant-steps l = record {
  boundary : IsCharBoundary l.path l.at;
  after : AfterSegments l.path (map cow_str_bytes l.parts.items) l.at;
}

abbrev pub decreases-steps : goal.decreases-steps
decreases-steps l = length l.path - l.at
