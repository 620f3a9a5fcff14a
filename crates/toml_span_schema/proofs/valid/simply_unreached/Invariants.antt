use Rattle.std.proofs.Common.{drop, map, Some}
use Rattle.toml_span_schema.specs.Parts.{part_of}
use Rattle.toml_span_schema.specs.Valid.{reaches_simply}
use Rattle.toml_span_schema.proofs.Rests.{Kept}
use Rattle.toml_span_schema.proofs.valid.simply_unreached.Given as goal

abbrev pub invariant-loop-part : goal.invariant-loop-part
invariant-loop-part l =
    Kept (λ p. Some (reaches_simply l.schema l.keyword p)) (map part_of l.parts) (map part_of l.rest.items) (map part_of (drop l.part-index l.parts))
