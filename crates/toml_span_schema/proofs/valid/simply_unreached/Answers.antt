use Rattle.std.proofs.Common.{arith, map, Some}
use Rattle.toml_span_schema.specs.Parts.{part_of}
use Rattle.toml_span_schema.specs.Valid.{reaches_simply}
use Rattle.toml_span_schema.proofs.Rests.{kept_end}
use Rattle.toml_span_schema.proofs.valid.simply_unreached.Goals as goal

pub returns : goal.returns
returns c =
    kept_end (λ p. Some (reaches_simply c.args.schema.now c.args.keyword.now p)) c.args.parts.now c.loop-part.part-index
    (map part_of c.loop-part.rest.items) (omega arith) c.loop-part.invariant
