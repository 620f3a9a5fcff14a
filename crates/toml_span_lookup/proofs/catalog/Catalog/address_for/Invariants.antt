use Rattle.std.proofs.Common.{◌≡◌, drop}
use Rattle.toml_span_lookup.specs.Catalog.{address_among}
use Rattle.toml_span_lookup.proofs.catalog.Catalog.address_for.Given as goal

abbrev pub invariant-loop-schema : goal.invariant-loop-schema
invariant-loop-schema l =
    address_among (drop l.schema-index l.self.schemas.items) l.file ≡ address_among l.self.schemas.items l.file
