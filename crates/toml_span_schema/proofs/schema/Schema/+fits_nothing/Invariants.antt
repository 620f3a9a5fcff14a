use Rattle.toml_span_schema.proofs.schema.Schema.+fits_nothing.Given as goal

abbrev pub decreases-fits_nothing : goal.decreases-fits_nothing
decreases-fits_nothing l = l.depth
