use Rattle.toml_span_schema.proofs.schema.Schema.+push_listed.Given as goal

abbrev pub decreases-push_listed : goal.decreases-push_listed
decreases-push_listed l = l.depth
