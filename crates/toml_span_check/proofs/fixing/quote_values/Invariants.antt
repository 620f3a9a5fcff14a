use Rattle.toml_span_lex.proofs.Common.{◌≡◌, drop, map}
use Rattle.toml_span_places.specs.Replace.{edit_of}
use Rattle.toml_span_check.specs.Safety.{quote_values}
use Rattle.toml_span_check.proofs.fixing.quote_values.Given as goal

abbrev pub invariant-loop-edit : goal.invariant-loop-edit
invariant-loop-edit l =
    quote_values l.statement (map edit_of (drop l.edit-index l.edits)) ≡ quote_values l.statement (map edit_of l.edits)
