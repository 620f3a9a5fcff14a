use Rattle.toml_span_lex.proofs.Common.{◌≡◌, drop, map}
use Rattle.std.specs.List.{list_any}
use Rattle.toml_span_edit.specs.Converted.{is_converted}
use Rattle.toml_span_places.specs.Tables.{document_tables, table_mention}
use Rattle.toml_span_read.specs.Data.{parsed_section}
use Rattle.toml_span_edit.proofs.forms.has_converted.Given as goal

abbrev pub invariant-loop-place : goal.invariant-loop-place
invariant-loop-place l =
    let old = document_tables (map parsed_section l.old) in
    let new = document_tables (map parsed_section l.new) in
    list_any (is_converted l.conversion l.at l.text old new) (map table_mention l.place-items)
    ≡ list_any (is_converted l.conversion l.at l.text old new) (map table_mention (drop l.place-index l.place-items))
