use Rattle.toml_span_lex.proofs.Common.{◌≡◌, ◌++◌, map}
use Rattle.std.specs.Prelude.{filter_map}
use Rattle.toml_span_read.specs.Data.{parsed_section}
use Rattle.toml_span_places.specs.Tables.{document_tables, table_mention, table_of}
use Rattle.toml_span_places.specs.Mentions.{mentioned}
use Rattle.toml_span_places.proofs.tables.table_places.Given as goal

abbrev pub invariant-loop-mention : goal.invariant-loop-mention
invariant-loop-mention l =
    map table_mention l.out.items ++ filter_map table_of (map mentioned l.mention-iterator.rest.items)
    ≡ document_tables (map parsed_section l.sections)
