-- The tables of a document, one for each mention, in the order of the text.
use Rattle.std.specs.Prelude.{true, List, map, filter, filter_map, Option, option_map}
use Rattle.toml_span_lex.specs.declared.span.Span.{Span}
use Rattle.toml_span_tree.specs.Nodes.{step_of}
use Rattle.toml_span_tree.specs.Path.{Path}
use Rattle.toml_span_read.specs.Data.{ParsedSection}
use Rattle.toml_span_read.specs.Paths.{same_path}
use Rattle.toml_span_places.specs.Mentions.{Mentioned, mentions, path_of}
use Rattle.toml_span_places.specs.declared.tables.TableForm.{TableForm}
use Rattle.toml_span_places.specs.declared.tables.TablePlace.{TablePlace}

-- a mention of a table: the path of the table, how the text names it, and where
pub record TableMention : Type 0 where
  pub path : Path
  pub form : TableForm
  pub span : Span

-- a `TablePlace` as plain data
abbrev pub table_mention : TablePlace → TableMention
table_mention place = record { path = map step_of place.path.items; form = place.form; span = place.span }

abbrev pub table_of : Mentioned → Option TableMention
table_of m = option_map (λ form. record { path = path_of m; form = form; span = m.1.span }) m.1.form

-- the tables that the sections `bs` name, one for each mention, in the order of the text
abbrev pub document_tables : List ParsedSection → List TableMention
document_tables bs = filter_map table_of (mentions true bs)

-- the form of each mention of the table at the path `p`
abbrev pub forms_at : Path → List TableMention → List TableForm
forms_at p tables = map (λ t. t.form) (filter (λ t. same_path t.path p) tables)
