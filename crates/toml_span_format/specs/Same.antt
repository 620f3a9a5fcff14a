-- Sections, keys and values without their spans, for comparisons.
use Rattle.std.specs.Prelude.{map}
use Rattle.toml_span_lex.specs.declared.span.Span.{Span}
use Rattle.toml_span_read.specs.Data.{SimpleKey, ParsedValue, parsed, ParsedInner, scalar, array, inline, ParsedItems}
use Rattle.toml_span_read.specs.Data.{no_items, item, ParsedPairs, no_pairs, pair, ParsedAssignment, ParsedSection}
use Rattle.toml_span_read.specs.Data.{from_to}

-- ---- sections, keys and values without their spans: each span is 0..0

abbrev pub no_span : Span
no_span = from_to 0 0

abbrev pub bare_key : SimpleKey → SimpleKey
bare_key k = record { name = k.name; span = no_span }

abbrev mutual
  pub bare_value : ParsedValue → ParsedValue
  bare_value (parsed i span) = parsed (bare_inner i) no_span

  pub bare_inner : ParsedInner → ParsedInner
  bare_inner (scalar s) = scalar s
  bare_inner (array vs) = array (bare_items vs)
  bare_inner (inline ps) = inline (bare_pairs ps)

  pub bare_items : ParsedItems → ParsedItems
  bare_items no_items = no_items
  bare_items (item v vs) = item (bare_value v) (bare_items vs)

  pub bare_pairs : ParsedPairs → ParsedPairs
  bare_pairs no_pairs = no_pairs
  bare_pairs (pair ks v extent ps) = pair (map bare_key ks) (bare_value v) no_span (bare_pairs ps)

abbrev pub bare_assignment : ParsedAssignment → ParsedAssignment
bare_assignment p = record { parts = map bare_key p.parts; value = bare_value p.value; extent = no_span }

abbrev pub bare_section : ParsedSection → ParsedSection
bare_section b = record {
  header = map bare_key b.header;
  array = b.array;
  header_span = no_span;
  extent = no_span;
  assignments = map bare_assignment b.assignments;
}
