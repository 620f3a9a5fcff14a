-- The entries of a value at a site.
use Rattle.std.specs.Prelude.{ℕ, List, option_map}
use Rattle.toml_span_tree.specs.Value.{view}
use Rattle.toml_span_tree.specs.declared.value.Value.{Value}
use Rattle.toml_span_c.specs.Records.{Entry, node_entries}
use Rattle.toml_span_c.specs.declared.fill.Site.{Site}

-- the entries of a value and of the values inside it; the first is its own, and has the index `at`
abbrev pub entries_at : ℕ → Site → Value → List Entry
entries_at at site value =
    node_entries at site.parent site.position (option_map (λ s. s.now) site.name) site.key_span (view value)

-- the entry of the value itself, with 0 as its `next`
abbrev pub begun : Site → Value → Entry
begun site value = record {
  parent = site.parent;
  position = site.position;
  name = option_map (λ s. s.now) site.name;
  key_span = site.key_span;
  next = 0;
  value = view value;
}
