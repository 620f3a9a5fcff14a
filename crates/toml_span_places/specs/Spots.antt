-- The key or value at a byte offset in a text.
use Rattle.std.specs.Prelude.{ℕ, Bool, ◌&&◌, nat_le, nat_lt, if◌then◌else◌, List, [], map, fold, filter_map}
use Rattle.std.specs.Prelude.{Option, Some, None, not, option_map}
use Rattle.toml_span_lex.specs.declared.span.Span.{Span}
use Rattle.toml_span_tree.specs.Node.{Node}
use Rattle.toml_span_tree.specs.Nodes.{Listed, nodes_from, step_of}
use Rattle.toml_span_tree.specs.Path.{Path}
use Rattle.toml_span_tree.specs.Value.{view}
use Rattle.toml_span_places.specs.Keys.{with_quotes}
use Rattle.toml_span_places.specs.Literals.{literal_span}
use Rattle.toml_span_places.specs.declared.spots.NodePlace.{NodePlace}
use Rattle.toml_span_places.specs.declared.spots.Part.{Part}
use Rattle.toml_span_places.specs.declared.spots.Part.TheVariants as parts

-- a value or its key: the path of the value, the span of the value or key with its quotes, and the value
pub record Spot : Type 0 where
  pub path : Path
  pub part : Part
  pub span : Span
  pub value : Node

-- a `NodePlace` as plain data
abbrev pub spot : NodePlace → Spot
spot place = record {
  path = map step_of place.path.items;
  part = place.part;
  span = place.span;
  value = view place.value.now;
}

abbrev pub holds : Span → ℕ → Bool
holds span offset = nat_le span.start offset && nat_lt offset span.end

-- The value or its key, whichever contains the offset. If both do, it is the one that starts later, or the value if
-- they start together. If neither does, it is the value.
abbrev pub chosen : ℕ → Span → Option Span → Part × Span
chosen offset literal None = (parts.Value, literal)
chosen offset literal (Some quoted) =
    if holds quoted offset && not (holds literal offset && nat_le quoted.start literal.start)
    then (parts.Key, quoted)
    else (parts.Value, literal)

-- a value of the tree or its key, as `chosen` chooses, or None if neither contains the offset
abbrev pub spot_of : List ℕ → ℕ → Listed → Option Spot
spot_of text offset (p, k, n) =
    let c = chosen offset (literal_span text n) (option_map (λ named. with_quotes text named.1) k) in
    if holds c.1 offset then Some (record { path = p; part = c.0; span = c.1; value = n }) else None

-- the one that starts last, or the second if both start at the same offset
abbrev pub later : Option Spot → Spot → Option Spot
later None s = Some s
later (Some t) s = if nat_lt s.span.start t.span.start then Some t else Some s

-- the innermost key or value that contains the offset
abbrev pub node_at : List ℕ → ℕ → Node → Option Spot
node_at text offset n = fold later None (filter_map (spot_of text offset) (nodes_from [] None n))
