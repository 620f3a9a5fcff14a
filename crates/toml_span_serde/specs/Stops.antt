-- Where a read stopped, and the misfit that is reported.
use Rattle.std.specs.Prelude.{◌≡◌, ⊤, ℕ, ◌+◌, List, [], ◌∷◌, ◌++◌, length, nat_lt, if◌then◌else◌, Some, slice_get}
use Rattle.toml_span_lex.specs.declared.span.Span.{Span}
use Rattle.toml_span_lex.specs.declared.stop.Stop.{Stop}
use Rattle.toml_span_lex.specs.declared.stop.Stop.TheVariants as stop
use Rattle.toml_span_tree.specs.Node.{Node, node, Inner, taken, scalar, array, table, Items, no_items, item}
use Rattle.toml_span_tree.specs.Node.{Members, no_members, member}
use Rattle.toml_span_tree.specs.Path.{Path, key, position}
use Rattle.toml_span_serde.specs.Misfits.{path_of}
use Rattle.toml_span_serde.specs.Pieces.{pieces}
use Rattle.toml_span_serde.specs.declared.misfit.Misfit.{Misfit}
use Rattle.toml_span_serde.specs.declared.reader.Misread.{Misread}

-- The path and the span of each piece of a tree. A key has the path of its entry.
abbrev mutual
  pub spots : Path → Node → List (Path × Span)
  spots path (node i span) = held_spots path span i

  pub held_spots : Path → Span → Inner → List (Path × Span)
  held_spots path span taken = (path, span) ∷ []
  held_spots path span (scalar s) = (path, span) ∷ []
  held_spots path span (array ns) = (path, span) ∷ (items_spots path 0 ns ++ ((path, span) ∷ []))
  held_spots path span (table ms) = (path, span) ∷ (members_spots path ms ++ ((path, span) ∷ []))

  pub items_spots : Path → ℕ → Items → List (Path × Span)
  items_spots path i no_items = []
  items_spots path i (item n ns) = spots (path ++ (position i ∷ [])) n ++ items_spots path (i + 1) ns

  pub members_spots : Path → Members → List (Path × Span)
  members_spots path no_members = []
  members_spots path (member name span n ms) =
      (path ++ (key name ∷ []), span) ∷ (spots (path ++ (key name ∷ [])) n ++ members_spots path ms)

-- the position of the piece that is reported: `at` or, if `at` is after the last piece, 0, where the root begins
abbrev pub reported_piece : Node → ℕ → ℕ
reported_piece root at = if nat_lt at (length (pieces root)) then at else 0

-- The misfit has the reason of the reader's error, and the path and the span of the piece that is reported.
abbrev pub IsOf : Node → Misread → Misfit → Type 0
IsOf root m misfit = (misfit.reason ≡ m.reason)
    × (slice_get (spots [] root) (reported_piece root m.at) ≡ Some (path_of misfit.path.items, misfit.span))

-- The misfit is that of the reader's error. A failed allocation is passed on, and may also occur while the misfit is
-- made.
abbrev pub IsStopOf : Node → Stop Misread → Stop Misfit → Type 0
IsStopOf root (stop.Memory e) stopped = stopped ≡ stop.Memory e
IsStopOf root (stop.Fault m) (stop.Memory e) = ⊤
IsStopOf root (stop.Fault m) (stop.Fault misfit) = IsOf root m misfit
