-- Definitions for private clauses of `pieces.rt`: the pieces of the code as data, their depth, the entries of a table
-- in the order of the text, and the tasks that are left while a tree is converted to a row of pieces.
use Rattle.std.specs.Prelude.{ℕ, ◌+◌, ◌-◌, List, [], ◌∷◌, ◌++◌, map, reverse, nat_lt, ⊤}
use Rattle.std.specs.Prelude.{if◌then◌else◌}
use Rattle.toml_span.specs.Ordered.{IsOrdered}
use Rattle.toml_span_lex.specs.declared.key.Key.{Key}
use Rattle.toml_span_tree.specs.Node.{text, integer, float, boolean, datetime}
use Rattle.toml_span_tree.specs.Value.{view, float_value}
use Rattle.toml_span_tree.specs.declared.value.Value.{Value}
use Rattle.toml_span_serde.specs.Pieces as spec
use Rattle.toml_span_serde.specs.TextOrder.{in_text_order}
use Rattle.toml_span_serde.specs.declared.pieces.Content.{Content}
use Rattle.toml_span_serde.specs.declared.pieces.Content.TheVariants as is
use Rattle.toml_span_serde.specs.declared.pieces.Piece.{Piece}
use Rattle.toml_span_serde.specs.declared.pieces.Task.{Task}
use Rattle.toml_span_serde.specs.declared.pieces.Task.TheVariants as task

abbrev pub piece_content : Content → spec.Content
piece_content (is.Text s) = spec.value (text s.now)
piece_content (is.Integer z) = spec.value (integer z)
piece_content (is.Float x) = spec.value (float (float_value x.now))
piece_content (is.Boolean b) = spec.value (boolean b)
piece_content (is.Datetime s) = spec.value (datetime s.now)
piece_content is.Taken = spec.nothing
piece_content is.ArrayBegins = spec.array_begins
piece_content is.ArrayEnds = spec.array_ends
piece_content is.TableBegins = spec.table_begins
piece_content is.TableEnds = spec.table_ends
piece_content (is.Key s) = spec.key s.now

abbrev pub piece_of : Piece → spec.Piece
piece_of p = spec.piece (piece_content p.content) p.span

abbrev pub task_pieces : Task → List spec.Piece
task_pieces (task.Value v) = spec.pieces (in_text_order (view v.now))
task_pieces (task.Piece p) = piece_of p ∷ []

abbrev pub all_pieces : List Task → List spec.Piece
all_pieces [] = []
all_pieces (t ∷ ts) = task_pieces t ++ all_pieces ts

-- In each table of the task's value, each name comes before all later ones.
abbrev pub IsTaskOrdered : Task → Type 0
IsTaskOrdered (task.Value v) = IsOrdered (view v.now)
IsTaskOrdered (task.Piece p) = ⊤

abbrev pub AreTasksOrdered : List Task → Type 0
AreTasksOrdered [] = ⊤
AreTasksOrdered (t ∷ ts) = IsTaskOrdered t × AreTasksOrdered ts

-- the pieces in the order of the row; `ps` has them from the last to the first
abbrev pub turned : List Piece → List spec.Piece
turned ps = map piece_of (reverse ps)

-- the number of arrays and tables that are open after a piece, if `d` are open before it
abbrev pub depth_after : spec.Content → ℕ → ℕ
depth_after (spec.value s) d = d
depth_after spec.nothing d = d
depth_after spec.array_begins d = d + 1
depth_after spec.array_ends d = d - 1
depth_after spec.table_begins d = d + 1
depth_after spec.table_ends d = d - 1
depth_after (spec.key s) d = d

-- the list with x inserted before the first element whose number is at least that of x
abbrev pub put_by : {X : Type 0} → (X → ℕ) → X → List X → List X
put_by number x [] = x ∷ []
put_by number x (y ∷ ys) = if nat_lt (number y) (number x) then y ∷ put_by number x ys else x ∷ y ∷ ys

-- the list in the order of its numbers; elements with the same number keep their order
abbrev pub sorted_by : {X : Type 0} → (X → ℕ) → List X → List X
sorted_by number [] = []
sorted_by number (x ∷ xs) = put_by number x (sorted_by number xs)

-- entries in the order in which their keys start in the text
abbrev pub by_start : List (Key × Value) → List (Key × Value)
by_start entries = sorted_by (λ e. e.0.span.start) entries
