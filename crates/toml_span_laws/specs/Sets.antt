-- Edits that replace a scalar with a scalar.
use Rattle.std.specs.Prelude.{◌≡◌, ℕ, ◌++◌, List, length, codes}
use Rattle.toml_span_tree.specs.Node.{Node, Scalar, scalar}
use Rattle.toml_span_tree.specs.Value.{inner_of, view}
use Rattle.toml_span_tree.specs.declared.value.Value.{Value}
use Rattle.toml_span_read.specs.Data.{ParsedSection, depth_limit}
use Rattle.toml_span.specs.Parsing.{IsTree}
use Rattle.toml_span_laws.specs.Outcomes.{HasOutcome, resolved}
use Rattle.toml_span_places.specs.Literals.{literal_span}
use Rattle.toml_span_edit.specs.Edited.{Makes, Spells}
use Rattle.toml_span_edit.specs.Paths.{Path}
use Rattle.toml_span_edit.specs.declared.edits.Change.{Change}

-- Written after `v = `, the text is a literal of this scalar and nothing else.
abbrev pub IsLiteral : List ℕ → Scalar → Type 0
IsLiteral text x =
    (w : Node) × Spells text w × (inner_of w ≡ scalar x)
    × (literal_span (codes "v = " ++ text) w ≡ record { start = 4; end = length (codes "v = " ++ text) })

-- The text `new` is a document, and its tree is the tree `n` with the change made at the path.
abbrev pub MustBeMade : Change → Path → Node → List ℕ → Type 0
MustBeMade change path n new =
    (sections : List ParsedSection) × HasOutcome new depth_limit (resolved sections)
    × ((root : Value) → IsTree new depth_limit root → Makes change path n (view root))
