-- Descriptions of keys and values.
use Rattle.std.specs.Prelude.{◌≡◌, ◌⊎◌, ℕ, List, Some, option_map}
use Rattle.toml_span_editor.specs.Renaming.{span_at}
use Rattle.toml_span_lex.specs.declared.span.Span.{Span}
use Rattle.toml_span_places.specs.Spots.{node_at}
use Rattle.toml_span_read.specs.Data.{ParsedSection}
use Rattle.toml_span_tree.specs.Node.{Node}

-- The span is that of the key at the offset `at` of `text`, or that of the innermost key or value that contains it.
-- `sections` and `root` are the sections and the tree of `text`.
abbrev pub IsDescribed : ℕ → List ℕ → List ParsedSection → Node → Span → Type 0
IsDescribed at text sections root span =
    (Some span ≡ span_at at text sections) ⊎ (Some span ≡ option_map (λ spot. spot.span) (node_at text at root))
