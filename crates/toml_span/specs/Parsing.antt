-- What `parse` and `parse_with_limit` return.
use Rattle.std.specs.Prelude.{◌≡◌, ⊤, ℕ, ◌⊎◌, List, Some, None, Result, Ok, Err, length}
use Rattle.toml_span_lex.specs.declared.stop.Stop.{Stop}
use Rattle.toml_span_lex.specs.declared.stop.Stop.TheVariants as stops
use Rattle.toml_span_tree.specs.declared.value.Value.{Value}
use Rattle.toml_span_tree.specs.Value.{view}
use Rattle.toml_span_tree.specs.Node.{Members, node, table}
use Rattle.toml_span_tree.specs.declared.error.Error.{Error}
use Rattle.toml_span_tree.specs.Error.{content_of}
use Rattle.toml_span_read.specs.Data.{ParsedSection}
use Rattle.toml_span_read.specs.declared.fault.Fault.{Fault}
use Rattle.toml_span_lex.specs.Lines.{line_info}
use Rattle.toml_span_read.specs.Faults.{StartsInside, fault_content}
use Rattle.toml_span_read.specs.Read.{document}
use Rattle.toml_span.specs.Claims.{claims}
use Rattle.toml_span.specs.Clashes.{NamedClash, first_clash, content_of_clash}
use Rattle.toml_span.specs.Flat.{flat, ShowsExactly}
use Rattle.toml_span.specs.Ordered.{IsOrdered}
use Rattle.toml_span.specs.Borrowed.{AreBorrowedRight, first_key, strings_and_keys}

-- The tree has exactly the places of the flat document of these sections, and the document is `size` bytes long. The
-- names in each table ascend, so none occurs twice.
pub record IsTreeOf (sections : List ParsedSection) (size : ℕ) (root : Value) : Type 0 where
  pub shows : ShowsExactly (view root) (flat size (claims sections))
  pub ordered : IsOrdered (view root)

-- The possible results of parsing a text with this limit. A tree: the text is read as sections that do not clash, and
-- this is their tree. An error: it reports the fault of the text or, if the text is read as sections, their first
-- clash. Its span starts inside the text or at its end. A failed allocation is possible for any text.
abbrev pub IsParseResult : List ℕ → ℕ → Result Value (Stop Error) → Type 0
IsParseResult text limit (Ok root) =
    (sections : List ParsedSection) × (document text limit (Ok sections) × (first_clash (claims sections) ≡ None))
    × IsTreeOf sections (length text) root
IsParseResult text limit (Err (stops.Memory e)) = ⊤
IsParseResult text limit (Err (stops.Fault error)) =
    ((fault : Fault) × document text limit (Err fault)
    × (StartsInside text fault.span × (content_of error ≡ fault_content text fault)))
    ⊎ ((sections : List ParsedSection) × (clash : NamedClash)
    × (document text limit (Ok sections) × (first_clash (claims sections) ≡ Some clash))
    × (StartsInside text clash.info.span
    × (content_of error ≡ content_of_clash clash.info clash.name (line_info text clash.info.span.start))))

-- Parsing the text with this limit can return this tree. `IsRefusal`: it can fail with this error or failed allocation.
abbrev pub IsTree : List ℕ → ℕ → Value → Type 0
IsTree text limit root = IsParseResult text limit (Ok root)

abbrev pub IsRefusal : List ℕ → ℕ → Stop Error → Type 0
IsRefusal text limit stop = IsParseResult text limit (Err stop)

-- ---- properties of the tree

-- The value is a table that spans the whole document, which is `size` bytes long.
abbrev pub IsRoot : ℕ → Value → Type 0
IsRoot size root = (members : Members) × (view root ≡ node (table members) (record { start = 0; end = size }))

-- Each string in the tree is borrowed if and only if it equals the text at its span or is an empty single-line string.
-- Each key is borrowed if and only if it equals the text at the span of the first key that claims its path, or that key
-- is an empty single-line string.
abbrev pub IsBorrowedTree : List ℕ → ℕ → Value → Type 0
IsBorrowedTree text limit root =
    (sections : List ParsedSection) × document text limit (Ok sections)
    × AreBorrowedRight text (strings_and_keys root (first_key (claims sections)))
