-- Texts that are read, and texts of which only a part can be read.
use Rattle.std.specs.Prelude.{◌≡◌, ◌⊎◌, ℕ, ◌+◌, ◌/◌, ◌==◌, ◌&&◌, ◌||◌, not, nat_lt, nat_le, max, Bool, List, length, map}
use Rattle.std.specs.Prelude.{Ok, Err, Option, Some, None, is_none, slice_range, if◌then◌else◌}
use Rattle.std.specs.List.{AllZip, flat_map}
use Rattle.std.specs.Str.{IsCharBoundary}
use Rattle.toml_span.specs.Parsing.{IsRefusal, IsTree}
use Rattle.toml_span_check.specs.Statements.{begins_section, lines_of, offset_of, own_bytes}
use Rattle.toml_span_editor.specs.declared.document.Document.{Document}
use Rattle.toml_span_editor.specs.declared.document.Part.{Part}
use Rattle.toml_span_lex.specs.declared.stop.Stop.TheVariants as stops
use Rattle.toml_span_read.specs.Data.{depth_limit, parsed_section}
use Rattle.toml_span_read.specs.Read.{document}
use Rattle.toml_span_read.specs.declared.fault.Fault.{Fault}
use Rattle.toml_span_syntax.specs.Pieces.{Covers}
use Rattle.toml_span_syntax.specs.Statements.{Splits}
use Rattle.toml_span_syntax.specs.declared.pieces.Piece.{Piece}
use Rattle.toml_span_syntax.specs.declared.statements.Statement.{Statement}
use Rattle.toml_span_tree.specs.declared.error.Error.{Error}
use Rattle.toml_span_tree.specs.declared.value.Value.{Value}

-- what replaces a byte that is left out: a line feed for a line feed, otherwise a space
abbrev pub blank : ℕ → ℕ
blank byte = if byte == 10 then 10 else 32

-- The text is valid TOML, or its error is at this offset.
abbrev pub HasErrorAt : List ℕ → Option ℕ → Type 0
HasErrorAt text None = (root : Value) × IsTree text depth_limit root
HasErrorAt text (Some at) =
    (error : Error) × IsRefusal text depth_limit (stops.Fault error) × (at ≡ error.span.start)

-- ---- the statements of a text

-- The pieces and the statements are those of the text.
abbrev pub IsSplit : List ℕ → List Piece → List Statement → Type 0
IsSplit text pieces ss = Covers text 0 pieces (length text) × Splits pieces 0 ss (length pieces)

-- The part is this statement. It is kept if and only if it is valid TOML by itself.
pub record IsPart (text : List ℕ) (pieces : List Piece) (s : Statement) (part : Part) : Type 0 where
  pub span : part.span ≡ lines_of text pieces s
  pub header : part.is_header ≡ begins_section pieces s
  pub kept : (place : Option ℕ) × HasErrorAt (own_bytes text pieces s) place × (part.is_kept ≡ is_none place)

-- The parts are the statements of the text, in order.
abbrev pub AreParts : List ℕ → List Part → Type 0
AreParts text parts =
    (pieces : List Piece) × (ss : List Statement) × Covers text 0 pieces (length text)
    × Splits pieces 0 ss (length pieces) × AllZip (IsPart text pieces) ss parts

-- a part, no longer kept if it contains the offset `at` or, if `is_rest` is set, ends after it
abbrev pub left_out : ℕ → Bool → Part → Part
left_out at is_rest part =
    record part { is_kept = part.is_kept && not (nat_lt at part.span.end && (is_rest || nat_le part.span.start at)) }

-- the bytes of a part, or what replaces them if it is not kept
abbrev pub part_text : List ℕ → Part → List ℕ
part_text text part =
    if part.is_kept then slice_range text part.span.start part.span.end
    else map blank (slice_range text part.span.start part.span.end)

-- the texts of the parts, joined
abbrev pub joined : List ℕ → List Part → List ℕ
joined text parts = flat_map (part_text text) parts

-- ---- what can be read

-- how often a statement may be left out of a text of this length because it clashes with others
abbrev pub most : ℕ → ℕ
most len = 8388608 / max len 1

-- `parts` are the statements of `text`, after `n` of those that are valid TOML by themselves were left out, each because
-- what was kept had an error there. With the last one that may be left out, all after it is.
pub data Leaves (text : List ℕ) : ℕ → List Part → Type 0 where
  start : (parts : List Part) → AreParts text parts → Leaves text 0 parts
  clash : (n at : ℕ) (parts : List Part) → Leaves text n parts → HasErrorAt (joined text parts) (Some at)
      → Leaves text (n + 1) (map (left_out at (n + 1 == most (length text))) parts)

-- `kept` is `text` without the statements that can't be read: it is valid TOML, unless no more could be left out.
abbrev pub IsReadable : List ℕ → List Part → List ℕ → Type 0
IsReadable text parts kept =
    (n : ℕ) × Leaves text n parts × (kept ≡ joined text parts)
    × (HasErrorAt kept None ⊎ (n ≡ most (length text)))

abbrev pub IsReadableText : List ℕ → List ℕ → Type 0
IsReadableText text kept = (parts : List Part) × IsReadable text parts kept

-- ---- where a text may be cut

abbrev pub AreCut : List ℕ → List Piece → Type 0
AreCut text pieces = (k : ℕ) → IsCharBoundary text (offset_of text pieces k)

abbrev pub IsCut : List ℕ → Part → Type 0
IsCut text part = IsCharBoundary text part.span.start × IsCharBoundary text part.span.end

-- ---- documents

-- `d` has the tree and the sections of `text`.
pub record IsRead (text : List ℕ) (d : Document) : Type 0 where
  pub tree : IsTree text depth_limit d.root
  pub sections : document text depth_limit (Ok (map parsed_section d.sections.items))

-- The text is not a document: `parse` refuses it, or it has a fault.
abbrev pub IsNoDocument : List ℕ → Type 0
IsNoDocument text = ((error : Error) × IsRefusal text depth_limit (stops.Fault error))
    ⊎ ((fault : Fault) × document text depth_limit (Err fault))
