-- Where to insert an assignment into a table.
use Rattle.std.specs.Prelude.{ℕ, false, not, ◌==◌, ◌&&◌, List, [], ◌∷◌, slice_index, if◌then◌else◌, Option, Some, None}
use Rattle.std.specs.Prelude.{fold}
use Rattle.toml_span_lex.specs.Bytes.{line_feed}
use Rattle.toml_span_lex.specs.declared.span.Span.{Span}
use Rattle.toml_span_tree.specs.Path.{Path}
use Rattle.toml_span_read.specs.Data.{ParsedSection}
use Rattle.toml_span_read.specs.Paths.{same_path}
use Rattle.toml_span_places.specs.Literals.{byte_before}
use Rattle.toml_span_places.specs.Sections.{SectionMention, document_sections}
use Rattle.toml_span_places.specs.declared.points.InsertionPoint.{InsertionPoint}

-- the start of a text, after a byte order mark (EF BB BF)
abbrev pub text_start : List ℕ → ℕ
text_start text =
    if slice_index text 0 == 0xEF && (slice_index text 1 == 0xBB && slice_index text 2 == 0xBF) then 3 else 0

-- The point after the lines of a section's assignments, whose span is `body`. If the last of these lines has no line
-- end, one must be written first.
abbrev pub after_body : List ℕ → Span → InsertionPoint
after_body text body = record { offset = body.end; needs_line_end = not (byte_before text body.end 1 == line_feed) }

-- The point for a table that no section fills: for the root the start of the text, otherwise None.
abbrev pub without_section : List ℕ → Path → Option InsertionPoint
without_section text [] = Some (record { offset = text_start text; needs_line_end = false })
without_section text (s ∷ p) = None

-- the point after the section `s` if it fills the table at the path `p`, otherwise `point`
abbrev pub later_point : List ℕ → Path → Option InsertionPoint → SectionMention → Option InsertionPoint
later_point text p point s = if same_path s.path p then Some (after_body text s.body) else point

-- The point after the last section that fills the table at the path, or that of `without_section` if no section does.
-- (If no claims clash, there is at most one.)
abbrev pub insertion_point : List ℕ → Path → List ParsedSection → Option InsertionPoint
insertion_point text p bs = fold (later_point text p) (without_section text p) (document_sections text bs)
