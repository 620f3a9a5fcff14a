-- The lines of assignments and sections.
use Rattle.std.specs.Prelude.{ℕ, zero, suc, ◌+◌, ◌==◌, nat_le, List, [], ◌∷◌, drop, slice_index, if◌then◌else◌}
use Rattle.toml_span_lex.specs.declared.span.Span.{Span}
use Rattle.toml_span_lex.specs.Bytes.{is_blank, line_feed}
use Rattle.toml_span_read.specs.Data.{ParsedSection}

-- the start of the run of spaces and tabs that ends at an offset
abbrev pub blanks_start : List ℕ → ℕ → ℕ
blanks_start text zero = zero
blanks_start text (suc n) = if is_blank (slice_index text n) then blanks_start text n else suc n

-- the length of the first line of a text, including its line feed if it has one
abbrev pub line_length : List ℕ → ℕ
line_length [] = 0
line_length (c ∷ cs) = if c == line_feed then 1 else suc (line_length cs)

-- the offset after the line that contains the offset `at`, and after the line's line feed
abbrev pub after_line : List ℕ → ℕ → ℕ
after_line text at = at + line_length (drop at text)

-- the span of the lines of an assignment whose key and value have the span `extent`
abbrev pub lines_of : List ℕ → Span → Span
lines_of text extent =
    record { start = blanks_start text extent.start; end = after_line text extent.end }

-- the offset after the line of a section's last assignment or, without assignments, of its header
abbrev pub body_end : List ℕ → Span → Span → ℕ
body_end text header extent = if nat_le extent.end header.end then header.end else after_line text extent.end

-- the span of the lines of the section `b`
abbrev pub section_lines : List ℕ → ParsedSection → Span
section_lines text b =
    record { start = blanks_start text b.extent.start; end = body_end text b.header_span b.extent }
