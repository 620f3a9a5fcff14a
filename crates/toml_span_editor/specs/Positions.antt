-- Positions in a text (LSP 3.17: Position, PositionEncodingKind, and EOL of Text Documents).
use Rattle.std.specs.Prelude.{ℕ, zero, suc, ◌+◌, ◌-◌, min, Bool, ◌==◌, ◌&&◌, ◌||◌, not, nat_lt, List, [], ◌∷◌}
use Rattle.std.specs.Prelude.{drop, slice_index, if◌then◌else◌}
use Rattle.toml_span_editor.specs.declared.positions.Encoding.{Encoding}
use Rattle.toml_span_editor.specs.declared.positions.Encoding.TheVariants.{Utf8, Utf16, Utf32}
use Rattle.toml_span_editor.specs.declared.positions.Position.{Position}
use Rattle.toml_span_editor.specs.declared.positions.Range.{Range}
use Rattle.toml_span_lex.specs.declared.span.Span.{Span}

-- The largest integer of the protocol (uinteger), at which counts stop.
abbrev pub largest : ℕ
largest = 2147483647

abbrev pub plus : ℕ → ℕ → ℕ
plus n k = min (n + k) largest

-- the number of code units (bytes, UTF-16 units or characters) of a character that has several bytes in UTF-8 and begins
-- with `byte`
abbrev pub wide_units : Encoding → ℕ → ℕ
wide_units Utf8 byte = if nat_lt byte 224 then 2 else if nat_lt byte 240 then 3 else 4
wide_units Utf16 byte = if nat_lt byte 240 then 1 else 2
wide_units Utf32 byte = 1

-- the number of code units of the character that begins with `byte` in a UTF-8 text; 0 for a byte inside a character
abbrev pub units : Encoding → ℕ → ℕ
units encoding byte = if nat_lt byte 128 then 1 else if nat_lt byte 192 then 0 else wide_units encoding byte

-- whether a line ends with `byte`, which `next` follows: LF, or a CR that is not followed by LF
abbrev pub ends_line : ℕ → ℕ → Bool
ends_line byte next = byte == 10 || (byte == 13 && not (next == 10))

-- The position after `byte`, which is at the position `p` and before the byte `next`. After a line end, it is the start
-- of the next line. After a CR before LF, it is still `p`. Otherwise, it is `units encoding byte` code units after `p`.
abbrev pub after : Encoding → Position → ℕ → ℕ → Position
after encoding p byte next =
    if ends_line byte next then record { line = plus p.line 1; character = 0 }
    else if byte == 13 then p
    else record { line = p.line; character = plus p.character (units encoding byte) }

-- the position after the first n bytes of `text`, or after all of them if there are fewer; `text` begins at the
-- position `p`
unfoldable pub position_from : Encoding → Position → ℕ → List ℕ → Position
position_from encoding p zero text = p
position_from encoding p (suc n) [] = p
position_from encoding p (suc n) (byte ∷ text) =
    position_from encoding (after encoding p byte (slice_index text 0)) n text

abbrev pub first : Position
first = record { line = 0; character = 0 }

-- the position of the byte offset `at`
abbrev pub position_of : Encoding → List ℕ → ℕ → Position
position_of encoding text at = position_from encoding first at text

-- the offset at which the line `line` (counted from 0) begins, or the length of the text if it has fewer lines
unfoldable pub line_start : ℕ → List ℕ → ℕ
line_start zero text = 0
line_start (suc line) [] = 0
line_start (suc line) (byte ∷ text) =
    suc (line_start (if ends_line byte (slice_index text 0) then line else suc line) text)

-- The number of bytes of the first `left` code units of the line at the start of the text `line`. If this line is
-- shorter, the number of its bytes without the line end. If the code units end inside a character, the number of bytes
-- before that character.
unfoldable pub column : Encoding → ℕ → List ℕ → ℕ
column encoding left [] = 0
column encoding left (byte ∷ line) =
    if byte == 10 || (byte == 13 || nat_lt left (units encoding byte)) then 0
    else suc (column encoding (left - units encoding byte) line)

-- the offset of a position
abbrev pub offset_of : Encoding → List ℕ → Position → ℕ
offset_of encoding text p =
    line_start p.line text + column encoding p.character (drop (line_start p.line text) text)

-- the range of a span
abbrev pub range_of : Encoding → List ℕ → Span → Range
range_of encoding text span =
    record { start = position_of encoding text span.start; end = position_of encoding text span.end }
