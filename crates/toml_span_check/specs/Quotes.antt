-- Quotes that a replacement adds, and the value that they must enclose.
use Rattle.std.specs.Prelude.{ℕ, ◌-◌, Bool, not, ◌&&◌, ◌||◌, ◌==◌, nat_le, nat_lt, List, [], ◌∷◌, count_by, length}
use Rattle.std.specs.Prelude.{slice_index, slice_range, if◌then◌else◌}
use Rattle.std.specs.List.{list_all, list_any}
use Rattle.std.specs.Str.{bytes_eq}
use Rattle.toml_span_lex.specs.Bytes.{is_blank}
use Rattle.toml_span_lex.specs.declared.span.Span.{Span}

-- the last byte that is not a blank, and the first one; `last` or a line feed if there is none
unfoldable pub last_solid : ℕ → List ℕ → ℕ
last_solid last [] = last
last_solid last (b ∷ bs) = last_solid (if is_blank b then last else b) bs

unfoldable pub first_solid : List ℕ → ℕ
first_solid [] = 10
first_solid (b ∷ bs) = if is_blank b then first_solid bs else b

abbrev pub is_quote : ℕ → Bool
is_quote b = b == 34 || b == 39

abbrev pub is_bracket : ℕ → Bool
is_bracket b = b == 91 || b == 93 || b == 123 || b == 125 || b == 40 || b == 41

-- no blank, quote, bracket, line end, `#`, `;`, `=`, comma or backslash
abbrev pub is_plain : ℕ → Bool
is_plain b =
    not (is_blank b || is_quote b || is_bracket b
    || (b == 10 || b == 13 || b == 35 || b == 59 || b == 61 || b == 44 || b == 92))

abbrev pub is_equals : ℕ → Bool
is_equals b = b == 61

-- Whether a value can follow these bytes of its statement: there is a `=`, and the last byte that is not a blank is
-- `=`, `[`, a comma, or a line feed.
abbrev pub begins_value : List ℕ → Bool
begins_value before =
    let last = last_solid 10 before in
    list_any is_equals before && (last == 61 || last == 91 || last == 44 || last == 10)

-- Whether a value can end before these bytes: the first one that is not a blank is a comma, a closing bracket, or a
-- line end, or `#` after a blank.
abbrev pub ends_value : List ℕ → Bool
ends_value after =
    let first = first_solid after in
    (first == 44 || first == 93 || first == 125 || first == 10 || first == 13)
    || (first == 35 && not (slice_index after 0 == 35))

-- the bytes without a backtick, or a character from U+2000 to U+203F such as a curly quote, at both ends
abbrev pub mark_width : List ℕ → ℕ
mark_width bytes =
    if slice_index bytes 0 == 96 then 1
    else if slice_index bytes 0 == 0xE2 && slice_index bytes 1 == 0x80 then 3
    else 0

abbrev pub unquoted : List ℕ → List ℕ
unquoted bytes = slice_range bytes (mark_width bytes) (length bytes - mark_width bytes)

-- whether `new` is `old` in double quotes, in place of backticks or curly quotes if it has some
abbrev pub is_quoted : List ℕ → List ℕ → Bool
is_quoted old new =
    let last = length new - 1 in
    nat_lt 0 last && slice_index new 0 == 34 && slice_index new last == 34
    && bytes_eq (slice_range new 1 last) (unquoted old)

-- Whether `new` adds no quotes in place of a span of a statement, or encloses a whole value in quotes, whose bytes are
-- all plain.
abbrev pub quotes_value : List ℕ → Span → List ℕ → Bool
quotes_value statement span new =
    let old = slice_range statement span.start span.end in
    nat_le (count_by is_quote new) (count_by is_quote old)
    || (is_quoted old new && list_all is_plain old && begins_value (slice_range statement 0 span.start)
    && ends_value (slice_range statement span.end (length statement)))
