-- The pieces of a string's content, its closing quotes, and the faults in it. The string is quoted with q (`"` or `'`),
-- and `multi` says whether it is multi-line.
use Rattle.std.specs.Prelude.{◌≡◌, ℕ, ◌+◌, ◌<◌, ◌≤◌, ◌⊎◌, min, Bool, true, false, not, ◌&&◌, ◌||◌, ◌==◌, if◌then◌else◌}
use Rattle.std.specs.Prelude.{List, [], ◌∷◌, length, slice_index, slice_range, encode_utf8}
use Rattle.toml_span_lex.specs.Bytes.{quotation_mark, backslash, line_feed, is_blank, is_printed, MaximalRun}
use Rattle.toml_span_lex.specs.Text.{is_crlf, LineEnd, NoLineEnd, CharAt}
use Rattle.toml_span_lex.specs.Escapes.{IsEscape, IsEscapeFault}
use Rattle.toml_span_lex.specs.declared.pieces.Piece.{Piece}
use Rattle.toml_span_lex.specs.declared.pieces.Piece.TheVariants as pieces
use Rattle.toml_span_lex.specs.declared.tokens.Error.{Error}
use Rattle.toml_span_lex.specs.declared.tokens.Error.TheVariants as errors

-- whether the byte c may occur unescaped in a single-line string that is quoted with q:
-- `basic-unescaped = wschar / %x21 / %x23-5B / %x5D-7E / non-ascii`
-- `literal-char = %x09 / %x20-26 / %x28-7E / non-ascii`
abbrev pub is_plain : ℕ → ℕ → Bool
is_plain q c = is_printed c && not (c == q) && not (q == quotation_mark && c == backslash)

-- whether there is a space, a tab or a line end at i: `wschar / newline`
abbrev pub is_ws_or_newline : List ℕ → ℕ → Bool
is_ws_or_newline text i = is_blank (slice_index text i) || slice_index text i == line_feed || is_crlf text i

-- `*( wschar / newline )`: from i to j there are only spaces, tabs and line ends, and at j there is something else or
-- the end of the text
pub record WsAndNewlines (text : List ℕ) (i j : ℕ) : Type 0 where
  pub forward : i ≤ j
  pub within : j ≤ length text
  pub passes : (k : ℕ) → i ≤ k → k < j → is_ws_or_newline text k ≡ true
  pub stops : j < length text → is_ws_or_newline text j ≡ false

-- `mlb-escaped-nl = escape ws newline *( wschar / newline )`: a backslash before i drops the text from i to j: a line
-- end, any spaces and tabs before it, and all spaces, tabs and line ends after it
abbrev pub IsDropped : List ℕ → ℕ → ℕ → Type 0
IsDropped text i j = (k : ℕ) × (l : ℕ) × MaximalRun is_blank text i k × LineEnd text k l × WsAndNewlines text l j

-- The text from i to j is this piece. Only multi-line strings have line ends and runs of one or two quotes, only basic
-- strings have escapes, and only multi-line basic strings have line ends that a backslash drops.
-- `basic-char = basic-unescaped / escaped`
-- `mlb-content = basic-char / newline / mlb-escaped-nl`, `mlb-quotes = 1*2quotation-mark`
-- `mll-content = literal-char / newline`, `mll-quotes = 1*2apostrophe`
abbrev pub IsPiece : ℕ → Bool → List ℕ → ℕ → ℕ → Piece → Type 0
IsPiece q multi text i j pieces.Plain = (i < j) × MaximalRun (is_plain q) text i j
IsPiece q multi text i j pieces.Quotes = (multi ≡ true) × (i < j) × (j < i + 3) × MaximalRun (λ c. c == q) text i j
IsPiece q multi text i j pieces.LineEnd = (multi ≡ true) × LineEnd text i j
IsPiece q multi text i j (pieces.Escape c) =
    (q ≡ quotation_mark) × (slice_index text i ≡ backslash) × IsEscape text (i + 1) c j
IsPiece q multi text i j pieces.Dropped =
    (q ≡ quotation_mark) × (multi ≡ true) × (slice_index text i ≡ backslash) × IsDropped text (i + 1) j

-- the value of the piece from i to j
abbrev pub piece_value : List ℕ → ℕ → ℕ → Piece → List ℕ
piece_value text i j pieces.LineEnd = line_feed ∷ []
piece_value text i j (pieces.Escape c) = encode_utf8 c
piece_value text i j pieces.Dropped = []
piece_value text i j _ = slice_range text i j

-- `ml-basic-string-delim = 3quotation-mark`, `ml-literal-string-delim = 3apostrophe`, after `[ mlb-quotes ]` or `[
-- mll-quotes ]`: the quotes at i end the string, and j is the offset after them. A single-line string ends with
-- one quote, a multi-line string with its first run of at least three. It takes at most five of the run: the last three
-- that it takes are the delimiter, those before them are content.
abbrev pub IsClose : ℕ → Bool → List ℕ → ℕ → ℕ → Type 0
IsClose q false text i j = (slice_index text i ≡ q) × (i < length text) × (j ≡ i + 1)
IsClose q true text i j = (r : ℕ) × MaximalRun (λ c. c == q) text i r × (i + 3 ≤ r) × (j ≡ min r (i + 5))

-- the fault if spaces and tabs follow the backslash at i, up to j, and the text ends at j or goes on with something
-- other than a line end
abbrev pub drop_fault : ℕ → List ℕ → ℕ → ℕ → Error
drop_fault start text i j =
    if j == length text then errors.UnterminatedString start
    else errors.InvalidEscape (i + 1) (slice_index text (i + 1))

-- In the string that was opened at `start`, neither a piece nor the closing quotes begin at i. The error e reports why:
-- the end of the text, a line end in a single-line string, a character that may not occur in a string, an invalid
-- escape, or a backslash before spaces and tabs that are not followed by a line end. The text was read up to j.
abbrev pub IsContentFault : ℕ → Bool → ℕ → List ℕ → ℕ → ℕ → Error → Type 0
IsContentFault q multi start text i j e =
    ((e ≡ errors.UnterminatedString start) × (i ≡ length text) × (j ≡ i))
    ⊎ ((e ≡ errors.NewlineInString i) × (multi ≡ false) × LineEnd text i j)
    ⊎ ((c : ℕ) × (e ≡ errors.InvalidCharInString i c) × (is_printed c ≡ false) × NoLineEnd text i × CharAt text i c j)
    ⊎ ((q ≡ quotation_mark) × (slice_index text i ≡ backslash) × (multi ≡ true → is_ws_or_newline text (i + 1) ≡ false)
    × IsEscapeFault start text (i + 1) j e)
    ⊎ ((q ≡ quotation_mark) × (multi ≡ true) × (slice_index text i ≡ backslash) × (i + 1 < j)
    × MaximalRun is_blank text (i + 1) j × NoLineEnd text j × (e ≡ drop_fault start text i j))
