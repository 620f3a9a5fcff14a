-- White space, comments, line ends, separators and closing brackets (TOML 1.1, "Comment", "Whitespace", "Newline").
use Rattle.std.specs.Prelude.{◌≡◌, ℕ, ◌+◌, ◌<◌, ◌≤◌, ◌⊎◌, Bool, true, false, ◌||◌, ◌==◌, List, [], ◌∷◌, length}
use Rattle.std.specs.Prelude.{slice_index}
use Rattle.toml_span_lex.specs.Bytes.{is_blank, is_printed, MaximalRun, comma, equals, hash, line_feed, period}
use Rattle.toml_span_lex.specs.Text.{LineEnd, is_crlf, NoLineEnd}

-- The text from i to j is a space or a tab, a line end, or a comment.
--
-- `wschar = %x20 / %x09`, `newline = %x0A / %x0D.0A`, `comment = comment-start-symbol *non-eol`
abbrev pub GapPiece : List ℕ → ℕ → ℕ → Type 0
GapPiece text i j =
    ((is_blank (slice_index text i) ≡ true) × (j ≡ i + 1))
    ⊎ LineEnd text i j
    ⊎ ((slice_index text i ≡ hash) × MaximalRun is_printed text i j)

-- whether a space, a tab, a line end or a comment begins at i
abbrev pub begins_gap : List ℕ → ℕ → Bool
begins_gap text i =
    ((is_blank (slice_index text i) || slice_index text i == line_feed) || is_crlf text i) || slice_index text i == hash

-- From i to j there are only spaces, tabs, line ends and comments. The list has the end of each.
abbrev pub GapBy : List ℕ → ℕ → List ℕ → ℕ → Type 0
GapBy text i [] j = i ≡ j
GapBy text i (k ∷ ks) j = GapPiece text i k × GapBy text k ks j

-- The text from i to j is a gap: all spaces, tabs, line ends and comments from i on. By the grammar, a gap is
-- `ws-comment-newline = *( wschar / [ comment ] newline )`, and perhaps one more comment without a line end. After such
-- a comment the text ends or has a control character, so the gap ends there.
pub record MaximalGap (text : List ℕ) (i j : ℕ) : Type 0 where
  pub ends : List ℕ
  pub pieces : GapBy text i ends j
  pub forward : i ≤ j
  pub stops : begins_gap text j ≡ false

-- From i to j there are spaces and tabs, and a comment if one follows them: `ws [ comment ]`, where `ws = *wschar`.
pub record Skipped (text : List ℕ) (i j : ℕ) : Type 0 where
  pub at : ℕ
  pub blank : MaximalRun is_blank text i at
  pub comment : ((slice_index text at ≡ hash) × MaximalRun is_printed text at j)
      ⊎ (((slice_index text at == hash) ≡ false) × (j ≡ at))

-- The text from i to j is the rest of a line: `ws [ comment ]`, then a line end or the end of the text.
abbrev pub Tail : List ℕ → ℕ → ℕ → Type 0
Tail text i j = (k : ℕ) × Skipped text i k × (LineEnd text k j ⊎ ((k ≡ length text) × (j ≡ k)))

-- From i to k there are spaces and tabs, and a comment if one follows them. At k there is neither a line end nor the
-- end of the text.
abbrev pub NoTail : List ℕ → ℕ → ℕ → Type 0
NoTail text i k = Skipped text i k × (k < length text) × NoLineEnd text k

-- `expression = ws [ comment ]`: from i to j there are only lines like this, and the list has the end of each. The gap
-- before a key or header consists of such lines, and of the spaces and tabs before the key or header on its line.
abbrev pub BlankLines : List ℕ → ℕ → List ℕ → ℕ → Type 0
BlankLines text i [] j = i ≡ j
BlankLines text i (k ∷ ks) j = Tail text i k × BlankLines text k ks j

-- The text ends at i, or the character there may occur in a comment. So if a comment ends at i, it does not end because
-- of a control character.
abbrev pub AfterLines : List ℕ → ℕ → Type 0
AfterLines text i = (i ≡ length text) ⊎ (is_printed (slice_index text i) ≡ true)

-- ---- separators and closing brackets, with the white space around them

-- The text from i to j is a dot, with the spaces and tabs around it: `dot-sep = ws %x2E ws`.
pub record Dot (text : List ℕ) (i j : ℕ) : Type 0 where
  pub at : ℕ
  pub before : MaximalRun is_blank text i at
  pub here : slice_index text at ≡ period
  pub after : MaximalRun is_blank text (at + 1) j

-- There is a dot neither at i nor after the spaces and tabs from i on.
pub record NoDot (text : List ℕ) (i : ℕ) : Type 0 where
  pub at : ℕ
  pub before : MaximalRun is_blank text i at
  pub here : (slice_index text at == period) ≡ false

-- The text from i to j is the byte c, with the gaps around it: `array-sep = %x2C`, `inline-table-sep = %x2C`, or the
-- `%x3D` of a pair, around which the standard allows only `ws`.
pub record Separator (c : ℕ) (text : List ℕ) (i j : ℕ) : Type 0 where
  pub at : ℕ
  pub before : MaximalGap text i at
  pub here : slice_index text at ≡ c
  pub after : MaximalGap text (at + 1) j

-- The text from i to j is a gap and the closing bracket or brace c: `ws-comment-newline array-close`, where
-- `array-close = %x5D`, or `ws-comment-newline inline-table-close`, where `inline-table-close = %x7D`.
pub record Closes (c : ℕ) (text : List ℕ) (i j : ℕ) : Type 0 where
  pub at : ℕ
  pub before : MaximalGap text i at
  pub here : slice_index text at ≡ c
  pub ends : j ≡ at + 1

-- The text from i to j is a gap. At j there is neither a comma nor the closing bracket or brace c.
pub record Neither (c : ℕ) (text : List ℕ) (i j : ℕ) : Type 0 where
  pub before : MaximalGap text i j
  pub no_comma : (slice_index text j == comma) ≡ false
  pub no_bracket : (slice_index text j == c) ≡ false

-- The text from i to j is an equals sign, with the spaces and tabs around it: `keyval-sep = ws %x3D ws`.
pub record Equals (text : List ℕ) (i j : ℕ) : Type 0 where
  pub at : ℕ
  pub before : MaximalRun is_blank text i at
  pub here : slice_index text at ≡ equals
  pub after : MaximalRun is_blank text (at + 1) j
