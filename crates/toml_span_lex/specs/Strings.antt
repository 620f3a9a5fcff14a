-- Strings: their content, value, span and faults.
use Rattle.std.specs.Prelude.{◌≡◌, ◌↔◌, ℕ, ◌+◌, ◌-◌, ◌<◌, ◌≤◌, ◌⊎◌, Bool, true, false, not, ◌&&◌, ◌==◌, if◌then◌else◌}
use Rattle.std.specs.Prelude.{List, [], ◌∷◌, ◌++◌, slice_index, slice_range}
use Rattle.std.specs.Cow.{cow_str_bytes, IsBorrowedStr}
use Rattle.std.specs.declared.borrow.CowStr.{CowStr}
use Rattle.toml_span_lex.specs.Bytes.{quotation_mark, apostrophe, backslash, carriage_return}
use Rattle.toml_span_lex.specs.Text.{LineEnd, NoLineEnd}
use Rattle.toml_span_lex.specs.Pieces.{IsPiece, piece_value, IsClose, IsContentFault}
use Rattle.toml_span_lex.specs.declared.pieces.Piece.{Piece}
use Rattle.toml_span_lex.specs.declared.span.Span.{Span}
use Rattle.toml_span_lex.specs.declared.tokens.Error.{Error}

-- ---- content

-- The text from i to j consists of these pieces, each with its end:
-- `*basic-char`, `*literal-char`
-- `ml-basic-body = *mlb-content *( mlb-quotes 1*mlb-content ) [ mlb-quotes ]`
-- `ml-literal-body = *mll-content *( mll-quotes 1*mll-content ) [ mll-quotes ]`
abbrev pub Cut : ℕ → Bool → List ℕ → ℕ → List (Piece × ℕ) → ℕ → Type 0
Cut q multi text i [] j = i ≡ j
Cut q multi text i (p ∷ ps) j = IsPiece q multi text i p.1 p.0 × Cut q multi text p.1 ps j

-- the values of the pieces, joined in order
abbrev pub content : List ℕ → ℕ → List (Piece × ℕ) → List ℕ
content text i [] = []
content text i (p ∷ ps) = piece_value text i p.1 p.0 ++ content text p.1 ps

-- the offset at which the content ends in a string that ends at j: before the last quote or, if the string is
-- multi-line, before the last three
abbrev pub content_end : Bool → ℕ → ℕ
content_end multi j = if multi then j - 3 else j - 1

-- The content begins at `from`, ends at `to` and has this value, and the string ends at `end`. The content consists of
-- pieces up to the run of quotes at `at` that closes the string, and of the first one or two quotes of this run if it
-- has more than three.
pub record IsContent (q : ℕ) (multi : Bool) (text : List ℕ) (from : ℕ) (value : List ℕ) (to end : ℕ) : Type 0 where
  pub pieces : List (Piece × ℕ)
  pub at : ℕ
  pub cut : Cut q multi text from pieces at
  pub closes : IsClose q multi text at end
  pub to_is : to ≡ content_end multi end
  pub value_is : value ≡ content text from pieces ++ slice_range text at to

-- From `from` on there are pieces of content, and after them there is the fault e. The text was read up to j.
pub record IsContentCutOff (q : ℕ) (multi : Bool) (start : ℕ) (text : List ℕ) (from j : ℕ) (e : Error) : Type 0 where
  pub pieces : List (Piece × ℕ)
  pub at : ℕ
  pub cut : Cut q multi text from pieces at
  pub fault : IsContentFault q multi start text at j e

-- Between two offsets there is a byte whose value may differ from its text: a carriage return or, in a basic string, a
-- backslash.
abbrev pub HasChange : ℕ → List ℕ → ℕ → ℕ → Type 0
HasChange q text from to =
    (k : ℕ) × (from ≤ k) × (k < to)
    × (((q ≡ quotation_mark) × (slice_index text k ≡ backslash)) ⊎ (slice_index text k ≡ carriage_return))

-- In the content that begins at `from`, before the first fault or the closing quotes, there is a byte whose value may
-- differ from its text. So the value may have to be copied.
pub record NeedsCopy (q : ℕ) (multi : Bool) (text : List ℕ) (from : ℕ) : Type 0 where
  pub pieces : List (Piece × ℕ)
  pub at : ℕ
  pub cut : Cut q multi text from pieces at
  pub change : HasChange q text from at

-- ---- strings

-- q is a quote, `quotation-mark = %x22` or `apostrophe = %x27`.
abbrev pub IsQuote : ℕ → Type 0
IsQuote q = (q ≡ quotation_mark) ⊎ (q ≡ apostrophe)

-- whether the quote at i is the first of three equal ones, which open a multi-line string
abbrev pub opens_multi : List ℕ → ℕ → Bool
opens_multi text i = slice_index text (i + 1) == slice_index text i && slice_index text (i + 2) == slice_index text i

-- The content of the string at i begins at `from`: after the opening quotes and, in a multi-line string, after a line
-- end that follows them directly (`ml-basic-string-delim [ newline ]`, `ml-literal-string-delim [ newline ]`).
abbrev pub ContentFrom : Bool → List ℕ → ℕ → ℕ → Type 0
ContentFrom false text i from = from ≡ i + 1
ContentFrom true text i from = LineEnd text (i + 3) from ⊎ (NoLineEnd text (i + 3) × (from ≡ i + 3))

-- The span of a string: that of its content or, if it is an empty single-line string, that of its opening quote.
abbrev pub content_span : Bool → ℕ → ℕ → ℕ → Span
content_span multi i from to =
    if not multi && from == to then record { start = i; end = i + 1 } else record { start = from; end = to }

-- The text from i to j, `source`, is a string with this span and value:
-- `string = ml-basic-string / basic-string / ml-literal-string / literal-string`
-- `basic-string = quotation-mark *basic-char quotation-mark`
-- `ml-basic-string = ml-basic-string-delim [ newline ] ml-basic-body ml-basic-string-delim`
-- `literal-string = apostrophe *literal-char apostrophe`
-- `ml-literal-string = ml-literal-string-delim [ newline ] ml-literal-body ml-literal-string-delim`
pub record IsString (text : List ℕ) (i j : ℕ) (span : Span) (source value : List ℕ) (multi : Bool) : Type 0 where
  pub from : ℕ
  pub to : ℕ
  pub quote : IsQuote (slice_index text i)
  pub form : multi ≡ opens_multi text i
  pub begins : ContentFrom multi text i from
  pub content_is : IsContent (slice_index text i) multi text from value to j
  pub source_is : source ≡ slice_range text i j
  pub span_is : span ≡ content_span multi i from to

-- The quote at i opens a string that is not valid, and the fault is e. The text was read up to j.
pub record IsNoString (text : List ℕ) (i j : ℕ) (e : Error) : Type 0 where
  pub from : ℕ
  pub quote : IsQuote (slice_index text i)
  pub begins : ContentFrom (opens_multi text i) text i from
  pub fault : IsContentCutOff (slice_index text i) (opens_multi text i) i text from j e

-- The quote at i opens a string whose content has a carriage return or, in a basic string, a backslash.
pub record NeedsMemory (text : List ℕ) (i : ℕ) : Type 0 where
  pub from : ℕ
  pub quote : IsQuote (slice_index text i)
  pub begins : ContentFrom (opens_multi text i) text i from
  pub copy : NeedsCopy (slice_index text i) (opens_multi text i) text from

-- The string from i to j is only two quotes, so it is empty and single-line.
abbrev pub IsEmptyOnOneLine : ℕ → ℕ → Type 0
IsEmptyOnOneLine i j = j ≡ i + 2

-- An empty single-line string is borrowed. Any other string is borrowed if and only if its value equals the text at its
-- span.
abbrev pub Borrows : {Z : Type 0} → List ℕ → ℕ → ℕ → Span → CowStr Z → Type 0
Borrows text i j span val =
    (IsEmptyOnOneLine i j → IsBorrowedStr val)
    × ((IsEmptyOnOneLine i j → ⊥) → (IsBorrowedStr val ↔ (cow_str_bytes val ≡ slice_range text span.start span.end)))

-- `Borrows` in terms of the span: a string is borrowed if and only if its value equals the text at its span, or if the
-- value is empty and the span is one quote, as for an empty single-line string.
abbrev pub BorrowsWhereSame : {Z : Type 0} → List ℕ → Span → CowStr Z → Type 0
BorrowsWhereSame text span val = IsBorrowedStr val
    ↔ ((cow_str_bytes val ≡ slice_range text span.start span.end)
    ⊎ ((cow_str_bytes val ≡ []) × IsQuote (slice_index text span.start) × (span.end ≡ span.start + 1)))
