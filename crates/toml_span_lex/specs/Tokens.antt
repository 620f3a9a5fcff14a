-- Tokens, their names in errors, and the token or fault at an offset of a text.
use Rattle.std.specs.Prelude.{◌≡◌, ℕ, ◌+◌, ◌<◌, ◌⊎◌, Bool, true, false, ◌||◌, ◌==◌, if◌then◌else◌, List, slice_index}
use Rattle.std.specs.Prelude.{slice_range, codes}
use Rattle.std.specs.Cow.{cow_str_bytes}
use Rattle.toml_span_lex.specs.Bytes.{line_feed, equals, period, comma, colon, plus, left_brace, right_brace}
use Rattle.toml_span_lex.specs.Bytes.{left_bracket, right_bracket, hash, quotation_mark, apostrophe, is_blank}
use Rattle.toml_span_lex.specs.Bytes.{is_keylike, is_printed, MaximalRun}
use Rattle.toml_span_lex.specs.Text.{LineEnd, CharAt}
use Rattle.toml_span_lex.specs.Strings.{IsString, IsNoString}
use Rattle.toml_span_lex.specs.declared.span.Span.{Span}
use Rattle.toml_span_lex.specs.declared.tokens.Token.{Token}
use Rattle.toml_span_lex.specs.declared.tokens.Token.TheVariants as tokens
use Rattle.toml_span_lex.specs.declared.tokens.Error.{Error}
use Rattle.toml_span_lex.specs.declared.tokens.Error.TheVariants as errors

-- whether the character is one of = . , : + { } [ ]
abbrev pub is_punctuator : ℕ → Bool
is_punctuator c =
    c == equals || c == period || c == comma || c == colon || c == plus
    || c == left_brace || c == right_brace || c == left_bracket || c == right_bracket

-- ---- tokens by their contents

pub data Lexeme : Type 0 where
  whitespace : List ℕ → Lexeme
  newline : Lexeme
  comment : List ℕ → Lexeme
  -- one of the nine bytes that are tokens by themselves
  punctuator : ℕ → Lexeme
  keylike : List ℕ → Lexeme
  -- the text with its quotes, the value, and whether it is a multi-line string
  string : List ℕ → List ℕ → Bool → Lexeme

abbrev pub lexeme : Token → Lexeme
lexeme (tokens.Whitespace s) = whitespace s.now
lexeme tokens.Newline = newline
lexeme (tokens.Comment s) = comment s.now
lexeme tokens.Equals = punctuator equals
lexeme tokens.Period = punctuator period
lexeme tokens.Comma = punctuator comma
lexeme tokens.Colon = punctuator colon
lexeme tokens.Plus = punctuator plus
lexeme tokens.LeftBrace = punctuator left_brace
lexeme tokens.RightBrace = punctuator right_brace
lexeme tokens.LeftBracket = punctuator left_bracket
lexeme tokens.RightBracket = punctuator right_bracket
lexeme (tokens.Keylike s) = keylike s.now
lexeme (tokens.String src val multiline) = string src.now (cow_str_bytes val) multiline

-- the name of a punctuator in errors
abbrev pub punctuator_words : ℕ → List ℕ
punctuator_words c =
    if c == equals then codes "an equals"
    else if c == period then codes "a period"
    else if c == comma then codes "a comma"
    else if c == colon then codes "a colon"
    else if c == plus then codes "a plus"
    else if c == left_brace then codes "a left brace"
    else if c == right_brace then codes "a right brace"
    else if c == left_bracket then codes "a left bracket"
    else codes "a right bracket"

-- the name of a token in errors
abbrev pub words : Lexeme → List ℕ
words (whitespace s) = codes "whitespace"
words newline = codes "a newline"
words (comment s) = codes "a comment"
words (punctuator c) = punctuator_words c
words (keylike s) = codes "an identifier"
words (string src value true) = codes "a multiline string"
words (string src value false) = codes "a string"

-- ---- tokens and faults at an offset

-- The text from i to j is `part`, the longest run of bytes from i on that pass the test p. It has at least one byte.
abbrev pub RunAt : (ℕ → Bool) → List ℕ → ℕ → ℕ → List ℕ → Type 0
RunAt p text i j part = (i < j) × MaximalRun p text i j × (part ≡ slice_range text i j)

-- The text from i to j is this token, which is not a string: a punctuator, or one of these:
-- `ws = *wschar`, of one character at least
-- `newline = %x0A / %x0D.0A`
-- `comment = comment-start-symbol *non-eol`
-- `unquoted-key = 1*( ALPHA / DIGIT / %x2D / %x5F )`, or a boolean, or a part of a number or a date
abbrev pub IsToken : List ℕ → ℕ → ℕ → Lexeme → Type 0
IsToken text i j (whitespace s) = RunAt is_blank text i j s
IsToken text i j newline = LineEnd text i j
IsToken text i j (comment s) = (slice_index text i ≡ hash) × RunAt is_printed text i j s
IsToken text i j (punctuator c) = (is_punctuator c ≡ true) × (slice_index text i ≡ c) × (j ≡ i + 1)
IsToken text i j (keylike s) = RunAt is_keylike text i j s
IsToken text i j (string src value multi) = ⊥

-- The text from i to j is this token, with this span. The span is i..j, except for a string.
abbrev pub IsLexeme : List ℕ → ℕ → ℕ → Span → Lexeme → Type 0
IsLexeme text i j span (string src value multi) = IsString text i j span src value multi
IsLexeme text i j span l = IsToken text i j l × (span ≡ record { start = i; end = j })

-- whether this character alone decides which token begins with it: a blank, a punctuator, a line feed or a hash
abbrev pub begins_alone : ℕ → Bool
begins_alone c = is_blank c || is_punctuator c || c == line_feed || c == hash

-- whether this character begins a token: one of `begins_alone`, a character of a bare key, or a quote; CRLF is one line
-- feed
abbrev pub begins_token : ℕ → Bool
begins_token c = (begins_alone c || is_keylike c) || (c == quotation_mark || c == apostrophe)

-- No token begins with the character at i, which ends at j, and the error reports this character.
abbrev pub IsUnexpected : List ℕ → ℕ → ℕ → Error → Type 0
IsUnexpected text i j (errors.Unexpected at c) = (at ≡ i) × CharAt text i c j × (begins_token c ≡ false)
IsUnexpected text i j _ = ⊥

-- No token can be read at i, and the fault is e. The text was read up to j: after the character or line end that e
-- reports, after the digits or blanks of an invalid escape, or up to the end of the text.
abbrev pub IsNoToken : List ℕ → ℕ → ℕ → Error → Type 0
IsNoToken text i j e = IsUnexpected text i j e ⊎ IsNoString text i j e
