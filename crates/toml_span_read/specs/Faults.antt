-- Faults as errors, the names of tokens in errors, and how values begin. `Read` says which fault a text has, and where.
use Rattle.std.specs.Prelude.{◌≡◌, ℕ, ◌+◌, ◌≤◌, Bool, ◌||◌, ◌==◌, List, length}
use Rattle.std.specs.Prelude.{if◌then◌else◌, Some, codes}
use Rattle.std.specs.Char.{is_ascii_digit}
use Rattle.toml_span_lex.specs.declared.tokens.Error.{Error}
use Rattle.toml_span_lex.specs.declared.tokens.Error.TheVariants as errors
use Rattle.toml_span_lex.specs.Tokens.{Lexeme, whitespace, newline, comment, punctuator, keylike, string}
use Rattle.toml_span_lex.specs.Bytes.{is_keylike, plus, period, dash, colon, comma, equals, left_brace}
use Rattle.toml_span_lex.specs.Bytes.{left_bracket, line_feed, right_brace}
use Rattle.toml_span_lex.specs.declared.span.Span.{Span}
use Rattle.toml_span_lex.specs.Lines.{line_info}
use Rattle.toml_span_tree.specs.Error as tree
use Rattle.toml_span_read.specs.declared.fault.ExpectedToken.{ExpectedToken}
use Rattle.toml_span_read.specs.declared.fault.ExpectedToken.TheVariants as expected_tokens
use Rattle.toml_span_read.specs.declared.fault.FoundToken.{FoundToken}
use Rattle.toml_span_read.specs.declared.fault.FoundToken.TheVariants as found_tokens
use Rattle.toml_span_read.specs.declared.fault.Fault.{Fault}
use Rattle.toml_span_read.specs.declared.fault.FaultKind.{FaultKind}
use Rattle.toml_span_read.specs.declared.fault.FaultKind.TheVariants as kinds

-- ---- words

-- the name of the expected token in an error
abbrev pub expected_words : ExpectedToken → List ℕ
expected_words expected_tokens.Value = codes "a value"
expected_words expected_tokens.TableKey = codes "a table key"
expected_words expected_tokens.Equals = codes "an equals"
expected_words expected_tokens.RightBracket = codes "a right bracket"
expected_words expected_tokens.Comma = codes "a comma"
expected_words expected_tokens.Newline = codes "newline"

-- the name of the found token in an error
abbrev pub found_words : FoundToken → List ℕ
found_words found_tokens.EndOfText = codes "eof"
found_words found_tokens.Whitespace = codes "whitespace"
found_words found_tokens.Newline = codes "a newline"
found_words found_tokens.Comment = codes "a comment"
found_words found_tokens.Equals = codes "an equals"
found_words found_tokens.Period = codes "a period"
found_words found_tokens.Comma = codes "a comma"
found_words found_tokens.Colon = codes "a colon"
found_words found_tokens.Plus = codes "a plus"
found_words found_tokens.LeftBrace = codes "a left brace"
found_words found_tokens.RightBrace = codes "a right brace"
found_words found_tokens.LeftBracket = codes "a left bracket"
found_words found_tokens.RightBracket = codes "a right bracket"
found_words found_tokens.Keylike = codes "an identifier"
found_words found_tokens.OneLineString = codes "a string"
found_words found_tokens.MultilineString = codes "a multiline string"

-- ---- faults as errors

-- a fault whose span is the one byte at this offset
abbrev pub fault_at : FaultKind → ℕ → Fault
fault_at kind at = record { kind = kind; span = record { start = at; end = at + 1 } }

-- the kind of error that reports this fault
abbrev pub error_kind : FaultKind → tree.Kind
error_kind kinds.UnexpectedEof = tree.unexpected_eof
error_kind kinds.ExceededDepthLimit = tree.exceeded_depth_limit
error_kind (kinds.InvalidCharInString c) = tree.invalid_char_in_string c
error_kind (kinds.InvalidEscape c) = tree.invalid_escape c
error_kind (kinds.InvalidHexEscape c) = tree.invalid_hex_escape c
error_kind (kinds.InvalidEscapeValue value) = tree.invalid_escape_value value
error_kind (kinds.Unexpected c) = tree.unexpected c
error_kind kinds.UnterminatedString = tree.unterminated_string
error_kind kinds.InvalidNumber = tree.invalid_number
error_kind kinds.InvalidDatetime = tree.invalid_datetime
error_kind kinds.UnquotedString = tree.unquoted_string
error_kind (kinds.Wanted expected found) = tree.wanted (expected_words expected) (found_words found)
error_kind kinds.MultilineStringKey = tree.multiline_string_key
error_kind (kinds.DottedKeyInvalidType first) = tree.dotted_key_invalid_type first

-- The span starts inside the text or at its end, and is not reversed. It may end after the text.
pub record StartsInside (text : List ℕ) (span : Span) : Type 0 where
  pub within : span.start ≤ length text
  pub forward : span.start ≤ span.end

-- the error that reports a fault of a text
abbrev pub fault_content : List ℕ → Fault → tree.ErrorContent
fault_content text fault =
    record { kind = error_kind fault.kind; span = fault.span; line_info = Some (line_info text fault.span.start) }

-- ---- faults of the tokenizer

-- The fault for an error of the tokenizer. Errors about keys and expected tokens do not come from reading a token, and
-- do not occur here.
abbrev pub token_fault : Error → Fault
token_fault (errors.InvalidCharInString at c) = fault_at (kinds.InvalidCharInString c) at
token_fault (errors.InvalidEscape at c) = fault_at (kinds.InvalidEscape c) at
token_fault (errors.InvalidHexEscape at c) = fault_at (kinds.InvalidHexEscape c) at
token_fault (errors.InvalidEscapeValue at len value) =
    record { kind = kinds.InvalidEscapeValue value; span = record { start = at; end = at + len } }
token_fault (errors.NewlineInString at) = fault_at (kinds.InvalidCharInString line_feed) at
token_fault (errors.Unexpected at c) = fault_at (kinds.Unexpected c) at
token_fault (errors.UnterminatedString at) = fault_at kinds.UnterminatedString at
token_fault (errors.MultilineStringKey start end) =
    record { kind = kinds.MultilineStringKey; span = record { start = start; end = end } }
token_fault (errors.Wanted at expected found) = fault_at kinds.UnexpectedEof at

-- ---- a token other than the expected one

-- the `FoundToken` for a token that was found where another one was expected
abbrev pub found_of : Lexeme → FoundToken
found_of (whitespace s) = found_tokens.Whitespace
found_of newline = found_tokens.Newline
found_of (comment s) = found_tokens.Comment
found_of (keylike s) = found_tokens.Keylike
found_of (string src value multi) = if multi then found_tokens.MultilineString else found_tokens.OneLineString
found_of (punctuator c) =
    if c == equals then found_tokens.Equals
    else if c == period then found_tokens.Period
    else if c == comma then found_tokens.Comma
    else if c == colon then found_tokens.Colon
    else if c == plus then found_tokens.Plus
    else if c == left_brace then found_tokens.LeftBrace
    else if c == right_brace then found_tokens.RightBrace
    else if c == left_bracket then found_tokens.LeftBracket
    else found_tokens.RightBracket

-- The fault for a token at i that is not the expected one, or for the end of the text there. Its span begins at i and
-- is as long as the name of what was found, so it may end after the text.
abbrev pub wanted_fault : ExpectedToken → FoundToken → ℕ → Fault
wanted_fault expected found i =
    record { kind = kinds.Wanted expected found; span = record { start = i; end = i + length (found_words found) } }

-- ---- how values begin

-- whether a value that begins with this byte is read as a number, boolean, date or time: a letter, digit, dash,
-- underscore or plus sign
abbrev pub begins_bare : ℕ → Bool
begins_bare c = is_keylike c || c == plus

-- whether this byte opens an array or an inline table
abbrev pub opens_nested : ℕ → Bool
opens_nested c = c == left_bracket || c == left_brace

-- whether a number, except for `inf` and `nan` without a sign, can begin with this byte: a digit, a dash or a plus sign
abbrev pub begins_number : ℕ → Bool
begins_number c = (is_ascii_digit c || c == dash) || c == plus
