-- The contents of an error as plain data: a string is the list of its bytes, without capacity or address.
use Rattle.std.specs.Prelude.{◌≡◌, ℕ, List, Option, map, String, string_bytes}
use Rattle.std.specs.Global.{Global}
use Rattle.std.specs.Option.{option_map}
use Rattle.std.specs.Cow.{cow_str_bytes}
use Rattle.toml_span_lex.specs.declared.span.Span.{Span}
use Rattle.toml_span_lex.specs.declared.stop.Stop.{Stop}
use Rattle.toml_span_lex.specs.declared.stop.Stop.TheVariants as stop
use Rattle.toml_span_tree.specs.declared.error.Error.{Error}
use Rattle.toml_span_tree.specs.declared.error.ErrorKind.{ErrorKind}
use Rattle.toml_span_tree.specs.declared.error.ErrorKind.TheVariants as kinds

-- What is wrong. A character is given by its code point, and a string by the list of its bytes.
pub data Kind : Type 0 where
  unexpected_eof : Kind
  exceeded_depth_limit : Kind
  invalid_char_in_string : ℕ → Kind
  invalid_escape : ℕ → Kind
  invalid_hex_escape : ℕ → Kind
  invalid_escape_value : ℕ → Kind
  unexpected : ℕ → Kind
  unterminated_string : Kind
  invalid_number : Kind
  invalid_datetime : Kind
  -- the name of the type that can't represent the number
  out_of_range : List ℕ → Kind
  -- what was expected, and what was found
  wanted : List ℕ → List ℕ → Kind
  -- the table's name, and the span of the earlier header's line
  duplicate_table : List ℕ → Span → Kind
  -- the key's name, and the span of the earlier key
  duplicate_key : List ℕ → Span → Kind
  redefine_as_array : Kind
  multiline_string_key : Kind
  custom : List ℕ → Kind
  -- the span of the last part of the earlier value's key
  dotted_key_invalid_type : Span → Kind
  -- the keys with their spans, and the names of the expected ones
  unexpected_keys : List (List ℕ × Span) → List (List ℕ) → Kind
  unquoted_string : Kind
  missing_field : List ℕ → Kind
  -- the old name and the new one
  deprecated : List ℕ → List ℕ → Kind
  -- the values that were expected, and the text of the one that was found, if it is known
  unexpected_value : List (List ℕ) → Option (List ℕ) → Kind
  -- the code, the message, and the text and span of each further label
  marked : List ℕ → List ℕ → List (List ℕ × Span) → Kind

-- what is wrong, and where
pub record ErrorContent : Type 0 where
  pub kind : Kind
  pub span : Span
  pub line_info : Option (ℕ × ℕ)

-- keys as plain data, each with its span
abbrev pub marked_keys : List (String Global × Span) → List (List ℕ × Span)
marked_keys keys = map (λ key. (string_bytes key.0, key.1)) keys

-- the kind of an error as plain data
abbrev pub kind_of : ErrorKind → Kind
kind_of kinds.UnexpectedEof = unexpected_eof
kind_of kinds.ExceededDepthLimit = exceeded_depth_limit
kind_of (kinds.InvalidCharInString c) = invalid_char_in_string c
kind_of (kinds.InvalidEscape c) = invalid_escape c
kind_of (kinds.InvalidHexEscape c) = invalid_hex_escape c
kind_of (kinds.InvalidEscapeValue value) = invalid_escape_value value
kind_of (kinds.Unexpected c) = unexpected c
kind_of kinds.UnterminatedString = unterminated_string
kind_of kinds.InvalidNumber = invalid_number
kind_of kinds.InvalidDatetime = invalid_datetime
kind_of (kinds.OutOfRange type) = out_of_range type.now
kind_of (kinds.Wanted expected found) = wanted expected.now found.now
kind_of (kinds.DuplicateTable name first) = duplicate_table (string_bytes name) first
kind_of (kinds.DuplicateKey key first) = duplicate_key (string_bytes key) first
kind_of kinds.RedefineAsArray = redefine_as_array
kind_of kinds.MultilineStringKey = multiline_string_key
kind_of (kinds.Custom message) = custom (cow_str_bytes message)
kind_of (kinds.DottedKeyInvalidType first) = dotted_key_invalid_type first
kind_of (kinds.UnexpectedKeys keys expected) =
    unexpected_keys (marked_keys keys.items) (map string_bytes expected.items)
kind_of kinds.UnquotedString = unquoted_string
kind_of (kinds.MissingField field) = missing_field field.now
kind_of (kinds.Deprecated old new) = deprecated old.now new.now
kind_of (kinds.UnexpectedValue expected value) =
    unexpected_value (map (λ name. name.now) expected.now) (option_map string_bytes value)
kind_of (kinds.Marked code message places) = marked code.now (cow_str_bytes message) (marked_keys places.items)

-- an error as plain data
abbrev pub content_of : Error → ErrorContent
content_of error = record { kind = kind_of error.kind; span = error.span; line_info = error.line_info }

-- `why` is a `Fault` with a value into which the error is converted. `gives` relates each error to its conversion.
abbrev pub IsFaultOf : {E : Type 0} → (Error → E → Type 0) → Error → Stop E → Type 0
IsFaultOf gives error why = (fault : _) × gives error fault × (why ≡ stop.Fault fault)
