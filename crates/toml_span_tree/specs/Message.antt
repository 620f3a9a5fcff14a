-- What is printed for an error: the code of its kind, and its message.
use Rattle.std.specs.Prelude.{ℕ, List, ◌++◌, if◌then◌else◌, codes, encode_utf8}
use Rattle.std.specs.Char.{is_whitespace}
use Rattle.std.specs.Fmt.{decimal}
use Rattle.toml_span_lex.specs.declared.span.Span.{Span}
use Rattle.toml_span_tree.specs.Listed.{escaped_char, listed, quoted, quoted_key}
use Rattle.toml_span_tree.specs.Error.{Kind, unexpected_eof, exceeded_depth_limit, invalid_char_in_string}
use Rattle.toml_span_tree.specs.Error.{invalid_escape, invalid_hex_escape, invalid_escape_value, unexpected}
use Rattle.toml_span_tree.specs.Error.{unterminated_string, invalid_number, invalid_datetime, out_of_range, wanted}
use Rattle.toml_span_tree.specs.Error.{duplicate_table, duplicate_key, redefine_as_array, multiline_string_key, custom}
use Rattle.toml_span_tree.specs.Error.{dotted_key_invalid_type, unexpected_keys, unquoted_string, missing_field}
use Rattle.toml_span_tree.specs.Error.{deprecated, unexpected_value, marked}

-- the code of a kind of error
abbrev pub code_of : Kind → List ℕ
code_of unexpected_eof = codes "unexpected-eof"
code_of exceeded_depth_limit = codes "exceeded-depth-limit"
code_of (invalid_char_in_string c) = codes "invalid-char-in-string"
code_of (invalid_escape c) = codes "invalid-escape"
code_of (invalid_hex_escape c) = codes "invalid-hex-escape"
code_of (invalid_escape_value value) = codes "invalid-escape-value"
code_of (unexpected c) = codes "unexpected"
code_of unterminated_string = codes "unterminated-string"
code_of invalid_number = codes "invalid-number"
code_of invalid_datetime = codes "invalid-datetime"
code_of (out_of_range type) = codes "out-of-range"
code_of (wanted expected found) = codes "wanted"
code_of (duplicate_table name first) = codes "duplicate-table"
code_of (duplicate_key key first) = codes "duplicate-key"
code_of redefine_as_array = codes "redefine-as-array"
code_of multiline_string_key = codes "multiline-string-key"
code_of (custom message) = codes "custom"
code_of (dotted_key_invalid_type first) = codes "dotted-key-invalid-type"
code_of (unexpected_keys keys expected) = codes "unexpected-keys"
code_of unquoted_string = codes "unquoted-string"
code_of (missing_field field) = codes "missing-field"
code_of (deprecated old new) = codes "deprecated"
code_of (unexpected_value expected value) = codes "unexpected-value"
code_of (marked code message places) = code

-- a character as it appears in a message: white space other than a space as an escape, any other character as itself
abbrev pub char_text : ℕ → List ℕ
char_text c = if is_whitespace c then escaped_char c else encode_utf8 c

abbrev pub deprecated_text : List ℕ → List ℕ → List ℕ
deprecated_text old new =
    codes "field '" ++ old ++ codes "' is deprecated, '" ++ new ++ codes "' has replaced it"

abbrev pub unexpected_keys_text : List (List ℕ × Span) → List (List ℕ) → List ℕ
unexpected_keys_text keys expected =
    codes "unexpected keys in table: `" ++ listed quoted_key keys ++ codes "`\nexpected: "
    ++ listed quoted expected

abbrev pub unexpected_value_text : List (List ℕ) → List ℕ
unexpected_value_text expected = codes "expected '" ++ listed quoted expected ++ codes "'"

-- the message of an error of this kind
abbrev pub display_text : Kind → List ℕ
display_text unexpected_eof = codes "unexpected eof encountered"
display_text exceeded_depth_limit = codes "input exceeds the maximum allowed nesting depth"
display_text (invalid_char_in_string c) = codes "invalid character in string: `" ++ char_text c ++ codes "`"
display_text (invalid_escape c) = codes "invalid escape character in string: `" ++ char_text c ++ codes "`"
display_text (invalid_hex_escape c) = codes "invalid hex escape character in string: `" ++ char_text c ++ codes "`"
display_text (invalid_escape_value value) = codes "invalid escape value: `" ++ decimal value ++ codes "`"
display_text (unexpected c) = codes "unexpected character found: `" ++ char_text c ++ codes "`"
display_text unterminated_string = codes "unterminated string"
display_text invalid_number = codes "invalid number"
display_text invalid_datetime = codes "invalid datetime"
display_text (out_of_range type) = codes "out of range of '" ++ type ++ codes "'"
display_text (wanted expected found) = codes "expected " ++ expected ++ codes ", found " ++ found
display_text (duplicate_table name first) = codes "redefinition of table `" ++ name ++ codes "`"
display_text (duplicate_key key first) = codes "duplicate key: `" ++ key ++ codes "`"
display_text redefine_as_array = codes "table redefined as array"
display_text multiline_string_key = codes "multiline strings are not allowed for key"
display_text (custom message) = message
display_text (dotted_key_invalid_type first) = codes "dotted key attempted to extend non-table type"
display_text (unexpected_keys keys expected) = unexpected_keys_text keys expected
display_text unquoted_string = codes "invalid TOML value, did you mean to use a quoted string?"
display_text (missing_field field) = codes "missing field '" ++ field ++ codes "' in table"
display_text (deprecated old new) = deprecated_text old new
display_text (unexpected_value expected value) = unexpected_value_text expected
display_text (marked code message places) = message
