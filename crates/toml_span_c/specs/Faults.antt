-- The record of an error, and the numbers and names of kinds of errors.
use Rattle.std.specs.Prelude.{ℕ, ◌==◌, List, [], codes, Option, Some, None, unwrap_or, if◌then◌else◌}
use Rattle.toml_span_lex.specs.declared.span.Span.{Span}
use Rattle.toml_span_tree.specs.Error.{ErrorContent, Kind, unexpected_eof, exceeded_depth_limit, invalid_char_in_string}
use Rattle.toml_span_tree.specs.Error.{invalid_escape, invalid_hex_escape, invalid_escape_value, unexpected}
use Rattle.toml_span_tree.specs.Error.{unterminated_string, invalid_number, invalid_datetime, wanted, duplicate_table}
use Rattle.toml_span_tree.specs.Error.{duplicate_key, redefine_as_array, multiline_string_key, dotted_key_invalid_type}
use Rattle.toml_span_tree.specs.Error.{unquoted_string}
use Rattle.toml_span_c.specs.Records.{no_span, range_of}
use Rattle.toml_span_c.specs.declared.faults.FaultRecord.{FaultRecord}
use Rattle.toml_span_c.specs.declared.records.Range.{Range}
use Rattle.toml_span_report.specs.Places.{clipped_span}

-- the number of a kind of error, or 0 for kinds that `parse` does not return
abbrev pub code_number : Kind → ℕ
code_number unexpected_eof = 1
code_number exceeded_depth_limit = 2
code_number (invalid_char_in_string c) = 3
code_number (invalid_escape c) = 4
code_number (invalid_hex_escape c) = 5
code_number (invalid_escape_value value) = 6
code_number (unexpected c) = 7
code_number unterminated_string = 8
code_number invalid_number = 9
code_number invalid_datetime = 10
code_number (wanted expected found) = 11
code_number (duplicate_table name first) = 12
code_number (duplicate_key name first) = 13
code_number redefine_as_array = 14
code_number multiline_string_key = 15
code_number (dotted_key_invalid_type first) = 16
code_number unquoted_string = 17
code_number _ = 0

-- the name of the kind of error with the number `code`, or an empty text for any other number
abbrev pub code_name : ℕ → List ℕ
code_name code =
    if code == 1 then codes "unexpected-eof"
    else if code == 2 then codes "exceeded-depth-limit"
    else if code == 3 then codes "invalid-char-in-string"
    else if code == 4 then codes "invalid-escape"
    else if code == 5 then codes "invalid-hex-escape"
    else if code == 6 then codes "invalid-escape-value"
    else if code == 7 then codes "unexpected"
    else if code == 8 then codes "unterminated-string"
    else if code == 9 then codes "invalid-number"
    else if code == 10 then codes "invalid-datetime"
    else if code == 11 then codes "wanted"
    else if code == 12 then codes "duplicate-table"
    else if code == 13 then codes "duplicate-key"
    else if code == 14 then codes "redefine-as-array"
    else if code == 15 then codes "multiline-string-key"
    else if code == 16 then codes "dotted-key-invalid-type"
    else if code == 17 then codes "unquoted-string"
    else []

-- the span of the earlier table, key or value, if the error has one
abbrev pub first_of : Kind → Option Span
first_of (duplicate_table name first) = Some first
first_of (duplicate_key name first) = Some first
first_of (dotted_key_invalid_type first) = Some first
first_of _ = None

abbrev pub has_first : Option Span → ℕ
has_first None = 0
has_first (Some first) = 1

-- the part of a span that is in the document, in whole characters
abbrev pub range_in : List ℕ → Span → Range
range_in text span = range_of (clipped_span text span)

-- the record of the error of a document
abbrev pub fault_of : List ℕ → ErrorContent → FaultRecord
fault_of text error = record {
  code = code_number error.kind;
  has_first = has_first (first_of error.kind);
  span = range_in text error.span;
  first = range_in text (unwrap_or (first_of error.kind) no_span);
  line = (unwrap_or error.line_info (0, 0)).0;
  column = (unwrap_or error.line_info (0, 0)).1;
}
