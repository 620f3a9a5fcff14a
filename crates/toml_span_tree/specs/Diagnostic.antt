-- An error as a diagnostic: a code, a message and labels.
use Rattle.std.specs.Prelude.{ℕ, List, [], ◌∷◌, ◌++◌, Bool, true, false, codes, length, map, string_bytes}
use Rattle.std.specs.Fmt.{decimal}
use Rattle.toml_span_lex.specs.declared.span.Span.{Span}
use Rattle.toml_span_tree.specs.declared.diagnostic.Label.{Label}
use Rattle.toml_span_tree.specs.Error.{Kind, unexpected_eof, exceeded_depth_limit, invalid_char_in_string}
use Rattle.toml_span_tree.specs.Error.{invalid_escape, invalid_hex_escape, invalid_escape_value, unexpected}
use Rattle.toml_span_tree.specs.Error.{unterminated_string, invalid_number, invalid_datetime, out_of_range, wanted}
use Rattle.toml_span_tree.specs.Error.{duplicate_table, duplicate_key, redefine_as_array, multiline_string_key, custom}
use Rattle.toml_span_tree.specs.Error.{dotted_key_invalid_type, unexpected_keys, unquoted_string, missing_field}
use Rattle.toml_span_tree.specs.Error.{deprecated, unexpected_value, marked}
use Rattle.toml_span_tree.specs.Listed.{listed, quoted}
use Rattle.toml_span_tree.specs.Message.{char_text}

-- a label as plain data
pub record LabelContent (F : Type 0) : Type 0 where
  pub primary : Bool
  pub file : F
  pub span : Span
  pub message : List ℕ

abbrev pub label_content : {F : Type 0} → Label F → LabelContent F
label_content label =
    record { primary = label.primary; file = label.file; span = label.span; message = string_bytes label.message }

abbrev pub unexpected_keys_message : ℕ → List (List ℕ) → List ℕ
unexpected_keys_message count expected =
    codes "found " ++ decimal count ++ codes " unexpected keys, expected: " ++ listed quoted expected

-- the message for a kind of error; it is empty if the label alone describes the error
abbrev pub message_of : Kind → List ℕ
message_of unexpected_eof = codes "unexpected end of file"
message_of exceeded_depth_limit = codes "input exceeds the maximum allowed nesting depth"
message_of (out_of_range type) = codes "number is out of range of '" ++ type ++ codes "'"
message_of redefine_as_array = codes "table redefined as array"
message_of (custom message) = message
message_of (dotted_key_invalid_type first) = codes "dotted key attempted to extend non-table type"
message_of (unexpected_keys keys expected) = unexpected_keys_message (length keys) expected
message_of (missing_field field) = codes "missing field '" ++ field ++ codes "'"
message_of (deprecated old new) =
    codes "deprecated field enountered, '" ++ new ++ codes "' should be used instead"
message_of (unexpected_value expected value) = codes "expected '" ++ listed quoted expected ++ codes "'"
message_of (marked code message places) = message
message_of _ = []

-- the text of the label at the error's own span
abbrev pub label_text_of : Kind → List ℕ
label_text_of exceeded_depth_limit = codes "too deeply nested"
label_text_of (invalid_char_in_string c) = codes "invalid character '" ++ char_text c ++ codes "' in string"
label_text_of (invalid_escape c) = codes "invalid escape character '" ++ char_text c ++ codes "' in string"
label_text_of (invalid_hex_escape c) = codes "invalid hex escape '" ++ char_text c ++ codes "'"
label_text_of (invalid_escape_value value) = codes "invalid escape value"
label_text_of (unexpected c) = codes "unexpected character '" ++ char_text c ++ codes "'"
label_text_of unterminated_string = codes "eof reached before string terminator"
label_text_of invalid_number = codes "unable to parse number"
label_text_of invalid_datetime = codes "unable to parse datetime"
label_text_of (wanted expected found) = codes "expected " ++ expected
label_text_of (duplicate_table name first) = codes "duplicate table"
label_text_of (duplicate_key key first) = codes "duplicate key"
label_text_of multiline_string_key = codes "multiline keys are not allowed"
label_text_of (dotted_key_invalid_type first) = codes "attempted to extend table here"
label_text_of unquoted_string = codes "string is not quoted"
label_text_of (missing_field field) = codes "table with missing field"
label_text_of (deprecated old new) = codes "deprecated field"
label_text_of (unexpected_value expected value) = codes "unexpected value"
label_text_of _ = []

abbrev pub primary : {F : Type 0} → F → Span → List ℕ → LabelContent F
primary file span message = record { primary = true; file = file; span = span; message = message }

abbrev pub secondary : {F : Type 0} → F → Span → List ℕ → LabelContent F
secondary file span message = record { primary = false; file = file; span = span; message = message }

-- the label at the error's own span
abbrev pub own_label : {F : Type 0} → F → Span → Kind → LabelContent F
own_label file span kind = primary file span (label_text_of kind)

-- all labels of an error whose own span is `span`, in the order in which a diagnostic has them
abbrev pub labels_of : {F : Type 0} → F → Span → Kind → List (LabelContent F)
labels_of file span (duplicate_table name first) =
    secondary file first (codes "first table instance") ∷ own_label file span (duplicate_table name first) ∷ []
labels_of file span (duplicate_key key first) =
    secondary file first (codes "first key instance") ∷ own_label file span (duplicate_key key first) ∷ []
labels_of file span (dotted_key_invalid_type first) =
    own_label file span (dotted_key_invalid_type first) ∷ secondary file first (codes "non-table") ∷ []
labels_of file span (unexpected_keys keys expected) = map (λ key. secondary file key.1 []) keys
labels_of file span (marked code message places) =
    own_label file span (marked code message places) ∷ map (λ place. secondary file place.1 place.0) places
labels_of file span kind = own_label file span kind ∷ []
