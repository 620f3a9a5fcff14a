-- Why values could not be read as a type, and where.
use Rattle.std.specs.Prelude.{◌≡◌, ◌≤◌, ◌⊎◌, ⊤, ℕ, List, [], ◌∷◌, ◌++◌, map, length, Option, None, Some, codes}
use Rattle.std.specs.Prelude.{decimal, string_bytes}
use Rattle.toml_span_lex.specs.declared.span.Span.{Span}
use Rattle.toml_span_lex.specs.declared.stop.Stop.{Stop}
use Rattle.toml_span_lex.specs.declared.stop.Stop.TheVariants as stop
use Rattle.toml_span_tree.specs.Error.{ErrorContent, Kind, content_of, custom, duplicate_key, marked, missing_field}
use Rattle.toml_span_tree.specs.Error.{wanted}
use Rattle.toml_span_tree.specs.Node.{Node}
use Rattle.toml_span_tree.specs.Path.{Place, place_at}
use Rattle.toml_span_tree.specs.Path as tree
use Rattle.toml_span_tree.specs.Value.{view}
use Rattle.toml_span_tree.specs.declared.value.Value.{Value}
use Rattle.toml_span_lex.specs.Lines.{line_info}
use Rattle.toml_span_read.specs.Data.{depth_limit}
use Rattle.toml_span_report.specs.Names.{nearest}
use Rattle.toml_span_mistakes.specs.UnknownKeys.{listed, named}
use Rattle.toml_span.specs.Parsing.{IsRefusal, IsTree}
use Rattle.toml_span_serde.specs.declared.misfit.Expected.{Expected}
use Rattle.toml_span_serde.specs.declared.misfit.Expected.TheVariants as expected
use Rattle.toml_span_serde.specs.declared.misfit.Found.{Found}
use Rattle.toml_span_serde.specs.declared.misfit.Found.TheVariants as found
use Rattle.toml_span_serde.specs.declared.misfit.Reason.{Reason}
use Rattle.toml_span_serde.specs.declared.misfit.Reason.TheVariants as is
use Rattle.toml_span_serde.specs.declared.misfit.Misfit.{Misfit}
use Rattle.toml_span_serde.specs.declared.misfit.Error.{Error}
use Rattle.toml_span_serde.specs.declared.misfit.Error.TheVariants as error
use Rattle.toml_span_serde.specs.declared.path.Step.{Step}
use Rattle.toml_span_serde.specs.declared.path.Step.TheVariants as step

-- the name of an expected kind, with its article
abbrev pub words_of : Expected → List ℕ
words_of expected.Boolean = codes "a boolean"
words_of expected.Integer = codes "an integer"
words_of expected.Float = codes "a float"
words_of expected.Character = codes "a character"
words_of expected.String = codes "a string"
words_of expected.PlainString = codes "a string without escapes"
words_of expected.Array = codes "an array"
words_of expected.Table = codes "a table"
words_of expected.Key = codes "a key"
words_of expected.Variant = codes "the name of a variant"

-- the name of the kind that was found
abbrev pub name_of : Found → List ℕ
name_of found.String = codes "string"
name_of found.Integer = codes "integer"
name_of found.Float = codes "float"
name_of found.Boolean = codes "boolean"
name_of found.Datetime = codes "datetime"
name_of found.Array = codes "array"
name_of found.Table = codes "table"
name_of found.Key = codes "key"
name_of found.Nothing = codes "nothing"

-- a text that lists the expected names, or the text `none` if no names are expected
abbrev pub expected_text : List ℕ → List (List ℕ) → List ℕ
expected_text none [] = none
expected_text none (a ∷ []) = codes "expected " ++ named a
expected_text none (a ∷ b ∷ names) = codes "expected one of " ++ listed (a ∷ b ∷ names)

-- the kinds after the first, with "or" before the last one
abbrev pub more_kinds_text : List Expected → List ℕ
more_kinds_text [] = []
more_kinds_text (e ∷ []) = codes " or " ++ words_of e
more_kinds_text (e ∷ d ∷ kinds) = codes ", " ++ words_of e ++ more_kinds_text (d ∷ kinds)

-- the kinds, as in `an integer, a string or a table`
abbrev pub kinds_text : List Expected → List ℕ
kinds_text [] = []
kinds_text (e ∷ kinds) = words_of e ++ more_kinds_text kinds

-- the text of a reason
abbrev pub reason_text : Reason → List ℕ
reason_text (is.Wanted e f) = codes "expected " ++ words_of e ++ codes ", found " ++ name_of f
reason_text (is.WantedOneOf es f) = codes "expected " ++ kinds_text es.items ++ codes ", found " ++ name_of f
reason_text (is.Unexpected f) = codes "unexpected " ++ name_of f
reason_text (is.MissingField name) = codes "missing key " ++ named (string_bytes name)
reason_text (is.DuplicateField name first) = codes "duplicate key: " ++ named (string_bytes name)
reason_text (is.UnknownField name expected) = codes "unknown key " ++ named (string_bytes name) ++ codes ", "
    ++ expected_text (codes "this table can't have keys") (map string_bytes expected.items)
reason_text (is.UnknownVariant name expected) =
    expected_text (codes "no value is accepted") (map string_bytes expected.items)
    ++ codes ", found " ++ named (string_bytes name)
reason_text (is.Length count) = codes "wrong number of elements: " ++ decimal count
reason_text (is.TooLong count) = codes "too many elements, expected " ++ decimal count
reason_text is.OutOfRange = codes "number is out of range"
reason_text is.Negative = codes "number is out of range, expected 0 or more"
reason_text is.Invalid = codes "invalid value"
reason_text (is.Custom message) = string_bytes message

-- the kind of error for a field that two keys name: a duplicate key or, if the span of the earlier key is not known, a
-- custom error with this text
abbrev pub kind_of_twice : List ℕ → List ℕ → Option Span → Kind
kind_of_twice text name None = custom text
kind_of_twice text name (Some first) = duplicate_key name first

-- the kind of error for a reason
abbrev pub kind_of_reason : Reason → Kind
kind_of_reason (is.Wanted e f) = wanted (words_of e) (name_of f)
kind_of_reason (is.WantedOneOf es f) = marked (codes "wanted") (reason_text (is.WantedOneOf es f)) []
kind_of_reason (is.MissingField name) = missing_field (string_bytes name)
kind_of_reason (is.DuplicateField name first) =
    kind_of_twice (reason_text (is.DuplicateField name first)) (string_bytes name) first
kind_of_reason (is.UnknownField name expected) =
    marked (codes "unexpected-keys") (reason_text (is.UnknownField name expected)) []
kind_of_reason (is.UnknownVariant name expected) =
    marked (codes "unexpected-value") (reason_text (is.UnknownVariant name expected)) []
kind_of_reason is.OutOfRange = marked (codes "out-of-range") (reason_text is.OutOfRange) []
kind_of_reason is.Negative = marked (codes "out-of-range") (reason_text is.Negative) []
kind_of_reason reason = custom (reason_text reason)

-- the expected name that is nearest to an unknown key or variant, if one is near enough (see `nearest`)
abbrev pub meant_by : Reason → Option (List ℕ)
meant_by (is.UnknownField name expected) = nearest (string_bytes name) (map string_bytes expected.items)
meant_by (is.UnknownVariant name expected) = nearest (string_bytes name) (map string_bytes expected.items)
meant_by reason = None

-- the error for a misfit
abbrev pub content_of_misfit : Misfit → ErrorContent
content_of_misfit m = record { kind = kind_of_reason m.reason; span = m.span; line_info = m.line_info }

-- an error as plain data
abbrev pub content_of_error : Error → ErrorContent
content_of_error (error.Refused e) = content_of e
content_of_error (error.Misfit m) = content_of_misfit m

abbrev pub step_of : Step → tree.Step
step_of (step.Key name) = tree.key (string_bytes name)
step_of (step.Position i) = tree.position i

abbrev pub path_of : List Step → tree.Path
path_of steps = map step_of steps

-- The path leads to a value of the tree, and the span is that of the value or of its key.
abbrev pub IsPlaceIn : tree.Path → Span → Node → Type 0
IsPlaceIn path span root = (place : Place) × (place_at path root ≡ Some place)
    × ((span ≡ place.span) ⊎ (place.key_span ≡ Some span))

-- An allocation failed, or the misfit is at a place in the tree.
abbrev pub IsAt : Node → Stop Misfit → Type 0
IsAt root (stop.Memory e) = ⊤
IsAt root (stop.Fault m) = IsPlaceIn (path_of m.path.items) m.span root

-- The misfit has the line and the column of its span's start, if this start is in the text or at the end of the text.
abbrev pub HasLine : List ℕ → Misfit → Type 0
HasLine text m = m.span.start ≤ length text → m.line_info ≡ Some (line_info text m.span.start)

-- The text is a document, and P holds for its tree.
abbrev pub HasTree : List ℕ → (Node → Type 0) → Type 0
HasTree text P = (root : Value) × IsTree text depth_limit root × P (view root)

-- An allocation failed, or the text has no tree and the error is that of the parser. Or the text has a tree, and the
-- misfit is at a place in the tree and has the line and the column of its span's start.
abbrev pub IsRefused : List ℕ → Stop Error → Type 0
IsRefused text (stop.Memory e) = ⊤
IsRefused text (stop.Fault (error.Refused e)) = IsRefusal text depth_limit (stop.Fault e)
IsRefused text (stop.Fault (error.Misfit m)) = HasTree text (IsPlaceIn (path_of m.path.items) m.span) × HasLine text m
