-- What refusals say.
use Rattle.std.specs.Prelude.{◌≡◌, ℕ, ◌+◌, ◌^◌, ◌-◌, min, take, count_by, List, [], ◌∷◌, ◌++◌, length, Some, None, unwrap_or, codes, string_bytes}
use Rattle.std.specs.Fmt.{decimal, is_char_start}
use Rattle.toml_span_tree.specs.Error.{kind_of}
use Rattle.toml_span_tree.specs.Message.{display_text}
use Rattle.toml_span_tree.specs.declared.error.Error.{Error}
use Rattle.toml_span_edit.specs.declared.edits.EditError.{EditError}
use Rattle.toml_span_edit.specs.declared.reason.Reason.{Reason}
use Rattle.toml_span_edit.specs.declared.reason.Reason.TheVariants as is

-- what a reason says, without its detail
abbrev pub reason_words : Reason → List ℕ
reason_words (is.InvalidDocument fault) = codes "the file is not valid TOML: "
reason_words (is.InvalidPath fault) = codes "the path is invalid at "
reason_words is.Nothing = codes "there is nothing at this path"
reason_words (is.NoValue None) = codes "the new value is not a single TOML value (strings need quotes: `'\"b\"'`)"
reason_words (is.NoValue (Some string)) = codes "the new value is not a single TOML value: did you mean "
reason_words is.Root = codes "the path names the whole document; set or remove the values in it instead"
reason_words is.NotLiteral = codes "headers or dotted keys define this table or array; set the values in it instead"
reason_words is.NoKey = codes "the path does not name a key"
reason_words (is.AlreadyThere place) = codes "this path already has a value"
reason_words is.NoTable = codes "the path does not name a table"
reason_words is.NoArray = codes "the path does not name an array, or does not end with a position such as `[0]`"
reason_words is.PastEnd =
    codes "no array has an element at this position: `append` adds one; for a number as a key, set its table"
reason_words is.NoInlineTable = codes "this array has `[[..]]` headers, so each element must be a table"
reason_words (is.ResultInvalid fault) = codes "the result would not be valid TOML: "
reason_words is.WouldDiffer = codes "this would change more than the value at the path"

-- the string in a reason; empty if it has none
abbrev pub reason_detail : Reason → List ℕ
reason_detail (is.InvalidDocument fault) = string_bytes fault
reason_detail (is.InvalidPath fault) = string_bytes fault
reason_detail (is.AlreadyThere place) = string_bytes place
reason_detail (is.ResultInvalid fault) = string_bytes fault
reason_detail (is.NoValue (Some string)) = string_bytes string
reason_detail _ = []

-- the text of a reason
abbrev pub reason_text : Reason → List ℕ
reason_text reason = reason_words reason ++ reason_detail reason

-- the path and a colon; empty if the path is
abbrev pub place_text : List ℕ → List ℕ
place_text [] = []
place_text (b ∷ bs) = (b ∷ bs) ++ codes ": "

-- the text of a refusal
abbrev pub edit_error_text : EditError → List ℕ
edit_error_text error = place_text (string_bytes error.path) ++ reason_text error.reason

-- the number after `n`, at most the largest `usize`
abbrev pub next : ℕ → ℕ
next n = min (n + 1) (2 ^ 64 - 1)

-- an error's line and column, which count from 1, and its message
abbrev pub fault_text : Error → List ℕ
fault_text fault =
    let at = unwrap_or fault.line_info (0, 0) in
    decimal (next at.0)
    ++ (codes ":" ++ (decimal (next at.1) ++ (codes ": " ++ display_text (kind_of fault.kind))))

-- the column of an offset in a path: the number of characters that begin before it, and one more
abbrev pub column : List ℕ → ℕ → ℕ
column path at = next (count_by is_char_start (take (min at (length path)) path))

-- The text begins with the column of this offset in the path; a message follows.
abbrev pub BeginsWithColumn : List ℕ → ℕ → List ℕ → Type 0
BeginsWithColumn path at text =
    (message : List ℕ) × (text ≡ codes "column " ++ (decimal (column path at) ++ (codes ": " ++ message)))
