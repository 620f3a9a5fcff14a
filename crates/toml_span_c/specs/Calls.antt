-- The results of the calls.
use Rattle.std.specs.Prelude.{◌≡◌, ◌≤◌, ◌⊎◌, ℕ, IsUtf8, List, length, nat_le, if◌then◌else◌}
use Rattle.toml_span.specs.Parsing.{IsTree, IsRefusal}
use Rattle.toml_span_c.specs.Faults.{fault_of}
use Rattle.toml_span_c.specs.Edits.{ChangesMade}
use Rattle.toml_span_c.specs.Records.{filled, tree_counts, tree_records, tree_strings}
use Rattle.toml_span_c.specs.declared.edits.ChangeRecord.{ChangeRecord}
use Rattle.toml_span_c.specs.declared.faults.FaultRecord.{FaultRecord}
use Rattle.toml_span_c.specs.declared.records.Counts.{Counts}
use Rattle.toml_span_c.specs.declared.records.Record.{Record}
use Rattle.toml_span_format.specs.Document.{SameDocument}
use Rattle.toml_span_lex.specs.declared.stop.Stop.TheVariants as stops
use Rattle.toml_span_read.specs.Data.{depth_limit}
use Rattle.toml_span_tree.specs.Error.{ErrorContent, content_of}
use Rattle.toml_span_tree.specs.Value.{view}
use Rattle.toml_span_tree.specs.declared.error.Error.{Error}
use Rattle.toml_span_tree.specs.declared.value.Value.{Value}

-- the maximum length of a document in bytes
abbrev pub bound : ℕ
bound = 16777216

-- The bytes are valid UTF-8, and at most `bound` many.
abbrev pub IsText : List ℕ → Type 0
IsText bytes = (length bytes ≤ bound) × IsUtf8 bytes

-- The status is 2 if the bytes are not valid UTF-8 or too long (see `IsText`). Otherwise it is 0 or 1, or 4 if an
-- allocation failed.
pub record IsStatus (bytes : List ℕ) (status : ℕ) : Type 0 where
  pub unread : ¬ IsText bytes → status ≡ 2
  pub read : IsText bytes → (status ≡ 0) ⊎ ((status ≡ 1) ⊎ (status ≡ 4))

-- The bytes are a document.
abbrev pub IsDocument : List ℕ → Type 0
IsDocument bytes = (root : Value) × IsTree bytes depth_limit root

-- The bytes are a document. The arrays have as many of its records and of the bytes of its strings as fit, and the
-- counts are the numbers of all of them.
pub record IsRead (bytes : List ℕ) (nodes nodes' : List Record) (strings strings' : List ℕ) (counts : Counts) : Type 0
  where
    pub root : Value
    pub tree : IsTree bytes depth_limit root
    pub nodes_are : nodes' ≡ filled (tree_records bytes (view root)) nodes
    pub strings_are : strings' ≡ filled (tree_strings bytes (view root)) strings
    pub counts_are : counts ≡ tree_counts bytes (view root)

-- The bytes are not a document, and `P` holds for the content of their error.
abbrev pub IsInvalid : List ℕ → (ErrorContent → Type 0) → Type 0
IsInvalid bytes P = (error : Error) × IsRefusal bytes depth_limit (stops.Fault error) × P (content_of error)

-- The record describes the error of the document.
abbrev pub IsFaultOf : List ℕ → FaultRecord → ErrorContent → Type 0
IsFaultOf text fault error = fault ≡ fault_of text error

-- The array has as much of the text as fits, and `needed` is the length of the whole text.
abbrev pub Fills : List ℕ → List ℕ → ℕ → List ℕ → Type 0
Fills out out' needed text = (out' ≡ filled text out) × (needed ≡ length text)

-- ---- the calls that write a new text

-- The status is 2 if the bytes are not valid UTF-8 or too long (see `IsText`). Otherwise it is 0 or 1, or 3 if the
-- bytes are a document but the call makes no new text, or 4 if an allocation failed.
pub record IsNewStatus (bytes : List ℕ) (status : ℕ) : Type 0 where
  pub unread : ¬ IsText bytes → status ≡ 2
  pub read : IsText bytes → (status ≡ 0) ⊎ ((status ≡ 1) ⊎ ((status ≡ 3) ⊎ (status ≡ 4)))

-- The array has the text if all of it fits, and is unchanged otherwise. `needed` is the length of the text.
abbrev pub Holds : List ℕ → List ℕ → ℕ → List ℕ → Type 0
Holds out out' needed text =
    (out' ≡ (if nat_le (length text) (length out) then filled text out else out)) × (needed ≡ length text)

-- The bytes are a document, and the changes turn it into the text `new`.
abbrev pub IsEdited : List ℕ → List ChangeRecord → List ℕ → Type 0
IsEdited bytes changes new = IsDocument bytes × ChangesMade changes bytes new

-- The bytes are a document. The text `new` has the same sections and the same comments.
abbrev pub IsFormatted : List ℕ → List ℕ → Type 0
IsFormatted bytes new = IsDocument bytes × SameDocument bytes new
