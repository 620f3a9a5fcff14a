-- The errors of a text, up to a maximum number.
use Rattle.std.specs.Prelude.{◌≡◌, ◌⊎◌, ℕ, ◌-◌, ◌/◌, ◌≤◌, min, max, Bool, true, false, ◌==◌, List, [], ◌∷◌, ◌++◌, Ok, codes}
use Rattle.std.specs.Prelude.{take, drop, length, if◌then◌else◌}
use Rattle.std.specs.List.{list_any, repeat}
use Rattle.toml_span_lex.specs.declared.stop.Stop.TheVariants.{Fault}
use Rattle.toml_span_tree.specs.declared.error.Error.{Error}
use Rattle.toml_span_tree.specs.declared.value.Value.{Value}
use Rattle.toml_span_tree.specs.Error.{Kind, content_of, dotted_key_invalid_type, duplicate_key, duplicate_table, kind_of}
use Rattle.toml_span_tree.specs.Error.{redefine_as_array}
use Rattle.toml_span_read.specs.Data.{ParsedSection, depth_limit}
use Rattle.toml_span_read.specs.Read.{document}
use Rattle.toml_span.specs.Parsing.{IsTree, IsRefusal}
use Rattle.toml_span_mistakes.specs.Errors.{ReportsError}
use Rattle.toml_span_report.specs.Report.{ReportContent, bare}
use Rattle.toml_span_report.specs.declared.report.Severity.TheVariants as severity
use Rattle.toml_span_check.specs.Drafts.{IsReading}
use Rattle.toml_span_syntax.specs.declared.pieces.Piece.{Piece}
use Rattle.toml_span_syntax.specs.declared.statements.Statement.{Statement}
use Rattle.toml_span_check.specs.Fixable.{IsSettled}
use Rattle.toml_span_check.specs.Statements.{extent_of, offset_of}
use Rattle.toml_span_check.specs.declared.statements.Extent.{Extent}

-- ---- the source

-- a text, its pieces and its statements
pub record Source : Type 0 where
  pub text : List ℕ
  pub pieces : List Piece
  pub statements : List Statement

abbrev pub IsRead : Source → Type 0
IsRead source = IsReading source.text source.pieces source.statements

-- a text with spaces in place of the bytes between two offsets, if there are any
abbrev pub blank : ℕ → ℕ → List ℕ → List ℕ
blank from to text = take from text ++ repeat (to - from) (codes " ") ++ drop (max to from) text

-- ---- an error

-- whether two keys or headers clash
abbrev pub is_clash : Kind → Bool
is_clash (duplicate_key name first) = true
is_clash (duplicate_table name first) = true
is_clash redefine_as_array = true
is_clash (dotted_key_invalid_type first) = true
is_clash _ = false

-- the statements that this error concerns, if reading began at the piece at `from`
abbrev pub extent : Source → ℕ → Error → Extent
extent source from error =
    extent_of source.text source.pieces source.statements from error.span.start (is_clash (kind_of error.kind))

-- a copy of the source with spaces in place of these statements too; and one with spaces before the piece at `next`
abbrev pub without : Source → Extent → List ℕ → List ℕ
without source e copy =
    blank (offset_of source.text source.pieces e.statement.first) (offset_of source.text source.pieces e.end) copy

abbrev pub rest : Source → ℕ → List ℕ
rest source next = blank 0 (offset_of source.text source.pieces next) source.text

-- the report of this error of a copy of the source; its replacements are marked as safe if and only if safe fixes fix
-- the statement with the error
abbrev pub ReportsFixable : Source → ℕ → List ℕ → Error → ReportContent → Type 0
ReportsFixable source from copy error report =
    (made : ReportContent) × ReportsError severity.Error copy (content_of error) made
    × IsSettled source.text source.pieces source.statements (extent source from error).statement made report

-- ---- the errors

-- the offsets of the errors so far, their reports, the piece at which reading goes on, and the text with spaces in place
-- of the statements that the errors concern
pub record Progress : Type 0 where
  pub places : List ℕ
  pub reports : List ReportContent
  pub next : ℕ
  pub blanked : List ℕ

abbrev pub nothing : List ℕ → Progress
nothing text = record { places = []; reports = []; next = 0; blanked = text }

-- the reports, with one more for an error at this offset unless there is a report for that offset already
abbrev pub with_new : List ReportContent → List ℕ → ReportContent → ℕ → List ReportContent
with_new reports places report place =
    if list_any (λ other. other == place) places then reports else reports ++ report ∷ []

abbrev pub AddsReport : ReportContent → ℕ → Progress → Progress → Type 0
AddsReport report place old new =
    new ≡ record old { reports = with_new old.reports old.places report place; places = old.places ++ place ∷ [] }

-- `new` is `old` after one more error, which concerns these statements.
abbrev pub Adds : Source → Extent → ReportContent → ℕ → Progress → Progress → Type 0
Adds source e report place old new =
    new ≡ record {
      places = old.places ++ place ∷ [];
      reports = with_new old.reports old.places report place;
      next = e.next;
      blanked = without source e old.blanked;
    }

-- The error that `parse` returns for a copy of the source is added. Reading began at the piece at `from`.
abbrev pub AddsError : Source → ℕ → List ℕ → Progress → Progress → Type 0
AddsError source from copy old new =
    (error : Error) × IsRefusal copy depth_limit (Fault error)
    × ((report : ReportContent) × ReportsFixable source from copy error report
    × Adds source (extent source from error) report error.span.start old new)

-- the maximum number of errors to look for in a text of this length
abbrev pub most : ℕ → ℕ
most len = max (min (134217728 / max len 1) 100) 1

-- Each error is the one that `parse` returns for the source with spaces in place of all that has been read. The first
-- is that of the source itself.
pub data Reads (source : Source) : Progress → Type 0 where
  none : Reads source (nothing source.text)
  fault : (p q : Progress) → Reads source p → AddsError source p.next (rest source p.next) p q → Reads source q

-- Nothing remains to be read: what has not been read has no fault, or its error is a clash; or the maximum number of
-- errors has been found.
abbrev pub IsThrough : Source → Progress → Type 0
IsThrough source p =
    ((sections : List ParsedSection) × document (rest source p.next) depth_limit (Ok sections))
    ⊎ (((error : Error) × IsRefusal (rest source p.next) depth_limit (Fault error)
    × (is_clash (kind_of error.kind) ≡ true))
    ⊎ (most (length source.text) ≤ length p.places))

-- Once nothing remains to be read, each error is the one that `parse` returns for the source with spaces in place of
-- the statements that the errors so far concern.
pub data Finds (source : Source) : Progress → Type 0 where
  faults : (p : Progress) → Reads source p → IsThrough source p → Finds source p
  clash : (p q : Progress) → Finds source p → AddsError source 0 p.blanked p q → Finds source q

-- errors that have been found so far
abbrev pub HasFound : Source → Progress → Type 0
HasFound source p = Reads source p ⊎ Finds source p

abbrev pub too_many : ReportContent
too_many = bare severity.Error (codes "too-many-errors") (codes "too many errors")

-- If the text is a document, the list is empty. Otherwise either all errors are reported, and the text with spaces in
-- place of their statements is a document; or the maximum number of errors has been found, there is at least one more
-- error, and the last report says so.
pub data Checks (text : List ℕ) : List ReportContent → Type 0 where
  valid : (root : Value) → IsTree text depth_limit root → Checks text []
  all : (source : Source) (p : Progress) (root : Value) → source.text ≡ text → IsRead source → Finds source p
      → IsTree p.blanked depth_limit root → Checks text p.reports
  many : (source : Source) (p : Progress) (error : Error) → source.text ≡ text → IsRead source → Finds source p
      → IsRefusal p.blanked depth_limit (Fault error) → most (length text) ≤ length p.places
      → Checks text (p.reports ++ too_many ∷ [])

-- `parse` refuses the text, and these are the reports of its errors.
abbrev pub HasErrors : List ℕ → List ReportContent → Type 0
HasErrors text reports = ((error : Error) × IsRefusal text depth_limit (Fault error)) × Checks text reports
