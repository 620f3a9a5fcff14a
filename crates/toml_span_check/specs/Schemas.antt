-- The results of checking documents against schemas.
use Rattle.std.specs.Prelude.{◌≡◌, ◌==◌, ◌+◌, ℕ, List, [], ◌∷◌, length, if◌then◌else◌}
use Rattle.toml_span_check.specs.declared.schemas.Chooser.{Chooser}
use Rattle.toml_span_report.specs.Report.{ReportContent}
use Rattle.toml_span_report.specs.declared.report.Severity.{Severity}
use Rattle.toml_span_report.specs.declared.report.Severity.TheVariants.{Error, Warning, Note}
use Rattle.toml_span_tree.specs.Node.{Node}

-- Relates who chooses the schema, the file's name, text and tree, and the reports and the complaint of the check.
abbrev pub Says : Type 1
Says = Chooser → List ℕ → List ℕ → Node → List ReportContent → List ℕ → Type 0

-- The document has no schema, so there are neither reports nor a complaint.
abbrev pub no_schema : Says
no_schema chooser name text root reports complaint = (reports ≡ []) × (complaint ≡ [])

-- the number of errors that a report of this severity counts as
abbrev pub weight : Severity → ℕ
weight Error = 1
weight Warning = 0
weight Note = 0

abbrev pub errors_in : List ReportContent → ℕ
errors_in [] = 0
errors_in (report ∷ reports) = weight report.severity + errors_in reports

-- the number of errors that a complaint counts as: 0 if it is empty, otherwise 1
abbrev pub complaint_weight : List ℕ → ℕ
complaint_weight complaint = if length complaint == 0 then 0 else 1
