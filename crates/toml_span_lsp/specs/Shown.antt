-- Diagnostics as the client shows them.
use Rattle.std.specs.Prelude.{◌≡◌, ◌≤◌, ℕ, ◌+◌, ◌-◌, ◌^◌, ◌&&◌, min, nat_eq, nat_lt, Bool, List, ◌++◌, codes, length}
use Rattle.std.specs.Prelude.{if◌then◌else◌, map}
use Rattle.std.specs.List.{starts_with}
use Rattle.toml_span_editor.specs.declared.diagnostics.Diagnosed.{Diagnosed}
use Rattle.toml_span_editor.specs.declared.diagnostics.Diagnostic.{Diagnostic}
use Rattle.toml_span_editor.specs.declared.positions.Range.{Range}
use Rattle.toml_span_report.specs.declared.report.Severity.{Severity}
use Rattle.toml_span_report.specs.declared.report.Severity.TheVariants.{Error, Warning, Note}
use Rattle.toml_span_lsp.specs.declared.state.Findings.{Findings}

-- the number of a severity (LSP 3.17, DiagnosticSeverity)
abbrev pub severity_of : Severity → ℕ
severity_of Error = 1
severity_of Warning = 2
severity_of Note = 3

-- the first line of a range, from its start
abbrev pub first_line : Range → Range
first_line range =
    record { start = range.start; end = record { line = min (range.start.line + 1) (2 ^ 64 - 1); character = 0 } }

-- whether a schema caused the diagnostic with this code and range, and the range has several lines
abbrev pub is_about_lines : List ℕ → Range → Bool
is_about_lines code range = nat_lt range.start.line range.end.line && starts_with nat_eq code (codes "schema")

-- the range that is marked: only the first line if a schema caused the diagnostic and there are several
abbrev pub shown_range : List ℕ → Range → Range
shown_range code range =
    if is_about_lines code range then first_line range else range

-- a severity if warnings are errors
abbrev pub deny : Severity → Severity
deny Error = Error
deny Warning = Error
deny Note = Note

-- a diagnostic if warnings are errors
abbrev pub denied : Diagnostic → Diagnostic
denied d = record d { severity = deny d.severity }

-- the diagnostics, with warnings as errors if `denies` is set
abbrev pub denied_if : Bool → List Diagnostic → List Diagnostic
denied_if denies ds = if denies then map denied ds else ds

-- `after` has the diagnostics `before`, and at most one more.
abbrev pub Adds : List Diagnostic → List Diagnostic → Type 0
Adds before after = (more : List Diagnostic) × (length more ≤ 1) × (after ≡ before ++ more)

-- `found` has the reports and the diagnostics of `made`, and at most one diagnostic more. If `denies` is set, its
-- warnings are errors.
abbrev pub Finds : Bool → Diagnosed → Findings → Type 0
Finds denies made found = (found.reports ≡ made.reports)
    × ((all : List Diagnostic) × Adds made.diagnostics.items all × (found.diagnostics.items ≡ denied_if denies all))
