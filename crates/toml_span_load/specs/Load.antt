-- The results of opening a file, and of reading its text as a type.
use Rattle.std.specs.Prelude.{◌≡◌, ⊤, ℕ, List, [], ◌++◌, Result, Ok, Err, codes, map, string_bytes}
use Rattle.toml_span_lex.specs.declared.stop.Stop.{Stop}
use Rattle.toml_span_lex.specs.declared.stop.Stop.TheVariants as stops
use Rattle.toml_span_tree.specs.Error.{ErrorContent}
use Rattle.toml_span_tree.specs.Node.{Node}
use Rattle.toml_span_tree.specs.Errors.{Errors, all}
use Rattle.toml_span.specs.FromText.{IsReadWithWarnings, NotRead, NotReadWithWarnings}
use Rattle.toml_span_report.specs.Many.{AreReportTexts}
use Rattle.toml_span_mistakes.specs.Reads.{AreReportsOf}
use Rattle.toml_span_report.specs.Report.{ReportContent, report_content}
use Rattle.toml_span_mistakes.specs.Reported.{AreReported}
use Rattle.toml_span_report.specs.Visible.{visible}
use Rattle.toml_span_report.specs.declared.colours.Style.TheVariants as styles
use Rattle.toml_span_mistakes.specs.declared.reported.Reported as reported
use Rattle.toml_span_load.specs.declared.LoadError.{LoadError}
use Rattle.toml_span_load.specs.declared.LoadError.TheVariants.{Memory, Io, Reported}
use Rattle.toml_span_load.specs.declared.Unreadable.{Unreadable}

-- the message for the file `name`, which can't be read; `cause` is the message of the I/O error
unfoldable pub unreadable_text : List ℕ → List ℕ → List ℕ
unreadable_text name cause = codes "cannot read `" ++ visible name ++ codes "`: " ++ cause

abbrev pub IsUnreadable : List ℕ → Unreadable → Type 0
IsUnreadable name u =
    (string_bytes u.name ≡ name) × ((cause : List ℕ) × (string_bytes u.text ≡ unreadable_text name cause))

-- The error of `open`: the file with this name can't be read, or an allocation failed.
abbrev pub NotOpened : List ℕ → LoadError → Type 0
NotOpened name (Memory e) = ⊤
NotOpened name (Io u) = IsUnreadable name u
NotOpened name (Reported r) = ⊥

-- The error of `read`: an allocation failed, or reading the text as the type returns errors, and the LoadError has
-- their reports.
abbrev pub NotLoaded : {T : Type 0} → (Node → Result T Errors → Node → Type 0) → List ℕ → List ℕ → LoadError → Type 0
NotLoaded reads name text (Memory e) = ⊤
NotLoaded reads name text (Io u) = ⊥
NotLoaded reads name text (Reported r) = (faults : Errors) × NotRead reads text (stops.Fault faults)
    × AreReported styles.Plain name text (all faults) (map report_content r.reports.items) (string_bytes r.text)

-- whether `reports` are the reports of the warnings of a read, and then those of its errors, and `out` is their text
abbrev pub AreShown : {T : Type 0} → Result T (Stop Errors) → List ErrorContent → List ℕ → List ℕ → List ReportContent
    → List ℕ → Type 0
AreShown read warnings name text reports out =
    AreReportsOf read warnings text reports × AreReportTexts styles.Plain name text reports out

-- The result of `read_with_warnings`: the text is read as the value x, `reports` are the reports of the warnings, and
-- `out` is their text.
abbrev pub IsLoaded : {T : Type 0} → (Node → Result T Errors → List ErrorContent → List ErrorContent → Type 0) → List ℕ
    → List ℕ → T → List ReportContent → List ℕ → Type 0
IsLoaded reads name text x reports out =
    (warnings : List ErrorContent) × IsReadWithWarnings reads text (Ok x) [] warnings
    × AreShown (Ok x) warnings name text reports out

-- The error of `read_with_warnings`: an allocation failed, or reading the text as the type returns errors, and the
-- LoadError has the reports of the warnings and of the errors.
abbrev pub NotLoadedWithWarnings : {T : Type 0}
    → (Node → Result T Errors → List ErrorContent → List ErrorContent → Type 0) → List ℕ → List ℕ → LoadError → Type 0
NotLoadedWithWarnings reads name text (Memory e) = ⊤
NotLoadedWithWarnings reads name text (Io u) = ⊥
NotLoadedWithWarnings {T} reads name text (Reported r) = (faults : Errors) × (warnings : List ErrorContent)
    × NotReadWithWarnings reads text (stops.Fault faults) [] warnings
    × AreShown {T = T} (Err (stops.Fault faults)) warnings name text (map report_content r.reports.items)
    (string_bytes r.text)

-- the error of a read that failed; `r` has the reports of the read
abbrev pub failed : Stop Errors → reported.Reported → LoadError
failed (stops.Fault faults) r = Reported r
failed (stops.Memory e) r = Memory e

-- the text that `Display` writes for an error
abbrev pub shown : LoadError → List ℕ
shown (Memory e) = codes "error: memory allocation failed\n"
shown (Io u) = codes "error: " ++ string_bytes u.text ++ codes "\n"
shown (Reported r) = string_bytes r.text
