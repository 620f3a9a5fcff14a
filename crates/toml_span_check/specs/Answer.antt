-- The answer to one file: its errors, or the document or value to print.
use Rattle.std.specs.Prelude.{◌≡◌, ◌<◌, ◌≤◌, ◌⊎◌, ℕ, ◌+◌, Bool, true, false, if◌then◌else◌, IsUtf8, List, [], ◌++◌}
use Rattle.std.specs.Prelude.{length, codes, Option, Some, None, Ok, Err, take, option_and_then}
use Rattle.std.specs.List.{flat_map}
use Rattle.std.specs.Str.{IsValidUpTo}
use Rattle.toml_span_tree.specs.declared.error.Error.{Error}
use Rattle.toml_span_tree.specs.declared.value.Value.{Value}
use Rattle.toml_span_tree.specs.Node.{Node}
use Rattle.toml_span_tree.specs.Value.{view}
use Rattle.toml_span_lex.specs.declared.stop.Stop.TheVariants as stops
use Rattle.toml_span.specs.Parsing.{IsTree, IsRefusal}
use Rattle.toml_span_report.specs.Report.{ReportContent, bare}
use Rattle.toml_span_report.specs.Visible.{visible}
use Rattle.toml_span_report.specs.declared.report.Severity.TheVariants as severity
use Rattle.toml_span_check.specs.Encoding.{not_utf8_report}
use Rattle.toml_span_check.specs.Every.{Checks}
use Rattle.toml_span_check.specs.Fixable.{AreShown, count_of, no_error, one_error}
use Rattle.toml_span_check.specs.Formats.{fixable_report, formatted_report}
use Rattle.toml_span_check.specs.Missing.{missing}
use Rattle.toml_span_check.specs.Newer.{Lacks}
use Rattle.toml_span_check.specs.Order.{in_order}
use Rattle.toml_span_check.specs.Schemas.{Says, complaint_weight, errors_in}
use Rattle.toml_span_check.specs.Shown.{raw, to_json}
use Rattle.toml_span_check.specs.Words.{shown_word}
use Rattle.toml_span_check.specs.declared.fixable.Count.{Count}
use Rattle.toml_span_check.specs.declared.formats.Format.{Format}
use Rattle.toml_span_check.specs.declared.newer.Version.{Version}
use Rattle.toml_span_check.specs.declared.schemas.Chooser.{Chooser}
use Rattle.toml_span_check.specs.declared.answer.Task.{Task}
use Rattle.toml_span_check.specs.declared.answer.Task.TheVariants.{Check, Show}
use Rattle.toml_span_check.specs.declared.answer.Printing.{Printing}
use Rattle.toml_span_check.specs.declared.answer.Form.{Form}
use Rattle.toml_span_check.specs.declared.answer.Form.TheVariants.{Plain, Tagged, Items, Raw, Toml}
use Rattle.toml_span_lines.specs.Lines.{tree_lines}
use Rattle.toml_span_lines.specs.Run.{bound}
use Rattle.toml_span_places.specs.Dotted.{IsPath, named}
use Rattle.toml_span_places.specs.declared.dotted.PathError.{PathError}
use Rattle.toml_span_places.specs.Spelled.{value_text}
use Rattle.toml_span_read.specs.Data.{depth_limit}

-- The answer to a file: the numbers of errors, the text for standard output, and the text for standard error. For a
-- check, these texts are the reports and the complaint about the file's schema (see `SchemaReports`); otherwise, the
-- value that is printed and the reports.
abbrev pub Answer : Type 0
Answer = Count × List ℕ × List ℕ

-- the answer for a file with errors, which these reports are about
abbrev pub reported : Task → Count → List ℕ → Answer
reported (Check version chooser) count text = (count, text, [])
reported (Show printing) count text = (count, [], text)

-- ---- values

-- a value in one of the forms; in JSON, the keys are sorted or in the order of the text
abbrev pub formed_as : Form → Bool → Node → List ℕ
formed_as Plain is_sorted n = to_json false (in_order is_sorted n) ++ codes "\n"
formed_as Tagged is_sorted n = to_json true (in_order is_sorted n) ++ codes "\n"
formed_as Items is_sorted n = tree_lines n
formed_as Raw is_sorted n = raw (in_order is_sorted n) ++ codes "\n"
formed_as Toml is_sorted n = value_text n ++ codes "\n"

abbrev pub formed : Printing → Node → List ℕ
formed printing n = formed_as printing.form printing.is_sorted n

abbrev pub separator : Form → List ℕ
separator Items = codes ":\n"
separator form = codes ": "

-- the name of the file before a value, if it is to be printed
abbrev pub prefix : Printing → List ℕ → List ℕ
prefix printing name =
    if printing.is_named then visible (shown_word name) ++ separator printing.form else []

-- the segments of a path, or `None` if it is malformed
abbrev pub IsNames : List ℕ → Option (List (List ℕ)) → Type 0
IsNames path None = (e : PathError) × IsPath path (Err e)
IsNames path (Some segments) = IsPath path (Ok segments)

-- the value that the segments name, beginning at the value n
abbrev pub place : Option (List (List ℕ)) → Node → Option Node
place segments n = option_and_then (λ names. named names n) segments

abbrev pub found_at : Format → Printing → List ℕ → List ℕ → ReportContent → Option Node → Answer
found_at format printing name text report (Some m) = (no_error, prefix printing name ++ formed printing m, [])
found_at format printing name text report None = (one_error, [], formatted_report format report name text)

-- the answer if a value of the document n is to be printed: the value that the segments of the path `pointer` name, or
-- the report that they name none
abbrev pub found : Format → Printing → List ℕ → List ℕ → List ℕ → Option (List (List ℕ)) → Node → Answer
found format printing pointer name text segments n =
    found_at format printing name text (missing pointer segments n) (place segments n)

-- ---- reports

-- the text of one report, or of several, about a file with this name and source text
abbrev pub report_text : Format → Bool → List ℕ → List ℕ → ReportContent → List ℕ
report_text format is_fixable name text r =
    if is_fixable then fixable_report format r name text else formatted_report format r name text

abbrev pub reports_text : Format → Bool → List ℕ → List ℕ → List ReportContent → List ℕ
reports_text format are_fixable name text rs = flat_map (report_text format are_fixable name text) rs

-- `answer` has the numbers and the text of the reports that `Checks` allows for `text`, without the replacements that no
-- fix makes (see `AreShown`)
abbrev pub AreReported : Format → Task → List ℕ → List ℕ → Answer → Type 0
AreReported format task name text answer =
    (made : List ReportContent) × Checks text made × (rs : List ReportContent) × AreShown text made rs
    × (answer ≡ reported task (count_of rs) (reports_text format true name text rs))

-- The answer for a valid text. It counts the reports on newer forms (see `Lacks`), the errors among the reports of the
-- schema, and a complaint as one error. The reports of the schema come last; `--fix` does not apply their fixes.
abbrev pub AreChecked : Says → Format → Version → Chooser → List ℕ → List ℕ → Node → Answer → Type 0
AreChecked says format version chooser name text root answer =
    (rs more : List ReportContent) × (complaint : List ℕ) × Lacks version name text rs
    × says chooser name text root more complaint
    × (answer ≡ (
      record (count_of rs) { errors = length rs + errors_in more + complaint_weight complaint },
      reports_text format true name text rs ++ reports_text format false name text more,
      complaint,
    ))

-- the answer for the document `text`, whose tree is `n`: its errors, or the value at `pointer`
abbrev pub Given : Says → Format → Task → List ℕ → List ℕ → List ℕ → Node → Answer → Type 0
Given says format (Check version chooser) pointer name text n answer =
    AreChecked says format version chooser name text n answer
Given says format (Show printing) pointer name text n answer =
    (segments : Option (List (List ℕ))) × IsNames pointer segments
    × (answer ≡ found format printing pointer name text segments n)

-- the answer for a text: that of `Given` if the text is a document, otherwise that of `AreReported`
abbrev pub IsRead : Says → Format → Task → List ℕ → List ℕ → List ℕ → Answer → Type 0
IsRead says format task pointer name text answer =
    ((root : Value) × IsTree text depth_limit root × Given says format task pointer name text (view root) answer)
    ⊎ ((error : Error) × IsRefusal text depth_limit (stops.Fault error) × AreReported format task name text answer)

abbrev pub too_long : Format → Task → List ℕ → Answer
too_long format task name =
    reported task one_error (formatted_report format
    (bare severity.Error (codes "too-long") (codes "the file is larger than 16 MiB")) name [])

-- the answer for a file that is valid UTF-8 only up to this offset
abbrev pub not_utf8 : Format → Task → List ℕ → List ℕ → ℕ → Answer
not_utf8 format task name bytes at =
    reported task one_error (formatted_report format (not_utf8_report bytes at) name (take at bytes))

-- The answer for the bytes of a file, which may be longer than 16 MiB, not UTF-8, a document, or not valid TOML.
pub record IsAnswer (says : Says) (format : Format) (task : Task) (pointer : List ℕ) (name : List ℕ) (bytes : List ℕ)
    (answer : Answer) : Type 0 where
  pub long : bound < length bytes → answer ≡ too_long format task name
  pub no_text : length bytes ≤ bound → ¬ (IsUtf8 bytes)
      → (at : ℕ) × IsValidUpTo bytes at × (answer ≡ not_utf8 format task name bytes at)
  pub read : length bytes ≤ bound → IsUtf8 bytes → IsRead says format task pointer name bytes answer
