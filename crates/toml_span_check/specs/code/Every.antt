-- The values that the functions in `src/every.rt` pass to each other.
use Rattle.std.specs.Prelude.{◌≡◌, ℕ, List, map, Ok, Option, Some, None, string_bytes}
use Rattle.toml_span_lex.specs.declared.stop.Stop.TheVariants.{Fault}
use Rattle.toml_span_tree.specs.declared.error.Error.{Error}
use Rattle.toml_span_tree.specs.declared.value.Value.{Value}
use Rattle.toml_span_read.specs.Data.{ParsedSection, depth_limit}
use Rattle.toml_span_read.specs.Read.{document}
use Rattle.toml_span.specs.Parsing.{IsTree, IsRefusal}
use Rattle.toml_span_report.specs.Report.{report_content}
use Rattle.toml_span_check.specs.declared.drafts.Reading.{Reading}
use Rattle.toml_span_check.specs.Every.{Progress, ReportsFixable, Source, extent, is_clash}
use Rattle.toml_span_tree.specs.Error.{kind_of}
use Rattle.toml_span_check.specs.declared.every.ErrorAt.{ErrorAt}
use Rattle.toml_span_check.specs.declared.every.Found.{Found}

abbrev pub source_of : List ℕ → Reading → Source
source_of text reading = record {
  text = text;
  pieces = reading.pieces.items;
  statements = reading.statements.items;
}

abbrev pub progress : Found → Progress
progress f = record {
  places = f.places.items;
  reports = map report_content f.reports.items;
  next = f.next;
  blanked = string_bytes f.blanked;
}

-- `made` has the report of this error of a copy of the source, the start of the error's span, the statements that it
-- concerns, and whether it is a clash.
pub record IsErrorOf (source : Source) (copy : List ℕ) (from : ℕ) (error : Error) (made : ErrorAt) : Type 0 where
  pub report : ReportsFixable source from copy error (report_content made.report)
  pub place : made.place ≡ error.span.start
  pub extent : made.extent ≡ extent source from error
  pub clash : made.is_clash ≡ is_clash (kind_of error.kind)

-- `made` is as in `IsErrorOf` for the error that `parse` returns for a copy.
abbrev pub IsRefusedAt : Source → List ℕ → ℕ → ErrorAt → Type 0
IsRefusedAt source copy from made =
    (error : Error) × IsRefusal copy depth_limit (Fault error) × IsErrorOf source copy from error made

-- the copy can be read, whether or not its keys clash
abbrev pub HasNoFault : List ℕ → Type 0
HasNoFault copy = (sections : List ParsedSection) × document copy depth_limit (Ok sections)

-- the error that `parse` returns for a copy, or `None` if the copy is a document
abbrev pub IsNextError : Source → List ℕ → ℕ → Option ErrorAt → Type 0
IsNextError source copy from None = (root : Value) × IsTree copy depth_limit root
IsNextError source copy from (Some made) = IsRefusedAt source copy from made
