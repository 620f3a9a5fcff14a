-- Where a read answers a `Stop` that has reports, its errors are what they tell.
use Rattle.toml_span_lex.proofs.Common.{ℕ, List, [], Result, Err, map, string_bytes}
use Rattle.toml_span_lex.specs.declared.stop.Stop.{Stop}
use Rattle.toml_span_lex.specs.declared.stop.Stop.TheVariants as stops
use Rattle.toml_span_tree.specs.Node.{Node}
use Rattle.toml_span_tree.specs.Errors.{Errors, all}
use Rattle.toml_span_tree.specs.Error.{ErrorContent}
use Rattle.toml_span.specs.FromText.{NotRead, NotReadWithWarnings}
use Rattle.toml_span_load.specs.Load.{AreShown, NotLoadedWithWarnings, failed}
use Rattle.toml_span_report.specs.Report.{ReportContent, report_content}
use Rattle.toml_span_mistakes.specs.declared.reported.Reported.{Reported}
use Rattle.toml_span_mistakes.specs.Reported.{AreReported, AreReportsOfStop}
use Rattle.toml_span_report.specs.declared.colours.Style.{Style}

pub are_told : {T : Type 0} (reads : Node → Result T Errors → Node → Type 0) (style : Style) (name text : List ℕ) (stop : Stop Errors) (reports : List ReportContent) (out : List ℕ)
    → NotRead reads text stop → AreReportsOfStop style name text stop reports out
    → (faults : Errors) × NotRead reads text (stops.Fault faults) × AreReported style name text (all faults) reports out
are_told reads style name text (stops.Fault faults) reports out not_read told = (faults, not_read, told)
are_told reads style name text (stops.Memory e) reports out not_read told = absurd told

-- a read that failed is not loaded, and its reports are those of its warnings and its errors
pub not_loaded : {T : Type 0} (reads : Node → Result T Errors → List ErrorContent → List ErrorContent → Type 0) (name text : List ℕ) (stop : Stop Errors) (warnings : List ErrorContent) (r : Reported)
    → NotReadWithWarnings reads text stop [] warnings
    → AreShown {T = T} (Err stop) warnings name text (map report_content r.reports.items) (string_bytes r.text)
    → NotLoadedWithWarnings reads name text (failed stop r)
not_loaded reads name text (stops.Fault faults) warnings r not_read shown = (faults, warnings, not_read, shown)
not_loaded reads name text (stops.Memory e) warnings r not_read shown = tt
