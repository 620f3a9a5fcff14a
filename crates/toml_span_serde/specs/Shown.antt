-- Reports of errors.
use Rattle.std.specs.Prelude.{◌≡◌, ℕ, List, ◌++◌, Option, None, Some, codes}
use Rattle.toml_span_lex.specs.declared.stop.Stop.{Stop}
use Rattle.toml_span_lex.specs.declared.stop.Stop.TheVariants as stop
use Rattle.toml_span_tree.specs.Error.{content_of}
use Rattle.toml_span_mistakes.specs.Errors.{IsReport, ReportsError}
use Rattle.toml_span_report.specs.Rendering.{report_text}
use Rattle.toml_span_report.specs.Report.{ReportContent, with_help}
use Rattle.toml_span_report.specs.declared.colours.Style.{Style}
use Rattle.toml_span_report.specs.declared.report.Severity.TheVariants as severities
use Rattle.toml_span_serde.specs.Misfits.{content_of_misfit, meant_by}
use Rattle.toml_span_serde.specs.declared.misfit.Error.{Error}
use Rattle.toml_span_serde.specs.declared.misfit.Error.TheVariants as error
use Rattle.toml_span_serde.specs.declared.misfit.Misfit.{Misfit}

-- the report, with help that suggests the name if a name is given
abbrev pub with_meant : Option (List ℕ) → ReportContent → ReportContent
with_meant None report = report
with_meant (Some name) report = with_help report (codes "did you mean `" ++ name ++ codes "`?")

-- `out` is the text of the report on a misfit.
abbrev pub IsMisfitText : Style → Misfit → List ℕ → List ℕ → List ℕ → Type 0
IsMisfitText style m name text out =
    (report : ReportContent) × ReportsError severities.Error text (content_of_misfit m) report
    × (out ≡ report_text style (with_meant (meant_by m.reason) report) name text)

-- `out` is the text of the report on an error. A failed allocation has no text.
abbrev pub IsErrorText : Style → Stop Error → List ℕ → List ℕ → List ℕ → Type 0
IsErrorText style (stop.Memory e) name text out = ⊥
IsErrorText style (stop.Fault (error.Refused e)) name text out = IsReport style name text (content_of e) out
IsErrorText style (stop.Fault (error.Misfit m)) name text out = IsMisfitText style m name text out
