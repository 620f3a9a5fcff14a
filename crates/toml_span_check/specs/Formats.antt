-- A report in each format: source lines with marks and a blank line, one line, one line of JSON, a command for GitHub
-- Actions, or a result of SARIF.
use Rattle.std.specs.Prelude.{ℕ, ◌==◌, List, ◌++◌, length, codes, if◌then◌else◌}
use Rattle.std.specs.Str.{trim_end}
use Rattle.toml_span_report.specs.JsonLine.{report_json}
use Rattle.toml_span_report.specs.Rendering.{report_text, report_line}
use Rattle.toml_span_report.specs.Report.{ReportContent}
use Rattle.toml_span_check.specs.Fixable.{words_of}
use Rattle.toml_span_check.specs.Github.{github}
use Rattle.toml_span_check.specs.Sarif.{sarif}
use Rattle.toml_span_report.specs.declared.colours.Style.{Style}
use Rattle.toml_span_check.specs.declared.formats.Format.{Format}
use Rattle.toml_span_check.specs.declared.formats.Format.TheVariants.{Text, Short, Json, Github, Sarif}

abbrev pub marked_text : Style → ReportContent → List ℕ → List ℕ → List ℕ
marked_text style r name text = report_text style r name text ++ codes "\n"

abbrev pub formatted_report : Format → ReportContent → List ℕ → List ℕ → List ℕ
formatted_report (Text style) r name text = marked_text style r name text
formatted_report Short r name text = report_line r name text
formatted_report Json r name text = report_json r name text
formatted_report Github r name text = github r name text
formatted_report Sarif r name text = sarif r name text

-- the text with words at the end of its last line, and with a blank line after it
abbrev pub with_words : List ℕ → List ℕ → List ℕ
with_words text words = if length words == 0 then text else trim_end text ++ words ++ codes "\n\n"

-- a report whose fix `check --fix` may apply: in the format `text`, its last line says whether the fix is safe
abbrev pub fixable_report : Format → ReportContent → List ℕ → List ℕ → List ℕ
fixable_report (Text style) r name text = with_words (formatted_report (Text style) r name text) (words_of r)
fixable_report format r name text = formatted_report format r name text
