-- The text of several reports.
use Rattle.std.specs.Prelude.{◌≡◌, ℕ, zero, suc, Bool, true, false, ◌==◌, List, [], ◌∷◌, ◌++◌, map, codes}
use Rattle.std.specs.Prelude.{if◌then◌else◌, Option, Some, None, string_bytes}
use Rattle.std.specs.Fmt.{decimal}
use Rattle.std.specs.List.{count_by, flat_map}
use Rattle.std.specs.List.Sorted.{IsNonDecreasingBy, IsStableByKey}
use Rattle.std.specs.Ordering.{nat_cmp}
use Rattle.toml_span_report.specs.Rendering.{before, drawn_report, main_strip, severity_word}
use Rattle.toml_span_report.specs.Report.{ReportContent}
use Rattle.toml_span_report.specs.Strips.{StripContent, all_strips}
use Rattle.toml_span_report.specs.declared.colours.Style.{Style}
use Rattle.toml_span_report.specs.declared.many.Drawn.{Drawn}
use Rattle.toml_span_report.specs.declared.report.Severity.{Severity}
use Rattle.toml_span_report.specs.declared.report.Severity.TheVariants.{Error, Warning, Note}

-- the offset by which a report is sorted, which is 0 without labels; and this offset with the text of the report
abbrev pub sort_offset : Option StripContent → ℕ
sort_offset None = 0
sort_offset (Some p) = p.at

abbrev pub drawn_with_offset : Style → List ℕ → List ℕ → ReportContent → ℕ × List ℕ
drawn_with_offset style name text r =
    let parts = all_strips text r.labels in (sort_offset (main_strip parts), drawn_report style r name parts)

abbrev pub drawn_content : Drawn → ℕ × List ℕ
drawn_content d = (d.at, string_bytes d.text)

-- `ordered` has the reports of `given`, sorted by their offsets. Reports with the same offset keep their order.
pub record AreInOrder (given ordered : List (ℕ × List ℕ)) : Type 0 where
  pub places : IsNonDecreasingBy (λ d. d.0) ordered
  pub same : IsStableByKey (λ d. d.0) nat_cmp given ordered

abbrev pub with_blank_line : ℕ × List ℕ → List ℕ
with_blank_line d = d.1 ++ codes "\n"

-- ---- the last line

abbrev pub is_same : Severity → Severity → Bool
is_same Error Error = true
is_same Warning Warning = true
is_same Note Note = true
is_same _ _ = false

abbrev pub is_of : Severity → ReportContent → Bool
is_of severity r = is_same severity r.severity

-- How a count, such as `2 errors`, is added to a line: after a comma unless the line is empty, in the plural unless the
-- count is 1, and not at all if the count is 0.
abbrev pub separator : List ℕ → List ℕ
separator [] = []
separator (x ∷ xs) = codes ", "

abbrev pub plural : ℕ → List ℕ
plural n = if n == 1 then [] else codes "s"

abbrev pub with_count : List ℕ → ℕ → List ℕ → List ℕ
with_count line zero word = line
with_count line (suc n) word = line ++ separator line ++ decimal (suc n) ++ codes " " ++ word ++ plural (suc n)

abbrev pub total : List ReportContent → List ℕ
total rs =
    with_count (with_count (with_count [] (count_by (is_of Error) rs) (severity_word Error))
    (count_by (is_of Warning) rs) (severity_word Warning)) (count_by (is_of Note) rs) (severity_word Note)

abbrev pub joined : List (ℕ × List ℕ) → List ReportContent → List ℕ
joined ordered rs = flat_map with_blank_line ordered ++ before (codes "\n") (total rs)

-- whether `out` has the texts of the reports, sorted by their offsets, each with a blank line after it, and then the
-- line that counts the reports
abbrev pub AreReportTexts : Style → List ℕ → List ℕ → List ReportContent → List ℕ → Type 0
AreReportTexts style name text rs out =
    (ordered : List (ℕ × List ℕ)) × AreInOrder (map (drawn_with_offset style name text) rs) ordered
    × (out ≡ joined ordered rs)
