-- A report as text, and as one line.
use Rattle.std.specs.Prelude.{ℕ, ◌-◌, max, Bool, true, false, nat_lt, nat_le, List, [], ◌∷◌, ◌++◌, codes, length}
use Rattle.std.specs.Prelude.{Option, Some, None, if◌then◌else◌, replicate, take, nat_eq}
use Rattle.std.specs.Fmt.{decimal}
use Rattle.std.specs.List.{fold, flat_map, starts_with}
use Rattle.std.specs.Str.{trim_start}
use Rattle.toml_span_report.specs.Characters.{shown, columns}
use Rattle.toml_span_report.specs.Colours.{painted}
use Rattle.toml_span_report.specs.Places.{floor_boundary}
use Rattle.toml_span_report.specs.Report.{ReportContent}
use Rattle.toml_span_report.specs.declared.report.Severity.{Severity}
use Rattle.toml_span_report.specs.declared.report.Severity.TheVariants.{Error, Warning, Note}
use Rattle.toml_span_report.specs.Strips.{StripContent, all_strips, is_near, window_of, seen_in}
use Rattle.toml_span_report.specs.declared.colours.Ink.{Ink}
use Rattle.toml_span_report.specs.declared.colours.Ink.TheVariants.{Red, Yellow, Green, Blue, Bold}
use Rattle.toml_span_report.specs.declared.colours.Style.{Style}
use Rattle.toml_span_report.specs.declared.strips.Window.{Window}

-- a sign and a text, or nothing if the text is empty
abbrev pub after : List ℕ → List ℕ → List ℕ
after sign [] = []
after sign (x ∷ xs) = sign ++ x ∷ xs

-- `...` if a text is cut
abbrev pub dots : Bool → List ℕ
dots true = codes "..."
dots false = []

-- the printed form of a code, message or name, cut after 1,000 bytes
unfoldable pub shortened : List ℕ → List ℕ
shortened text = let end = floor_boundary text 1000 in shown (take end text) ++ dots (nat_lt end (length text))

-- a text for people in output for programs: a longer one than 1,000 bytes is cut, and `...` is appended
unfoldable pub clipped_text : List ℕ → List ℕ
clipped_text text = let end = floor_boundary text 1000 in take end text ++ dots (nat_lt end (length text))

-- the word with which a report begins, and its color
abbrev pub severity_word : Severity → List ℕ
severity_word Error = codes "error"
severity_word Warning = codes "warning"
severity_word Note = codes "note"

abbrev pub ink_of : Severity → Ink
ink_of Error = Red
ink_of Warning = Yellow
ink_of Note = Green

-- a code in brackets, or nothing if the code is empty
abbrev pub in_brackets : List ℕ → List ℕ
in_brackets [] = []
in_brackets (x ∷ xs) = codes "[" ++ (x ∷ xs) ++ codes "]"

-- the first line, `error[code]: message`
abbrev pub first_line : Style → ReportContent → List ℕ
first_line style r =
    painted style (ink_of r.severity) (severity_word r.severity ++ in_brackets (shortened r.code))
    ++ painted style Bold (after (codes ": ") (shortened r.message)) ++ codes "\n"

-- The strip whose line and column a report prints is `main_strip`: the first strip of a primary label or, if no label
-- is primary, the first strip.
abbrev pub first_primary : List StripContent → Option StripContent
first_primary [] = None
first_primary (p ∷ ps) = if p.is_primary then Some p else first_primary ps

abbrev pub first_of : List StripContent → Option StripContent
first_of [] = None
first_of (p ∷ ps) = Some p

abbrev pub line_or : Option StripContent → Option StripContent → Option StripContent
line_or (Some p) other = Some p
line_or None other = other

abbrev pub main_strip : List StripContent → Option StripContent
main_strip parts = line_or (first_primary parts) (first_of parts)

-- `:line:column`, both counted from 1, or nothing without a strip
abbrev pub line_and_column : Option StripContent → List ℕ
line_and_column None = []
line_and_column (Some p) = codes ":" ++ decimal p.number ++ codes ":" ++ decimal p.column

-- the highest line number, and the number of its digits
abbrev pub greatest : List StripContent → ℕ
greatest parts = fold (λ n p. max p.number n) 0 parts

abbrev pub width_of : List StripContent → ℕ
width_of parts = length (decimal (greatest parts))

-- the left margin of a line: its number, aligned to the right, and a bar
abbrev pub gutter : Style → ℕ → List ℕ → List ℕ
gutter style width number = painted style Blue (replicate (width - length number) 32 ++ number ++ codes " |")

-- the source line of a strip, with `...` where it is cut; and this line with the margin
abbrev pub source : StripContent → List ℕ
source p = dots p.is_cut_before ++ shown p.before ++ shown p.marked ++ shown p.after ++ dots p.is_cut_after

abbrev pub source_line : Style → ℕ → StripContent → List ℕ
source_line style width p = gutter style width (decimal p.number) ++ after (codes " ") (source p) ++ codes "\n"

-- the line under a source line: a mark for each column of the marked part, but at least one, and the message; the mark
-- is `^` for a primary label, otherwise `-`
abbrev pub sign : Bool → ℕ
sign true = 94
sign false = 45

abbrev pub marks : StripContent → List ℕ
marks p = replicate (columns (dots p.is_cut_before ++ shown p.before)) 32
    ++ replicate (max (columns (shown p.marked)) 1) (sign p.is_primary)

abbrev pub ink : Severity → Bool → Ink
ink severity true = ink_of severity
ink severity false = Blue

abbrev pub marks_line : Style → Severity → ℕ → StripContent → List ℕ
marks_line style severity width p =
    gutter style width [] ++ codes " "
    ++ painted style (ink severity p.is_primary) (marks p ++ after (codes " ") (shortened p.message)) ++ codes "\n"

-- The source line of a strip, or nothing if the window `above` shows the strip. A line with only a bar precedes the
-- first source line, and `...` precedes a source line if lines between are left out.
abbrev pub opening : Style → ℕ → Option Window → StripContent → List ℕ
opening style width None p = gutter style width [] ++ codes "\n" ++ source_line style width p
opening style width (Some above) p =
    if is_near above p then []
    else if nat_le (p.number - above.number) 1 then source_line style width p
    else codes "...\n" ++ source_line style width p

abbrev pub source_lines : Style → Severity → ℕ → Option Window → List StripContent → List ℕ
source_lines style severity width above [] = []
source_lines style severity width above (p ∷ ps) =
    let window = window_of above p ps in
    opening style width above (seen_in window p) ++ marks_line style severity width (seen_in window p)
    ++ source_lines style severity width (Some window) ps

-- a line with only a bar; and the notes and the help, with such a line above them
abbrev pub bar : Style → ℕ → List ℕ
bar style width = gutter style width [] ++ codes "\n"

abbrev pub bar_above : Style → ℕ → List (List ℕ) → List ℕ
bar_above style width [] = []
bar_above style width (text ∷ texts) = bar style width

abbrev pub remark : Style → ℕ → List ℕ → List ℕ → List ℕ
remark style width title text =
    painted style Blue (replicate width 32 ++ codes " = ") ++ painted style Bold title ++ shortened text ++ codes "\n"

abbrev pub remarks : Style → ℕ → ReportContent → List ℕ
remarks style width r =
    bar_above style width (r.notes ++ r.help) ++ flat_map (remark style width (codes "note: ")) r.notes
    ++ flat_map (remark style width (codes "help: ")) r.help

-- the first two lines: the headline, and the name of the file with `:line:column`
abbrev pub front : Style → ReportContent → List ℕ → List StripContent → List ℕ
front style r name parts =
    first_line style r
    ++ painted style Blue (replicate (width_of parts) 32 ++ codes "--> ") ++ shortened name
    ++ line_and_column (main_strip parts) ++ codes "\n"

-- The whole text: the first two lines, the source lines with marks and messages, and notes and help, if there are any.
abbrev pub drawn_report : Style → ReportContent → List ℕ → List StripContent → List ℕ
drawn_report style r name parts =
    front style r name parts ++ source_lines style r.severity (width_of parts) None parts
    ++ remarks style (width_of parts) r

abbrev pub report_text : Style → ReportContent → List ℕ → List ℕ → List ℕ
report_text style r name text = drawn_report style r name (all_strips text r.labels)

-- a text and a sign, or nothing if the text is empty
abbrev pub before : List ℕ → List ℕ → List ℕ
before sign [] = []
before sign (x ∷ xs) = (x ∷ xs) ++ sign

-- the word before the code in a one-line report, or nothing for an error
abbrev pub grade : Severity → List ℕ
grade Error = []
grade Warning = codes "warning: "
grade Note = codes "note: "

-- `./` for a name that begins like a workflow command of GitHub, so that GitHub does not take the line for one;
-- otherwise nothing
abbrev pub path_prefix : List ℕ → List ℕ
path_prefix name = if starts_with nat_eq (trim_start name) (codes "::") then codes "./" else []

-- one line, `name:line:column: code: message`; a warning or note has `warning: ` or `note: ` before the code
abbrev pub brief : ReportContent → List ℕ → List StripContent → List ℕ
brief r name parts =
    path_prefix name ++ shortened name ++ line_and_column (main_strip parts) ++ codes ": " ++ grade r.severity
    ++ before (codes ": ") (shortened r.code) ++ shortened r.message ++ codes "\n"

abbrev pub report_line : ReportContent → List ℕ → List ℕ → List ℕ
report_line r name text = brief r name (all_strips text r.labels)
