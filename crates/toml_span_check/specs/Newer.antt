-- The reports on newer forms, which are syntax that TOML 1.0 lacks, and the replacements of these reports.
use Rattle.std.specs.Prelude.{◌≡◌, ◌⊎◌, ℕ, ◌+◌, ◌-◌, min, Bool, true, false, ◌||◌, List, [], ◌++◌, map, drop, length, codes}
use Rattle.std.specs.Prelude.{encode_utf8, slice_index, if◌then◌else◌, None, Ok, Err}
use Rattle.std.specs.List.{flat_map}
use Rattle.std.specs.Str.{bytes_eq}
use Rattle.toml_span_places.specs.Newer.{newer_forms}
use Rattle.toml_span_places.specs.Replace.{SpanEdit, edited_from, first_fault}
use Rattle.toml_span_places.specs.declared.newer.NewerForm.{NewerForm}
use Rattle.toml_span_places.specs.declared.newer.NewerKind.{NewerKind}
use Rattle.toml_span_places.specs.declared.newer.NewerKind.TheVariants as kinds
use Rattle.toml_span_read.specs.Data.{ParsedSection, depth_limit, from_to}
use Rattle.toml_span_read.specs.Read.{document}
use Rattle.toml_span_read.specs.declared.fault.Fault.{Fault}
use Rattle.toml_span_report.specs.Report.{ReportContent, bare, with_help, with_note, with_primary, with_replacement}
use Rattle.toml_span_report.specs.declared.report.Severity.TheVariants as severity
use Rattle.toml_span_check.specs.Fixing.{Fixes, Made, edits}
use Rattle.toml_span_check.specs.declared.fixing.FixLevel.{FixLevel}
use Rattle.toml_span_check.specs.declared.newer.Version.{Version}
use Rattle.toml_span_check.specs.declared.newer.Version.TheVariants.{Auto, Toml10, Toml11}

-- whether the last part of a path is `pyproject.toml`
abbrev pub is_pyproject : List ℕ → Bool
is_pyproject path =
    bytes_eq path (codes "pyproject.toml") || bytes_eq (drop (length path - 15) path) (codes "/pyproject.toml")

-- whether to check a file of this name as TOML 1.0
abbrev pub is_older : Version → List ℕ → Bool
is_older Auto name = is_pyproject name
is_older Toml10 name = true
is_older Toml11 name = false

abbrev pub message_of : NewerKind → List ℕ
message_of kinds.LineEnd = codes "line ends in inline tables are new in TOML 1.1"
message_of kinds.Comment = codes "comments in inline tables are new in TOML 1.1"
message_of kinds.TrailingComma = codes "trailing commas in inline tables are new in TOML 1.1"
message_of kinds.EscapeEscape = codes "`\\e` is new in TOML 1.1"
message_of kinds.HexEscape = codes "`\\x` is new in TOML 1.1"
message_of kinds.NoSeconds = codes "times without seconds are new in TOML 1.1"
message_of kinds.LineEndAtEquals = codes "line ends around `=` are not valid TOML"
message_of kinds.CommentAtEquals = codes "comments around `=` are not valid TOML"
message_of kinds.ByteOrderMark = codes "byte order marks are not valid TOML 1.0"

abbrev pub help_of : NewerKind → List ℕ
help_of kinds.LineEnd = codes "write the inline table on one line"
help_of kinds.LineEndAtEquals = codes "write the inline table on one line"
help_of kinds.Comment = codes "move the comment out of the inline table"
help_of kinds.CommentAtEquals = codes "move the comment out of the inline table"
help_of kinds.TrailingComma = codes "remove the comma"
help_of kinds.EscapeEscape = codes "write `\\u001B`"
help_of kinds.HexEscape = codes "write `\\u00` before the two digits"
help_of kinds.NoSeconds = codes "add the seconds: `:00`"
help_of kinds.ByteOrderMark = codes "save the file as UTF-8 without a byte order mark"

-- `\u00HH`, where `HH` are the two hexadecimal digits before an offset
abbrev pub four_digits : List ℕ → ℕ → List ℕ
four_digits text end =
    codes "\\u00" ++ encode_utf8 (slice_index text (end - 2)) ++ encode_utf8 (slice_index text (end - 1))

-- the report, with a replacement for `form` that means the same in TOML 1.0, if there is one
abbrev pub repaired : ReportContent → List ℕ → NewerForm → NewerKind → ReportContent
repaired r text form kinds.EscapeEscape = with_replacement r form.span (codes "\\u001B") true
repaired r text form kinds.HexEscape = with_replacement r form.span (four_digits text form.span.end) true
repaired r text form kinds.NoSeconds =
    with_replacement r (from_to form.span.end form.span.end) (codes ":00") true
repaired r text form kinds.TrailingComma = with_replacement r form.span [] true
repaired r text form kinds.ByteOrderMark = with_replacement r form.span [] true
repaired r text form kinds.LineEnd = r
repaired r text form kinds.Comment = r
repaired r text form kinds.LineEndAtEquals = r
repaired r text form kinds.CommentAtEquals = r

abbrev pub with_older : ReportContent → List ℕ → NewerForm → ReportContent
with_older r text form = repaired r text form form.kind

-- the report, with a note if the file is checked as TOML 1.0 because of its name
abbrev pub with_reason : ReportContent → Bool → ReportContent
with_reason r is_default =
    if is_default
    then with_note r (codes "pip reads TOML 1.0; the option `--toml 1.1` (setting `toml`) allows TOML 1.1")
    else r

-- the report on a newer form, without replacements or notes
abbrev pub plain_report : NewerForm → ReportContent
plain_report form =
    with_help
    (with_primary (bare severity.Error (codes "newer-toml") (message_of form.kind)) form.span (codes "not in TOML 1.0"))
    (help_of form.kind)

abbrev pub newer_report : List ℕ → Bool → NewerForm → ReportContent
newer_report text is_default form = with_reason (with_older (plain_report form) text form) is_default

-- The reports on all newer forms in `text`. If the text can't be read, the list is empty.
abbrev pub AreNewer : List ℕ → Bool → List ReportContent → Type 0
AreNewer text is_default rs =
    ((bs : List ParsedSection) × document text depth_limit (Ok bs)
    × (rs ≡ map (newer_report text is_default) (newer_forms text bs)))
    ⊎ ((fault : Fault) × document text depth_limit (Err fault) × (rs ≡ []))

abbrev pub is_auto : Version → Bool
is_auto Auto = true
is_auto Toml10 = false
is_auto Toml11 = false

-- The reports on all newer forms in `text` if the file `name` is checked as TOML 1.0. Otherwise, the list is empty.
abbrev pub Lacks : Version → List ℕ → List ℕ → List ReportContent → Type 0
Lacks version name text rs =
    ((is_older version name ≡ true) × AreNewer text (is_auto version) rs)
    ⊎ ((is_older version name ≡ false) × (rs ≡ []))

-- ---- replacements

abbrev pub all_edits : List ReportContent → List SpanEdit
all_edits rs = flat_map (λ r. edits r.replacements) rs

-- `new` is `text` with the replacements of all reports of `Lacks`, and `n` is the number of the replacements. If the
-- replacements can't be made, `new` is `text`, and `n` is 0.
abbrev pub Replaces : Version → List ℕ → List ℕ → ℕ → List ℕ → Type 0
Replaces version name text n new =
    (rs : List ReportContent) × Lacks version name text rs
    × (((first_fault text 0 0 (all_edits rs) ≡ None) × (n ≡ length (all_edits rs))
    × (new ≡ edited_from text 0 (all_edits rs)))
    ⊎ (¬ (first_fault text 0 0 (all_edits rs) ≡ None) × (n ≡ 0) × (new ≡ text)))

-- The errors of a text are fixed, and then newer forms are replaced.
abbrev pub FixesAll : Version → List ℕ → FixLevel → List ℕ → Made → Type 0
FixesAll version name level text made =
    (first : Made) × (n : ℕ) × Fixes text level first × Replaces version name first.0 n made.0
    × (made.1 ≡ min (first.1 + n) 18446744073709551615)
