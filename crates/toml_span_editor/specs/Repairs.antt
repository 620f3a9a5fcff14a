-- Repairs of errors.
use Rattle.std.specs.Prelude.{◌≡◌, ℕ, Bool, ◌==◌, ◌&&◌, not, List, [], ◌∷◌, codes, length, map, MatchBool}
use Rattle.std.specs.Prelude.{Option, Some, None, option_map, string_bytes, if◌then◌else◌}
use Rattle.std.specs.Str.{bytes_eq}
use Rattle.toml_span_check.specs.Safety.{all_safe}
use Rattle.toml_span_check.specs.Statements.{AreLines}
use Rattle.toml_span_editor.specs.Diagnostics.{diagnostic_content, diagnostic_of}
use Rattle.toml_span_editor.specs.Edits.{edit_content}
use Rattle.toml_span_editor.specs.Labels.{main_span}
use Rattle.toml_span_editor.specs.declared.diagnostics.Repair.{Repair}
use Rattle.toml_span_editor.specs.declared.positions.Encoding.{Encoding}
use Rattle.toml_span_lex.specs.declared.span.Span.{Span}
use Rattle.toml_span_places.specs.Replace.{replaced}
use Rattle.toml_span_report.specs.Report as report
use Rattle.toml_span_report.specs.Report.{ReportContent}

-- the edit that removes these lines
abbrev pub removal : Span → List (Span × List ℕ)
removal lines = (lines, []) ∷ []

-- `edits` remove the lines of the assignment whose key or `=` is at the offset `at` (see `AreLines`). There are none
-- without such an assignment.
abbrev pub RemovesLines : List ℕ → ℕ → Option (List (Span × List ℕ)) → Type 0
RemovesLines text at edits = (lines : Option Span) × AreLines text at lines × (edits ≡ option_map removal lines)

-- a replacement as an edit
abbrev pub replacement_edit : report.Repair → Span × List ℕ
replacement_edit r = (r.span, r.text)

abbrev pub replacement_edits : ReportContent → List (Span × List ℕ)
replacement_edits report = map replacement_edit report.replacements

-- the edits, unless there are none or they don't fit the text
abbrev pub fitting : List ℕ → List (Span × List ℕ) → Option (List (Span × List ℕ))
fitting text edits = if length edits == 0 then None else option_map (λ new. edits) (replaced text edits)

-- whether the report says that a key is written twice
abbrev pub is_duplicate : ReportContent → Bool
is_duplicate report = bytes_eq report.code (codes "duplicate-key")

-- `edits` repair what the report says about `text`, if they are not `None`. For a duplicate key, they remove the lines
-- of its assignment. For another report, they are its replacements, if it has some and they fit the text.
abbrev pub Mends : List ℕ → ReportContent → Option (List (Span × List ℕ)) → Type 0
Mends text report edits = MatchBool (is_duplicate report) (RemovesLines text (main_span report.labels).start edits)
    (edits ≡ fitting text (replacement_edits report))

-- whether a program may make the repair without asking: the key is not written twice, and all replacements are safe
abbrev pub is_safe : ReportContent → Bool
is_safe report = not (is_duplicate report) && all_safe report.replacements

-- `repair` has the diagnostic of the report, edits that repair it, and whether they are safe.
pub record IsRepair (encoding : Encoding) (text : List ℕ) (report : ReportContent) (repair : Repair) : Type 0 where
  pub diagnostic : diagnostic_content repair.diagnostic ≡ diagnostic_of encoding text report
  pub edits : Mends text report (Some (map edit_content repair.edits.items))
  pub safe : repair.is_safe ≡ is_safe report
