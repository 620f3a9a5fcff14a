-- Reports as plain data: errors, warnings and notes about a text, with labels, help and replacements.
use Rattle.std.specs.Prelude.{ℕ, Bool, true, false, List, [], ◌∷◌, ◌++◌, map, string_bytes}
use Rattle.toml_span_lex.specs.declared.span.Span.{Span}
use Rattle.toml_span_tree.specs.Diagnostic.{LabelContent, label_content}
use Rattle.toml_span_report.specs.declared.report.Replacement.{Replacement}
use Rattle.toml_span_report.specs.declared.report.Report.{Report}
use Rattle.toml_span_report.specs.declared.report.Severity.{Severity}

-- a label as plain data: whether it is primary, its span, and its message
abbrev pub ReportLabel : Type 0
ReportLabel = LabelContent (Unit {0})

-- a replacement as plain data
pub record Repair : Type 0 where
  pub span : Span
  pub text : List ℕ
  pub is_safe : Bool

abbrev pub repair_of : Replacement → Repair
repair_of r = record { span = r.span; text = string_bytes r.text; is_safe = r.is_safe }

pub record ReportContent : Type 0 where
  pub severity : Severity
  pub code : List ℕ
  pub message : List ℕ
  pub labels : List ReportLabel
  pub notes : List (List ℕ)
  pub help : List (List ℕ)
  pub replacements : List Repair

abbrev pub report_content : Report → ReportContent
report_content r = record {
  severity = r.severity;
  code = string_bytes r.code;
  message = string_bytes r.message;
  labels = map label_content r.labels.items;
  notes = map string_bytes r.notes.items;
  help = map string_bytes r.help.items;
  replacements = map repair_of r.replacements.items;
}

-- ---- how a report is built

abbrev pub bare : Severity → List ℕ → List ℕ → ReportContent
bare severity code message = record {
  severity = severity;
  code = code;
  message = message;
  labels = [];
  notes = [];
  help = [];
  replacements = [];
}

abbrev pub with_label : ReportContent → Bool → Span → List ℕ → ReportContent
with_label r is_primary span text = record r {
  labels = r.labels ++ record { primary = is_primary; file = tt; span = span; message = text } ∷ [];
}

abbrev pub with_primary : ReportContent → Span → List ℕ → ReportContent
with_primary r span text = with_label r true span text

abbrev pub with_secondary : ReportContent → Span → List ℕ → ReportContent
with_secondary r span text = with_label r false span text

abbrev pub with_note : ReportContent → List ℕ → ReportContent
with_note r text = record r { notes = r.notes ++ text ∷ [] }

abbrev pub with_help : ReportContent → List ℕ → ReportContent
with_help r text = record r { help = r.help ++ text ∷ [] }

abbrev pub with_replacement : ReportContent → Span → List ℕ → Bool → ReportContent
with_replacement r span text is_safe = record r {
  replacements = r.replacements ++ record { span = span; text = text; is_safe = is_safe } ∷ [];
}
