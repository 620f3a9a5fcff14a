-- Labels of reports.
use Rattle.std.specs.Prelude.{List, [], ◌∷◌, if◌then◌else◌}
use Rattle.toml_span_lex.specs.declared.span.Span.{Span}
use Rattle.toml_span_report.specs.Report.{ReportLabel}

-- the span of the first primary label, or 0..0 without such a label
abbrev pub main_span : List ReportLabel → Span
main_span [] = record { start = 0; end = 0 }
main_span (label ∷ labels) = if label.primary then label.span else main_span labels
