-- The explanations of codes.
use Rattle.std.specs.Prelude.{ℕ, List, map, Option}
use Rattle.toml_span_report.specs.Tables.{text_in}
use Rattle.toml_span_report.specs.declared.explanations.TheConstants.{PAGES}

unfoldable pub explained : List ℕ → Option (List ℕ)
explained code = text_in (map (λ entry. (entry.0.now, entry.1.now)) PAGES) code
