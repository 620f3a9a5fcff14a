-- The explanation of a code.
use Rattle.std.specs.Prelude.{ℕ, List, codes, map, Option, Some, None, if◌then◌else◌}
use Rattle.std.specs.Str.{bytes_eq}
use Rattle.toml_span_report.specs.Explanations.{explained}
use Rattle.toml_span_report.specs.Tables.{text_in}
use Rattle.toml_span_commands.specs.declared.schema_pages.TheConstants.{SCHEMA_PAGES}
use Rattle.toml_span_commands.specs.declared.explain.TheConstants.{NOT_UTF_8, TOO_LONG, TOO_MANY_ERRORS}
use Rattle.toml_span_commands.specs.declared.explain.TheConstants.{NOTHING_THERE}

-- the explanation of a code of a report about a schema
unfoldable pub schema_page : List ℕ → Option (List ℕ)
schema_page code = text_in (map (λ entry. (entry.0.now, entry.1.now)) SCHEMA_PAGES) code

abbrev pub or_error : Option (List ℕ) → List ℕ → Option (List ℕ)
or_error (Some page) code = Some page
or_error None code = explained code

-- the explanation of any code: of an error of a document, of a report about a schema, or of another error of `check`
-- and `get`
unfoldable pub page_of : List ℕ → Option (List ℕ)
page_of code =
    if bytes_eq code (codes "too-many-errors") then Some TOO_MANY_ERRORS.now
    else if bytes_eq code (codes "not-utf-8") then Some NOT_UTF_8.now
    else if bytes_eq code (codes "too-long") then Some TOO_LONG.now
    else if bytes_eq code (codes "nothing-there") then Some NOTHING_THERE.now
    else or_error (schema_page code) code
