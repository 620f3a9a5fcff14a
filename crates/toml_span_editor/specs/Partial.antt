-- Reports of a schema on a text with errors.
use Rattle.std.specs.Prelude.{◌≡◌, ◌⊎◌, ℕ, Bool, false, ◌&&◌, ◌||◌, not, nat_le, nat_lt, List, [], ◌∷◌, ◌++◌, codes}
use Rattle.std.specs.Prelude.{if◌then◌else◌}
use Rattle.std.specs.List.{filter, list_any}
use Rattle.std.specs.Str.{bytes_eq}
use Rattle.toml_span.specs.Parsing.{IsTree}
use Rattle.toml_span_check.specs.Schemas.{Says}
use Rattle.toml_span_check.specs.declared.schemas.Chooser.{Chooser}
use Rattle.toml_span_read.specs.Data.{depth_limit}
use Rattle.toml_span_report.specs.Report.{ReportContent}
use Rattle.toml_span_tree.specs.Value.{view}
use Rattle.toml_span_tree.specs.declared.value.Value.{Value}
use Rattle.toml_span_editor.specs.Documents.{IsNoDocument, IsReadable}
use Rattle.toml_span_editor.specs.Labels.{main_span}
use Rattle.toml_span_editor.specs.declared.document.Part.{Part}
use Rattle.toml_span_editor.specs.declared.partial.Doubt.{Doubt}

-- ---- the sections of a text

-- a section that consists of this header so far, and a section with this statement added
abbrev pub begun : Part → Doubt
begun part = record { span = part.span; is_unknown = not part.is_kept; is_partial = not part.is_kept }

abbrev pub extended : Doubt → Part → Doubt
extended section part = record section {
  span = record { start = section.span.start; end = part.span.end };
  is_partial = section.is_partial || not part.is_kept;
}

-- the sections of a text in which these statements follow `section`, a section so far
abbrev pub sections_from : Doubt → List Part → List Doubt
sections_from section [] = section ∷ []
sections_from section (part ∷ parts) =
    if part.is_header then section ∷ sections_from (begun part) parts
    else sections_from (extended section part) parts

-- the section before the first header, so far without statements
abbrev pub before : Doubt
before = record { span = record { start = 0; end = 0 }; is_unknown = false; is_partial = false }

-- the sections with statements that can't be read
abbrev pub partial : List Doubt → List Doubt
partial sections = filter (λ section. section.is_partial) sections

abbrev pub doubts : List Part → List Doubt
doubts parts = partial (sections_from before parts)

-- ---- certain reports

-- The codes of reports that only depend on a value or key that is written, not on what else is written.
abbrev pub certain_codes : List (List ℕ)
certain_codes =
    codes "schema-additional-properties" ∷ codes "schema-const" ∷ codes "schema-deprecated" ∷ codes "schema-enum"
    ∷ codes "schema-exclusive-maximum" ∷ codes "schema-exclusive-minimum" ∷ codes "schema-false"
    ∷ codes "schema-format" ∷ codes "schema-max-items" ∷ codes "schema-max-length" ∷ codes "schema-maximum"
    ∷ codes "schema-min-length" ∷ codes "schema-minimum" ∷ codes "schema-multiple-of" ∷ codes "schema-not-fetched"
    ∷ codes "schema-pattern" ∷ codes "schema-property-names" ∷ codes "schema-type" ∷ codes "schema-unique-items" ∷ []

-- Whether a report at the offset `place` may be wrong because of this section. If its table is not known: all reports in
-- the section, and those elsewhere that depend on what else is written, since the table may be any. Otherwise: those in
-- the section that depend on what else is written.
abbrev pub is_doubted_by : ℕ → Bool → Doubt → Bool
is_doubted_by place is_certain doubt =
    let is_inside = nat_le doubt.span.start place && nat_lt place doubt.span.end in
    (is_inside && doubt.is_unknown) || ((is_inside || doubt.is_unknown) && not is_certain)

abbrev pub is_doubted : ℕ → Bool → List Doubt → Bool
is_doubted place is_certain doubts = list_any (is_doubted_by place is_certain) doubts

-- the reports that `doubts` leaves certain; `sure` are the codes of those that do not depend on what else is written
abbrev pub certain : List (List ℕ) → List Doubt → List ReportContent → List ReportContent
certain sure doubts [] = []
certain sure doubts (report ∷ reports) =
    if is_doubted (main_span report.labels).start (list_any (bytes_eq report.code) sure) doubts
    then certain sure doubts reports
    else report ∷ certain sure doubts reports

-- the reports `kept`, and one more if `doubts` leaves it certain
abbrev pub with_certain : List (List ℕ) → List Doubt → List ReportContent → ReportContent → List ReportContent
with_certain sure doubts kept report =
    if is_doubted (main_span report.labels).start (list_any (bytes_eq report.code) sure) doubts
    then kept
    else kept ++ report ∷ []

-- `reports` are the reports of the schema on what can be read of `text`, without those that may be wrong because
-- something can't be read. There are none if the rest of the text is not valid TOML either.
abbrev pub ArePartialReports : Says → Chooser → List ℕ → List ℕ → List ReportContent → Type 0
ArePartialReports says chooser name text reports =
    (parts : List Part) × (kept : List ℕ) × IsReadable text parts kept
    × ((IsNoDocument kept × (reports ≡ []))
    ⊎ ((root : Value) × (found : List ReportContent) × (complaint : List ℕ) × IsTree kept depth_limit root
    × says chooser name kept (view root) found complaint × (reports ≡ certain certain_codes (doubts parts) found)))
