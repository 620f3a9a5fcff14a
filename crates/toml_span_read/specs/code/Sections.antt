-- What the functions for lines, headers and sections return.
use Rattle.std.specs.Prelude.{◌≡◌, ℕ, ◌≤◌, ◌⊎◌, List, [], ◌∷◌, map, length, slice_index, Vec, Result, Ok, Err, Option}
use Rattle.std.specs.Prelude.{Some, None, IfSome}
use Rattle.std.specs.Global.{Global}
use Rattle.std.specs.Str.{IsCharBoundary}
use Rattle.toml_span_lex.specs.declared.stop.Stop.{Stop}
use Rattle.toml_span_lex.specs.Bytes.{left_bracket}
use Rattle.toml_span_read.specs.declared.fault.Fault.{Fault}
use Rattle.toml_span_read.specs.declared.value.Assignment.{Assignment}
use Rattle.toml_span_read.specs.Data.{parsed_assignment, ParsedSection, parsed_section, simple_key}
use Rattle.toml_span_read.specs.Read.{Pairs, HeaderEnd, ParsedSections}
use Rattle.toml_span_read.specs.declared.sections.Header.{Header}
use Rattle.toml_span_read.specs.declared.section.Section.{Section}
use Rattle.toml_span_read.specs.Borrowed.{AreWrittenRight, section_written}
use Rattle.toml_span_read.specs.code.Faults.{IsPlacedStop}
use Rattle.toml_span_read.specs.code.Gaps.{Further}

-- ---- the code's values as plain data

abbrev pub lines_found : Vec Assignment Global × ℕ → Pairs
lines_found (found, j) = (map parsed_assignment found.items, j)

abbrev pub head_found : Header → HeaderEnd
head_found h = record { parts = map simple_key h.parts.items; array = h.array; end = h.extent.end }

abbrev pub first_sections : Option Section → List ParsedSection
first_sections None = []
first_sections (Some s) = parsed_section s ∷ []

abbrev pub first_found : Option Section × ℕ → ParsedSections
first_found (first, j) = (first_sections first, j)

abbrev pub section_found : Section × ℕ → ParsedSection × ℕ
section_found (s, j) = (parsed_section s, j)

abbrev pub sections_found : Vec Section Global → List ParsedSection
sections_found found = map parsed_section found.items

-- ---- where reading ends

-- What was read ends at i or after it, or the fault starts inside the text or at its end.
abbrev pub EndsAfter : {A : Type 0} → List ℕ → ℕ → Result (A × ℕ) (Stop Fault) → Type 0
EndsAfter text i (Ok found) = (i ≤ found.1) × IsCharBoundary text found.1
EndsAfter text i (Err stop) = IsPlacedStop text stop

-- The assignments end where a header begins, or at the end of the text.
abbrev pub EndsAtHeader : {A : Type 0} → List ℕ → Result (A × ℕ) (Stop Fault) → Type 0
EndsAtHeader text (Ok found) = (found.1 ≡ length text) ⊎ (slice_index text found.1 ≡ left_bracket)
EndsAtHeader text (Err stop) = Unit {0}

-- The rest of a line or of a header ends at i or after it, or the fault starts inside the text or at its end.
abbrev pub LineReads : List ℕ → ℕ → Result ℕ (Stop Fault) → Type 0
LineReads text i (Ok j) = (i ≤ j) × IsCharBoundary text j
LineReads text i (Err stop) = IsPlacedStop text stop

-- The header begins at i and ends after i, or the fault starts inside the text or at its end.
abbrev pub HeaderReads : List ℕ → ℕ → Result Header (Stop Fault) → Type 0
HeaderReads text i (Ok h) = (h.extent.start ≡ i) × Further text i h.extent.end
HeaderReads text i (Err stop) = IsPlacedStop text stop

-- ---- section by section

-- A header begins at j, or the text ends there.
abbrev pub EndsSection : List ℕ → ℕ → Type 0
EndsSection text j = IsCharBoundary text j × ((j ≡ length text) ⊎ (slice_index text j ≡ left_bracket))

abbrev pub FirstReads : List ℕ → Result (Option Section × ℕ) (Stop Fault) → Type 0
FirstReads text (Ok found) = IfSome found.0 (λ s. AreWrittenRight text (section_written s)) × EndsSection text found.1
FirstReads text (Err stop) = IsPlacedStop text stop

abbrev pub SectionReads : List ℕ → ℕ → Result (Section × ℕ) (Stop Fault) → Type 0
SectionReads text i (Ok found) =
    AreWrittenRight text (section_written found.0) × Further text i found.1 × EndsSection text found.1
SectionReads text i (Err stop) = IsPlacedStop text stop
