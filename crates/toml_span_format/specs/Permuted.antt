-- When two lists of sections are equal, without regard to spans and the order of the assignments in each section.
use Rattle.std.specs.Prelude.{◌≡◌, ℕ, ◌<◌, List, length, map, slice_index_or}
use Rattle.std.specs.List.Sorted.{IsPermutation}
use Rattle.toml_span_read.specs.Data.{ParsedSection}
use Rattle.toml_span_format.specs.Same.{bare_assignment, bare_key}

abbrev pub PermutedSection : ParsedSection → ParsedSection → Type 0
PermutedSection b c = (map bare_key b.header ≡ map bare_key c.header) × (b.array ≡ c.array)
    × IsPermutation (map bare_assignment b.assignments) (map bare_assignment c.assignments)

-- Both lists have the same sections in the same order, each with the same assignments in any order.
abbrev pub PermutedSections : List ParsedSection → List ParsedSection → Type 0
PermutedSections bs cs = (length bs ≡ length cs)
    × ((k : ℕ) (d : ParsedSection) → k < length bs → PermutedSection (slice_index_or bs k d) (slice_index_or cs k d))
