use Rattle.toml_span_lex.proofs.Common.{ℕ, ◌<◌, map, slice_index_or}
use Rattle.toml_span_read.specs.Data.{ParsedSection, parsed_section}
use Rattle.toml_span_format.specs.Permuted.{PermutedSection}
use Rattle.toml_span_format.proofs.permuted.permuted_sections.Given as goal

abbrev pub invariant-loop-i : goal.invariant-loop-i
invariant-loop-i l = (k : ℕ) (d : ParsedSection) → k < l.i → PermutedSection (slice_index_or (map parsed_section l.a) k d) (slice_index_or (map parsed_section l.b) k d)
