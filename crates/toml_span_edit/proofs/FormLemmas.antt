-- What the code checks implies the definitions of conversions.
use Rattle.toml_span_lex.proofs.Common.{◌≡◌, ℕ, List, [], ◌∷◌, Some, Ok, true, slice_index, slice_range}
use Rattle.toml_span_lex.specs.Bytes.{left_bracket}
use Rattle.toml_span_lex.specs.declared.span.Span.{Span}
use Rattle.toml_span_read.specs.Data.{ParsedSection, depth_limit}
use Rattle.toml_span_read.specs.Read.{document}
use Rattle.toml_span_places.specs.Replace.{replaced}
use Rattle.toml_span_edit.specs.Converted.{has_converted, is_at, IsTableConverted, IsLaidOut, IsArrayConverted}
use Rattle.toml_span_edit.specs.declared.conversions.Conversion.{Conversion}

pub table_converted : (conversion : Conversion) (at : ℕ) (text new : List ℕ) (sections old made : List ParsedSection)
    → document text depth_limit (Ok old) → document new depth_limit (Ok made)
    → has_converted conversion at text old made ≡ true → has_converted conversion at text sections made ≡ true
    → IsTableConverted conversion at text sections new
table_converted conversion at text new sections old made read written has same = (old, made, read, written, has, same)

pub array_converted : (conversion : Conversion) (at : ℕ) (text new : List ℕ) (span : Span) (array : List ℕ)
    → replaced text ((span, array) ∷ []) ≡ Some new → is_at text at span ≡ true
    → slice_index text span.start ≡ left_bracket → slice_index array 0 ≡ left_bracket
    → IsLaidOut conversion (slice_range text span.start span.end) array → IsArrayConverted conversion at text new
array_converted conversion at text new span array made here opens begins laid =
    (span, array, made, here, opens, begins, laid)
