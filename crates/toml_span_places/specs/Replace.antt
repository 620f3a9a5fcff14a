-- A text in which spans have been replaced.
use Rattle.std.specs.Prelude.{◌≡◌, ℕ, suc, Bool, ◌&&◌, ◌||◌, nat_le, nat_lt, List, [], ◌∷◌, ◌++◌, drop, length}
use Rattle.std.specs.Prelude.{slice_index, slice_range, if◌then◌else◌, Option, Some, None, Result, Ok, Err, String, ⊤}
use Rattle.std.specs.Prelude.{string_bytes}
use Rattle.std.specs.Global.{Global}
use Rattle.toml_span_lex.specs.declared.span.Span.{Span}
use Rattle.toml_span_lex.specs.declared.stop.Stop.{Stop}
use Rattle.toml_span_lex.specs.declared.stop.Stop.TheVariants as stops
use Rattle.toml_span_places.specs.declared.replace.ReplaceError.{ReplaceError}
use Rattle.toml_span_places.specs.declared.replace.Replacement.{Replacement}
use Rattle.toml_span_places.specs.declared.replace.SpanFault.{SpanFault}
use Rattle.toml_span_places.specs.declared.replace.SpanFault.TheVariants as faults

-- a span, and the text that replaces it
abbrev pub SpanEdit : Type 0
SpanEdit = Span × List ℕ

abbrev pub edit_of : Replacement → SpanEdit
edit_of r = (r.span, r.text.now)

-- the text from an offset on, with each span replaced; the other bytes are unchanged
abbrev pub edited_from : List ℕ → ℕ → List SpanEdit → List ℕ
edited_from text from [] = drop from text
edited_from text from ((s, with) ∷ es) = slice_range text from s.start ++ (with ++ edited_from text s.end es)

-- Whether the offset is at the start of a character, or not below the length of the text. Bytes from 0x80 to 0xBF
-- continue a character.
abbrev pub is_boundary : List ℕ → ℕ → Bool
is_boundary text at = nat_lt (slice_index text at) 0x80 || nat_le 0xC0 (slice_index text at)

-- what is wrong with a span, if anything, given the end of the span before it
abbrev pub fault_of : List ℕ → ℕ → Span → Option SpanFault
fault_of text from s =
    if nat_lt s.end s.start then Some faults.Reversed
    else if nat_lt (length text) s.end then Some faults.OutOfBounds
    else if nat_lt s.start from then Some faults.Overlapping
    else if is_boundary text s.start && is_boundary text s.end then None
    else Some faults.InsideCharacter

abbrev pub or_later : ℕ → Option SpanFault → Option ReplaceError → Option ReplaceError
or_later index (Some fault) later = Some (record { index = index; fault = fault })
or_later index None later = later

-- the index of the first edit whose span is invalid, and what is wrong with the span; `index` is the index of the first
-- edit in the list, and `from` the end of the span before it
abbrev pub first_fault : List ℕ → ℕ → ℕ → List SpanEdit → Option ReplaceError
first_fault text index from [] = None
first_fault text index from ((s, with) ∷ es) =
    or_later index (fault_of text from s) (first_fault text (suc index) s.end es)

-- The result is the text with all spans replaced or, if a span is invalid, the error about the first such span.
abbrev pub Replaces : List ℕ → List SpanEdit → Result (String Global) (Stop ReplaceError) → Type 0
Replaces text es (Ok new) = (first_fault text 0 0 es ≡ None) × (string_bytes new ≡ edited_from text 0 es)
Replaces text es (Err (stops.Fault e)) = first_fault text 0 0 es ≡ Some e
Replaces text es (Err (stops.Memory e)) = ⊤

abbrev pub if_right : Option ReplaceError → List ℕ → Option (List ℕ)
if_right (Some e) new = None
if_right None new = Some new

abbrev pub replaced : List ℕ → List SpanEdit → Option (List ℕ)
replaced text es = if_right (first_fault text 0 0 es) (edited_from text 0 es)
