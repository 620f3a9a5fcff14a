-- Documents in which a table or an array has another form.
use Rattle.std.specs.Prelude.{◌≡◌, ◌⊎◌, ℕ, Bool, true, false, ◌==◌, ◌&&◌, not, nat_le, List, [], ◌∷◌, Some, Ok}
use Rattle.std.specs.Prelude.{slice_index, slice_range}
use Rattle.std.specs.List.{list_any}
use Rattle.toml_span_lex.specs.Bytes.{left_bracket, line_feed}
use Rattle.toml_span_lex.specs.declared.span.Span.{Span}
use Rattle.toml_span_read.specs.Data.{ParsedSection, depth_limit}
use Rattle.toml_span_read.specs.Read.{document}
use Rattle.toml_span_places.specs.Replace.{replaced}
use Rattle.toml_span_places.specs.Tables.{TableMention, document_tables, forms_at}
use Rattle.toml_span_places.specs.declared.tables.TableForm.{TableForm}
use Rattle.toml_span_places.specs.declared.tables.TableForm.TheVariants as forms
use Rattle.toml_span_format.specs.Document.{PermutedComments, SameDocument}
use Rattle.toml_span_edit.specs.Edited.{IsSameDocument}
use Rattle.toml_span_edit.specs.declared.conversions.Conversion.{Conversion}
use Rattle.toml_span_edit.specs.declared.conversions.Conversion.TheVariants as kinds

abbrev pub has_line_end : List ℕ → Bool
has_line_end bytes = list_any (λ c. c == line_feed) bytes

-- whether the offset `at` is in the span, at its end, or before it on the same line
abbrev pub is_at : List ℕ → ℕ → Span → Bool
is_at text at span = nat_le at span.end && not (has_line_end (slice_range text at span.start))

-- ---- tables

-- whether the second form is the first one, if that is a header in single brackets, a dotted key, or braces
abbrev pub is_form : TableForm → TableForm → Bool
is_form forms.Header forms.Header = true
is_form forms.Dotted forms.Dotted = true
is_form forms.Inline forms.Inline = true
is_form _ form = false

-- whether `from` is among the old forms but not among the new ones, and `to` is among the new ones
abbrev pub is_replaced : TableForm → TableForm → List TableForm → List TableForm → Bool
is_replaced from to old new =
    list_any (is_form from) old && (not (list_any (is_form from) new) && list_any (is_form to) new)

-- whether the old and the new forms of a table differ as the conversion requires; false for conversions of arrays
abbrev pub changes : Conversion → List TableForm → List TableForm → Bool
changes kinds.InlineToSection old new = is_replaced forms.Inline forms.Header old new
changes kinds.SectionToInline old new = is_replaced forms.Header forms.Inline old new
changes kinds.DottedToSection old new = is_replaced forms.Dotted forms.Header old new
changes _ old new = false

-- whether the table is named at the offset `at` of `text`, and its forms in `old`, the tables of `text`, and in `new`
-- differ as the conversion requires
abbrev pub is_converted : Conversion → ℕ → List ℕ → List TableMention → List TableMention → TableMention → Bool
is_converted conversion at text old new table =
    is_at text at table.span && changes conversion (forms_at table.path old) (forms_at table.path new)

-- whether `is_converted` holds for one of the tables that the sections `old` of `text` name
abbrev pub has_converted : Conversion → ℕ → List ℕ → List ParsedSection → List ParsedSection → Bool
has_converted conversion at text old new =
    list_any (is_converted conversion at text (document_tables old) (document_tables new)) (document_tables old)

-- One of the tables that `text` names at the offset `at` has other forms in `new`, as the conversion requires. The same
-- is true of the tables that `sections` name, which the caller passed as the sections of `text`.
abbrev pub IsTableConverted : Conversion → ℕ → List ℕ → List ParsedSection → List ℕ → Type 0
IsTableConverted conversion at text sections new =
    (old made : List ParsedSection) × document text depth_limit (Ok old) × document new depth_limit (Ok made)
    × (has_converted conversion at text old made ≡ true) × (has_converted conversion at text sections made ≡ true)

-- ---- arrays

-- The array `old` is on one line and the array `new` on several lines or, for `ArrayToLine`, the other way round.
abbrev pub IsLaidOut : Conversion → List ℕ → List ℕ → Type 0
IsLaidOut kinds.ArrayToLines old new = (has_line_end old ≡ false) × (has_line_end new ≡ true)
IsLaidOut kinds.ArrayToLine old new = (has_line_end old ≡ true) × (has_line_end new ≡ false)
IsLaidOut _ old new = ⊥

-- A part of the text, at the offset `at`, is replaced by `array`. Both begin with an opening bracket, and their line
-- ends are as `IsLaidOut` requires. All other bytes are the same.
abbrev pub IsArrayConverted : Conversion → ℕ → List ℕ → List ℕ → Type 0
IsArrayConverted conversion at text new =
    (span : Span) × (array : List ℕ) × (replaced text ((span, array) ∷ []) ≡ Some new)
    × (is_at text at span ≡ true) × (slice_index text span.start ≡ left_bracket)
    × (slice_index array 0 ≡ left_bracket) × IsLaidOut conversion (slice_range text span.start span.end) array

-- ---- conversions

-- In the second text, a table at the offset `at` has another form. Or an array at `at` is on one line or on several
-- lines instead, and all tokens and comments are the same, in one order; commas may differ.
abbrev pub HasOtherForm : Conversion → ℕ → List ℕ → List ParsedSection → List ℕ → Type 0
HasOtherForm conversion at text sections new =
    IsTableConverted conversion at text sections new
    ⊎ (IsArrayConverted conversion at text new × SameDocument text new)

-- In the second text, the table or array at the offset `at` has another form. The trees of the texts are the same
-- except for spans. The comments are the same, perhaps in another order. `sections` are the sections of `text`.
abbrev pub IsConverted : Conversion → ℕ → List ℕ → List ParsedSection → List ℕ → Type 0
IsConverted conversion at text sections new =
    HasOtherForm conversion at text sections new × IsSameDocument text new × PermutedComments text new
