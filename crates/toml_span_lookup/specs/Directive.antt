-- The schema that a file names: by the directive `#:schema`, in a comment before the first header or assignment, or by
-- the value of its first key, `"$schema"`.
use Rattle.std.specs.Prelude.{ℕ, ◌+◌, ◌-◌, ◌==◌, Bool, true, false, not, ◌&&◌, ◌||◌, List, [], ◌∷◌, codes, drop, length}
use Rattle.std.specs.Prelude.{nat_lt, take, Option, None, Some, option_map, if◌then◌else◌}
use Rattle.std.specs.Option.{is_some}
use Rattle.std.specs.Str.{is_utf8}
use Rattle.toml_span_lex.specs.declared.span.Span.{Span}
use Rattle.toml_span_lookup.specs.Addresses.{after}
use Rattle.toml_span_lookup.specs.declared.directive.Place.{Place}
use Rattle.toml_span_report.specs.Places.{bom_end}

-- a text from the address of a schema on, and the number of bytes of the address
abbrev pub PlaceContent : Type 0
PlaceContent = List ℕ × ℕ

abbrev pub place : Place → PlaceContent
place p = (p.rest.now, p.length)

abbrev pub Found : Type 0
Found = Option PlaceContent

abbrev pub or_found : Found → Found → Found
or_found None later = later
or_found (Some place) later = Some place

abbrev pub on_rest : Option (List ℕ) → (List ℕ → Found) → Found
on_rest None f = None
on_rest (Some rest) f = f rest

-- whether the byte is a space, a tab or a carriage return
abbrev pub is_white : ℕ → Bool
is_white b = b == 32 || (b == 9 || b == 13)

abbrev pub skip_white : List ℕ → List ℕ
skip_white [] = []
skip_white (b ∷ bs) = if is_white b then skip_white bs else b ∷ bs

-- an address of this length, unless it is empty
abbrev pub sized : List ℕ → ℕ → Found
sized text n = if n == 0 then None else Some (text, n)

-- ---- `#:schema ADDRESS`

abbrev pub one_more : Bool → ℕ → ℕ
one_more is_white n = if nat_lt 0 n then n + 1 else (if is_white then 0 else 1)

-- The number of bytes of a line without white space at its end, and without a comment: a `#` after white space, or at
-- the start if `after_white` is true.
abbrev pub word_length : Bool → List ℕ → ℕ
word_length after_white [] = 0
word_length after_white (b ∷ bs) =
    if b == 10 || (after_white && b == 35) then 0 else one_more (is_white b) (word_length (is_white b) bs)

abbrev pub word_in : List ℕ → Found
word_in text = sized text (word_length true text)

abbrev pub begins_white : List ℕ → Bool
begins_white [] = false
begins_white (b ∷ bs) = is_white b

abbrev pub after_schema : List ℕ → Found
after_schema text = if begins_white text then word_in (skip_white text) else None

abbrev pub in_comment : List ℕ → Found
in_comment text = on_rest (after (codes "#:schema") (skip_white text)) after_schema

-- ---- `"$schema" = "ADDRESS"`

-- the number of bytes of a string up to its closing quote, unless it has escapes; `n` bytes are before the text
abbrev pub string_length : ℕ → ℕ → List ℕ → Option ℕ
string_length quote n [] = None
string_length quote n (b ∷ bs) =
    if b == quote then Some n
    else (if b == 10 || (quote == 34 && b == 92) then None else string_length quote (n + 1) bs)

abbrev pub sized_string : List ℕ → Option ℕ → Found
sized_string text None = None
sized_string text (Some n) = sized text n

-- a string from its opening quote on
abbrev pub in_string : List ℕ → Found
in_string [] = None
in_string (b ∷ bs) = if b == 34 || b == 39 then sized_string bs (string_length b 0 bs) else None

abbrev pub in_value : List ℕ → Found
in_value text = on_rest (after (codes "=") (skip_white text)) (λ rest. in_string (skip_white rest))

abbrev pub in_key : List ℕ → Found
in_key text =
    or_found (on_rest (after (codes "\"$schema\"") (skip_white text)) in_value)
    (on_rest (after (codes "'$schema'") (skip_white text)) in_value)

-- ---- the lines of a file

-- whether a line has no header or assignment: it is empty, or a comment
abbrev pub is_empty_line : List ℕ → Bool
is_empty_line [] = true
is_empty_line (b ∷ bs) = b == 10 || b == 35

abbrev pub in_line : List ℕ → Found
in_line text = or_found (in_comment text) (in_key text)

-- The first place before the first header or assignment, or in it. `is_start` says whether a line begins here.
abbrev pub named_from : Bool → List ℕ → Found
named_from is_start [] = None
named_from is_start (b ∷ bs) =
    if not is_start then named_from (b == 10) bs
    else or_found (in_line (b ∷ bs))
    (if is_empty_line (skip_white (b ∷ bs)) then named_from (b == 10) bs else None)

-- a text, which must be UTF-8
abbrev pub text_of : List ℕ → Option (List ℕ)
text_of bytes = if is_utf8 bytes then Some bytes else None

-- the address at a place, and its span in a text
abbrev pub address_at : PlaceContent → Option (List ℕ)
address_at p = text_of (take p.1 p.0)

abbrev pub span_at : List ℕ → PlaceContent → Span
span_at text p = record { start = length text - length p.0; end = length text - (length p.0 - p.1) }

abbrev pub with_span : List ℕ → Found → Option (List ℕ × Span)
with_span text None = None
with_span text (Some p) = option_map (λ address. (address, span_at text p)) (address_at p)

-- the address of the schema that a file with this text names, and its span
unfoldable pub directive_of : List ℕ → Option (List ℕ × Span)
directive_of text = with_span text (named_from true (drop (bom_end text) text))

unfoldable pub names_schema : List ℕ → Bool
names_schema text = is_some (directive_of text)
