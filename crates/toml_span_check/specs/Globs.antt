-- What the parts of a pattern consist of.
use Rattle.std.specs.Prelude.{ℕ, Bool, true, false, not, ◌==◌, ◌&&◌, ◌||◌, nat_le, List, [], ◌∷◌, ◌++◌, fold, length, map}
use Rattle.std.specs.Prelude.{Option, None, Some, Vec, if◌then◌else◌, replicate}
use Rattle.std.specs.List.{list_all, list_any}
use Rattle.std.specs.Global.{Global}
use Rattle.toml_span_check.specs.declared.globs.Code.{Code}
use Rattle.toml_span_check.specs.declared.globs.Code.TheVariants as codes
use Rattle.toml_span_check.specs.declared.globs.Mode.{Mode}
use Rattle.toml_span_check.specs.declared.globs.Mode.TheVariants as modes
use Rattle.toml_span_check.specs.declared.globs.Range.{Range}
use Rattle.toml_span_check.specs.declared.globs.Reader.{Reader}
use Rattle.toml_span_check.specs.declared.globs.Set.{Set}

-- ---- elements

-- a set of bytes: those in the ranges or, if the boolean is true, all others
abbrev pub Bytes : Type 0
Bytes = List Range × Bool

abbrev pub in_ranges : List Range → ℕ → Bool
in_ranges ranges byte = list_any (λ range. nat_le range.first byte && nat_le byte range.last) ranges

-- whether a byte of a name is in a set
abbrev pub fits : Bytes → ℕ → Bool
fits set byte = if set.1 then not (in_ranges set.0 byte) else in_ranges set.0 byte

-- an element of a part: one byte of a set, or any number of bytes
abbrev pub Element : Type 0
Element = Option Bytes

abbrev pub set_of : Set → Bytes
set_of set = (set.ranges.items, set.is_negated)

abbrev pub element : Code → Element
element codes.Star = None
element (codes.One set) = Some (set_of set)

abbrev pub codes_of : List Code → List Element
codes_of part = map element part

abbrev pub parts_of : List (Vec Code Global) → List (List Element)
parts_of parts = map (λ part. codes_of part.items) parts

abbrev pub is_star : Element → Bool
is_star None = true
is_star (Some set) = false

-- whether a part matches any number of parts of a path: `**`, with two or more stars
abbrev pub is_any : List Element → Bool
is_any part = list_all is_star part && nat_le 2 (length part)

abbrev pub stars : ℕ → List Element
stars count = replicate count None

-- ---- reading

-- the parts before the last slash, the elements after it, the class that is not closed yet, the item of it with which a
-- range may begin (or 0), and where the next byte is
pub record Content : Type 0 where
  pub parts : List (List Element)
  pub codes : List Element
  pub ranges : List Range
  pub negated : Bool
  pub previous : ℕ
  pub mode : Mode

abbrev pub content : Reader → Content
content r = record {
  parts = parts_of r.parts.items;
  codes = codes_of r.codes.items;
  ranges = r.ranges.items;
  negated = r.is_negated;
  previous = r.previous;
  mode = r.mode;
}

abbrev pub start : Content
start = record { parts = []; codes = []; ranges = []; negated = false; previous = 0; mode = modes.Plain }

abbrev pub end_part : Content → Content
end_part r = record r { parts = r.parts ++ r.codes ∷ []; codes = [] }

abbrev pub with_set : Bytes → Content → Content
with_set set r = record r { codes = r.codes ++ Some set ∷ [] }

abbrev pub one_byte : ℕ → Bytes
one_byte byte = (record { first = byte; last = byte } ∷ [], false)

-- a byte that stands for itself, or a slash
abbrev pub literal : ℕ → Content → Content
literal byte r = if byte == 47 then end_part r else with_set (one_byte byte) r

-- a byte outside of a class
abbrev pub plain : ℕ → Content → Content
plain byte r =
    if byte == 42 then record r { codes = r.codes ++ None ∷ [] }
    else if byte == 63 then with_set ([], true) r
    else if byte == 91 then record r { negated = false; previous = 0; mode = modes.Opened }
    else if byte == 92 then record r { mode = modes.Escaped }
    else literal byte r

abbrev pub escaped : ℕ → Content → Content
escaped byte r = literal byte (record r { mode = modes.Plain })

-- these bytes are in the class
abbrev pub with_range : ℕ → ℕ → ℕ → Content → Content
with_range first last previous r = record r {
  ranges = r.ranges ++ record { first = first; last = last } ∷ [];
  previous = previous;
  mode = modes.Item;
}

-- an item of a class
abbrev pub item : ℕ → Content → Content
item byte r =
    if byte == 92 then record r { mode = modes.ItemEscaped }
    else if byte == 45 && not (r.previous == 0) then record r { mode = modes.Dash }
    else if byte == 91 then record r { mode = modes.Bracket }
    else with_range byte byte byte r

-- the byte after the `[` of a class
abbrev pub opened : ℕ → Content → Content
opened byte r = if byte == 33 || byte == 94 then record r { negated = true; mode = modes.First } else item byte r

abbrev pub end_class : Content → Content
end_class r = record r { codes = r.codes ++ Some (r.ranges, r.negated) ∷ []; ranges = []; mode = modes.Plain }

abbrev pub item_or_end : ℕ → Content → Content
item_or_end byte r = if byte == 93 then end_class r else item byte r

-- a byte after an item and `-`: the end of a range, or of the class
abbrev pub dash : ℕ → Content → Content
dash byte r =
    if byte == 93 then end_class (with_range 45 45 45 r)
    else if byte == 92 then record r { mode = modes.DashEscaped }
    else with_range r.previous byte 0 r

-- a byte after a `[` in a class; named classes such as `[:alpha:]` are not supported
abbrev pub bracket : ℕ → Content → Content
bracket byte r =
    if byte == 58 then record r { mode = modes.Unsupported } else item_or_end byte (with_range 91 91 91 r)

abbrev pub step_in : Mode → Content → ℕ → Content
step_in modes.Plain r byte = plain byte r
step_in modes.Escaped r byte = escaped byte r
step_in modes.Opened r byte = opened byte r
step_in modes.First r byte = item byte r
step_in modes.Item r byte = item_or_end byte r
step_in modes.ItemEscaped r byte = with_range byte byte byte r
step_in modes.Dash r byte = dash byte r
step_in modes.DashEscaped r byte = with_range r.previous byte 0 r
step_in modes.Bracket r byte = bracket byte r
step_in modes.Unsupported r byte = r

-- one more byte
abbrev pub step : Content → ℕ → Content
step r byte = step_in r.mode r byte

-- ---- parts

-- A part `**` at the end matches at least one part of a path: `a/**` is `a/**/*`.
abbrev pub closed : List Element → List (List Element)
closed part = if is_any part then part ∷ stars 1 ∷ [] else part ∷ []

-- the parts that have been read; there are none if a class is not closed, or after a backslash at the end
abbrev pub finished_in : Mode → Content → Option (List (List Element))
finished_in modes.Plain r = Some (r.parts ++ closed r.codes)
finished_in _ r = None

abbrev pub finished : Content → Option (List (List Element))
finished r = finished_in r.mode r

-- the part `**` first, if a pattern matches in all directories
abbrev pub start_of : Bool → Content
start_of deep = if deep then record start { parts = stars 2 ∷ [] } else start

abbrev pub glob_parts : List ℕ → Bool → Option (List (List Element))
glob_parts text deep = finished (fold step (start_of deep) text)
