-- Which strings and keys of a tree are borrowed. A string or key is borrowed if and only if it equals the text at the
-- span where it is written, or is an empty single-line string. A string is written at its span. A key is written where
-- its path is first claimed: a table or an array keeps that name, even if a later claim determines the span of its key.
use Rattle.std.specs.Global.{Global}
use Rattle.std.specs.declared.borrow.CowStr.{CowStr}
use Rattle.std.specs.Prelude.{ℕ, suc, List, [], ◌∷◌, ◌++◌, Option, Some, option_map, IsSomeAnd, filter}
use Rattle.std.specs.Cow.{cow_str_bytes}
use Rattle.std.specs.List.{AllByRecursion, slice_get}
use Rattle.std.specs.Option.{option_map_or}
use Rattle.toml_span_lex.specs.declared.span.Span.{Span}
use Rattle.toml_span_lex.specs.declared.key.Key.{Key}
use Rattle.toml_span_lex.specs.Strings.{BorrowsWhereSame}
use Rattle.toml_span_tree.specs.Path.{key, position, Path}
use Rattle.toml_span_tree.specs.declared.value.ValueInner.TheOpen.{ValueInner-F, Value-F}
use Rattle.toml_span_tree.specs.declared.value.Value.{Value}
use Rattle.toml_span_tree.specs.declared.value.ValueInner.TheFolds.{fold-Value}
use Rattle.toml_span.specs.Claims.{Claims}
use Rattle.toml_span.specs.Flat.{all_claims}
use Rattle.toml_span_read.specs.Paths.{same_path}

-- ---- the strings and keys of a tree

-- a string value or a key, with the span where it is written, if that is known
abbrev pub StringOrKey : Type 0
StringOrKey = CowStr Global × Option Span

-- the span where the key of each path is written
abbrev pub KeySpans : Type 0
KeySpans = Path → Option Span

-- the strings and keys in a value, given the spans where the keys of the paths below it are written
abbrev pub StringsAndKeys : Type 0
StringsAndKeys = KeySpans → List StringOrKey

abbrev pub elements_strings : ℕ → List StringsAndKeys → StringsAndKeys
elements_strings i [] spans = []
elements_strings i (x ∷ xs) spans = x (λ p. spans (position i ∷ p)) ++ elements_strings (suc i) xs spans

abbrev pub entries_strings : List (Key × StringsAndKeys) → StringsAndKeys
entries_strings [] spans = []
entries_strings (e ∷ es) spans =
    let name = cow_str_bytes e.0.name in
    (e.0.name, spans (key name ∷ [])) ∷ (e.1 (λ p. spans (key name ∷ p)) ++ entries_strings es spans)

-- The strings and keys in the content of a value, given those in the values inside it. A string is written at the span
-- of its value.
abbrev pub inner_strings_step : ValueInner-F (Span → StringsAndKeys) StringsAndKeys → Span → StringsAndKeys
inner_strings_step (ValueInner-F.String s) span spans = (s, Some span) ∷ []
inner_strings_step (ValueInner-F.Array v) span spans = elements_strings 0 v.items spans
inner_strings_step (ValueInner-F.Table m) span spans = entries_strings m.entries spans
inner_strings_step _ span spans = []

abbrev pub value_strings_step : Value-F (Span → StringsAndKeys) StringsAndKeys → StringsAndKeys
value_strings_step v = option_map_or (λ held. held v.span) v.value (λ spans. [])

-- the strings and keys in a value
abbrev pub strings_and_keys : Value → StringsAndKeys
strings_and_keys = fold-Value (Span → StringsAndKeys) StringsAndKeys inner_strings_step value_strings_step

-- ---- what is borrowed

-- for each path, the span of the key in the first claim on the path
abbrev pub first_key : Claims → KeySpans
first_key cs p = option_map (λ c. c.info.key) (slice_get (filter (λ c. same_path c.path p) (all_claims cs)) 0)

-- The span where the string or key is written is known. It is borrowed if and only if it equals the text there or is an
-- empty single-line string.
abbrev pub IsBorrowedRight : List ℕ → StringOrKey → Type 0
IsBorrowedRight text x = IsSomeAnd x.1 (λ span. BorrowsWhereSame text span x.0)

abbrev pub AreBorrowedRight : List ℕ → List StringOrKey → Type 0
AreBorrowedRight text xs = AllByRecursion (IsBorrowedRight text) xs
