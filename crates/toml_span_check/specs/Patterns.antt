-- Which names and paths a pattern matches.
use Rattle.std.specs.Prelude.{ℕ, Bool, true, false, not, ◌==◌, ◌&&◌, ◌||◌, List, [], ◌∷◌, drop, Option, None, Some}
use Rattle.std.specs.Prelude.{length, option_map, take, ◌-◌, if◌then◌else◌}
use Rattle.std.specs.List.{filter_map, list_any, slice_split, starts_with}
use Rattle.std.specs.Str.Lines.{lines}
use Rattle.toml_span_check.specs.Globs.{Element, fits, glob_parts, is_any, parts_of}
use Rattle.toml_span_check.specs.declared.patterns.Pattern.{Pattern}

abbrev pub is_nothing : {A : Type 0} → List A → Bool
is_nothing [] = true
is_nothing (x ∷ xs) = false

-- whether `rest` is true for a suffix of a list; the suffix can be the whole list, or empty
abbrev pub some_end : {A : Type 0} → (List A → Bool) → List A → Bool
some_end rest [] = rest []
some_end rest (x ∷ xs) = rest (x ∷ xs) || some_end rest xs

-- whether the first element fits, and `rest` is true for the others
abbrev pub one_more : {A : Type 0} → (A → Bool) → (List A → Bool) → List A → Bool
one_more fits rest [] = false
one_more fits rest (x ∷ xs) = fits x && rest xs

-- Whether a part of a pattern matches a name: `*` matches any number of bytes.
abbrev pub name_matches : List Element → List ℕ → Bool
name_matches [] name = is_nothing name
name_matches (None ∷ rest) name = some_end (name_matches rest) name
name_matches (Some set ∷ rest) name = one_more (fits set) (name_matches rest) name

-- Whether a pattern matches a path: `**` matches any number of parts, any other part of the pattern one part of the
-- path.
abbrev pub path_matches : List (List Element) → List (List ℕ) → Bool
path_matches [] path = is_nothing path
path_matches (first ∷ rest) path =
    if is_any first then some_end (path_matches rest) path
    else one_more (name_matches first) (path_matches rest) path

-- the parts of a path between slashes
abbrev pub parts : List ℕ → List (List ℕ)
parts path = slice_split (λ b. b == 47) path

-- ---- patterns

-- The parts of a pattern, whether it deselects what it matches, and whether it matches only directories.
abbrev pub PatternContent : Type 0
PatternContent = List (List Element) × Bool × Bool

abbrev pub pattern : Pattern → PatternContent
pattern p = (parts_of p.parts.items, p.is_negated, p.is_directory)

abbrev pub begins : ℕ → List ℕ → Bool
begins code [] = false
begins code (x ∷ xs) = x == code

-- whether there is a `!` at the start of a text, and the rest
abbrev pub without_mark : List ℕ → Bool × List ℕ
without_mark text = if begins 33 text then (true, drop 1 text) else (false, text)

abbrev pub ends : ℕ → List ℕ → Bool
ends code [] = false
ends code (x ∷ []) = x == code
ends code (x ∷ y ∷ ys) = ends code (y ∷ ys)

-- whether there is a slash at the end of a text, and the rest
abbrev pub without_slash : List ℕ → Bool × List ℕ
without_slash text = if ends 47 text then (true, take (length text - 1) text) else (false, text)

abbrev pub contains : ℕ → List ℕ → Bool
contains code text = list_any (λ b. b == code) text

-- a text without a slash at its start
abbrev pub without_root : List ℕ → List ℕ
without_root text = if begins 47 text then drop 1 text else text

-- The parts of a pattern: `**` comes first if it has no slash, and so matches names at any depth.
abbrev pub pattern_parts : List ℕ → Option (List (List Element))
pattern_parts text = glob_parts (without_root text) (not (contains 47 text))

abbrev pub with_flags : Bool → Bool → List (List Element) → PatternContent
with_flags negated directory parts = (parts, negated, directory)

-- The pattern that a text is; there is none without a part.
abbrev pub supported : Bool → Bool → List ℕ → Option PatternContent
supported negated directory text =
    if length text == 0 then None else option_map (with_flags negated directory) (pattern_parts text)

abbrev pub pattern_of : List ℕ → Option PatternContent
pattern_of text =
    supported (without_mark text).0 (without_slash (without_mark text).1).0 (without_slash (without_mark text).1).1

-- whether a pattern matches a path, if it is a directory or not
abbrev pub matches : PatternContent → List (List ℕ) → Bool → Bool
matches p path is_directory = (is_directory || not p.2) && path_matches p.0 path

-- Whether the patterns select a path: what the last pattern that matches says. `found` is what the patterns before say.
abbrev pub selected : List PatternContent → List (List ℕ) → Bool → Option Bool → Option Bool
selected [] path is_directory found = found
selected (p ∷ ps) path is_directory found =
    selected ps path is_directory (if matches p path is_directory then Some (not p.1) else found)

-- ---- lines of a `.gitignore` file

abbrev pub kept : Bool → ℕ → List ℕ → List ℕ
kept is_space byte rest = if is_space && is_nothing rest then [] else byte ∷ rest

-- A line without the spaces at its end: those that nothing but spaces follow. `escaped` says whether a backslash is
-- before the line: a byte after a backslash stays.
abbrev pub trimmed : Bool → List ℕ → List ℕ
trimmed escaped [] = []
trimmed escaped (b ∷ bs) = kept (not escaped && b == 32) b (trimmed (not escaped && b == 92) bs)

abbrev pub without_spaces : List ℕ → List ℕ
without_spaces line = trimmed false line

-- the pattern of a line; a comment has none
abbrev pub line_pattern : List ℕ → Option PatternContent
line_pattern line = if begins 35 line then None else pattern_of (without_spaces line)

-- U+FEFF in UTF-8
abbrev pub byte_order_mark : List ℕ
byte_order_mark = 239 ∷ 187 ∷ 191 ∷ []

-- a text without a byte order mark at its start
abbrev pub without_bom : List ℕ → List ℕ
without_bom text = if starts_with ◌==◌ text byte_order_mark then drop 3 text else text

-- The patterns of a text: one for each line that has one, in order.
abbrev pub ignore_patterns : List ℕ → List PatternContent
ignore_patterns text = filter_map line_pattern (lines (without_bom text))

-- ---- marks of the suffixes of a list

-- the suffixes of marked suffixes; `marked` says whether a longer one is marked
abbrev pub spread : Bool → List Bool → List Bool
spread marked [] = []
spread marked (m ∷ ms) = (marked || m) ∷ spread (marked || m) ms

-- what follows the first element of each marked suffix, if the element fits
abbrev pub after : {A : Type 0} → (A → Bool) → List Bool → List A → List Bool
after fits marks [] = []
after fits [] (x ∷ xs) = false ∷ after fits [] xs
after fits (m ∷ ms) (x ∷ xs) = (m && fits x) ∷ after fits ms xs

-- what one more element, or one more part, of a pattern does with the marks
abbrev pub name_step : Element → List Bool → List ℕ → List Bool
name_step None marks name = spread false marks
name_step (Some set) marks name = false ∷ after (fits set) marks name

abbrev pub path_step : List Element → List Bool → List (List ℕ) → List Bool
path_step part marks path =
    if is_any part then spread false marks else false ∷ after (name_matches part) marks path
