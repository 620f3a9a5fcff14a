-- Names and paths in a search of a directory.
use Rattle.std.specs.Prelude.{ℕ, zero, suc, ◌-◌, Bool, false, true, not, ◌==◌, ◌||◌, ◌&&◌, nat_le, nat_lt, List, [], ◌∷◌, ◌++◌, drop}
use Rattle.std.specs.Prelude.{Option, None, Some, codes, length, map, slice_get, slice_index, string_bytes, if◌then◌else◌}
use Rattle.std.specs.List.{ends_with, starts_with}
use Rattle.std.specs.Option.{unwrap_or}
use Rattle.std.specs.Str.{bytes_eq}
use Rattle.toml_span_check.specs.Patterns.{PatternContent, contains, is_nothing, parts, pattern, selected, without_root}
use Rattle.toml_span_check.specs.Words.{word_text}
use Rattle.toml_span_check.specs.declared.folder.Below.{Below}
use Rattle.toml_span_check.specs.declared.folder.Folder.{Folder}
use Rattle.toml_span_check.specs.declared.folder.Ignore.{Ignore}

-- the path of a directory with a slash at its end
abbrev pub with_slash : List ℕ → List ℕ
with_slash folder = if slice_index folder (length folder - 1) == 47 then folder else folder ++ (47 ∷ [])

-- the path of the file called `name` in a directory
abbrev pub path_of : List ℕ → List ℕ → List ℕ
path_of folder name = with_slash folder ++ word_text name

-- whether a name is that of the directory itself, or of the one above it
abbrev pub is_dots : List ℕ → Bool
is_dots name = bytes_eq name (codes ".") || bytes_eq name (codes "..")

-- the part of a path after the last slash
abbrev pub last_name : List ℕ → List ℕ
last_name [] = []
last_name (b ∷ bs) = if contains 47 (b ∷ bs) then last_name bs else b ∷ bs

abbrev pub is_exclude_file : List ℕ → Bool
is_exclude_file path = ends_with ◌==◌ path (codes "/.git/info/exclude")

-- whether the file at a path has patterns of paths to ignore
abbrev pub is_ignore_file : List ℕ → Bool
is_ignore_file path =
    bytes_eq (last_name path) (codes ".gitignore") || bytes_eq (last_name path) (codes ".ignore")
    || is_exclude_file path

-- whether a search leaves out directories of this name, except for those that are arguments themselves
abbrev pub is_passed_over : List ℕ → Bool
is_passed_over name = slice_index name 0 == 46 || bytes_eq name (codes "target") || bytes_eq name (codes "node_modules")

abbrev pub is_toml : List ℕ → Bool
is_toml path = ends_with ◌==◌ path (codes ".toml")

-- ---- patterns of paths to leave out

-- a path without `./` at its start
abbrev pub without_dot : List ℕ → List ℕ
without_dot path = if starts_with ◌==◌ path (codes "./") then drop 2 path else path

-- what follows the path of a directory in the path of another one, as a relative path with a slash at its end
abbrev pub front_of : List ℕ → List ℕ
front_of rest = if length (without_root rest) == 0 then [] else without_root rest ++ 47 ∷ []

-- whether a text may be cut at an offset: at its end, or before the first byte of a character
abbrev pub is_boundary : List ℕ → ℕ → Bool
is_boundary text at =
    nat_le at (length text) && (nat_lt (slice_index text at) 128 || nat_le 192 (slice_index text at))

abbrev pub rest_from : ℕ → List ℕ → List ℕ
rest_from length path = if is_boundary path length then drop length path else path

-- the patterns, `front`, `length` and `above` of an ignore file
abbrev pub IgnoreContent : Type 0
IgnoreContent = List PatternContent × List ℕ × ℕ × Option ℕ

abbrev pub ignore : Ignore → IgnoreContent
ignore i = (map pattern i.patterns.items, string_bytes i.front, i.length, i.above)

-- a path, relative to the directory of the patterns
abbrev pub inside : IgnoreContent → List ℕ → List ℕ
inside i path = i.1 ++ rest_from i.2 path

-- whether a path is ignored by an ignore file or, if none of its patterns match, by the next one
abbrev pub decided : Option IgnoreContent → List ℕ → Bool → (Option ℕ → Bool) → Bool
decided None path is_directory next = false
decided (Some i) path is_directory next =
    unwrap_or (selected i.0 (parts (inside i path)) is_directory None) (next i.3)

-- the same for the ignore file at a position, and at most `count` files
abbrev pub decided_at : ℕ → List IgnoreContent → List ℕ → Bool → Option ℕ → Bool
decided_at zero ignores path is_directory at = false
decided_at (suc count) ignores path is_directory None = false
decided_at (suc count) ignores path is_directory (Some at) =
    decided (slice_get ignores at) path is_directory (decided_at count ignores path is_directory)

-- Whether ignore files ignore a path: the nearest one with a pattern that matches decides. `at` is the position of the
-- nearest one, if there is one.
abbrev pub is_ignored : List IgnoreContent → List ℕ → Bool → Option ℕ → Bool
is_ignored ignores path is_directory at = decided_at (length ignores) ignores path is_directory at

-- whether the patterns of `--exclude` exclude a path
abbrev pub is_excluded : List PatternContent → List ℕ → Bool → Bool
is_excluded patterns path is_directory =
    unwrap_or (selected patterns (parts (without_dot path)) is_directory None) false

-- ---- a search

-- the files found, the directories left to search with the positions of their ignore files, the ignore files, and the
-- patterns of `--exclude`
pub record Search : Type 0 where
  pub files : List (List ℕ)
  pub folders : List (List ℕ × Option ℕ)
  pub ignores : List IgnoreContent
  pub excludes : List PatternContent

abbrev pub folder : Folder → List ℕ × Option ℕ
folder f = (string_bytes f.path, f.ignore)

abbrev pub below : Below → Search
below b = record {
  files = map string_bytes b.files.items;
  folders = map folder b.folders.items;
  ignores = map ignore b.ignores.items;
  excludes = map pattern b.excludes.items;
}

-- whether a search leaves out a path
abbrev pub is_left_out : Search → List ℕ → Bool → Option ℕ → Bool
is_left_out s path is_directory at =
    (is_directory && is_passed_over (last_name path))
    || (is_excluded s.excludes path is_directory || is_ignored s.ignores path is_directory at)

-- whether a search takes the file at a path
abbrev pub takes : Search → List ℕ → Option ℕ → Bool
takes s path at = is_toml path && not (is_left_out s path false at)

-- one more directory, unless it is left out
abbrev pub with_folder : List ℕ → Option ℕ → Search → Search
with_folder path at s =
    if is_left_out s path true at then s else record s { folders = s.folders ++ (path, at) ∷ [] }

-- the position of the ignore file that applies first, with one more ignore file if it has patterns
abbrev pub with_ignore : List PatternContent → List ℕ → ℕ → Option ℕ → Search → Option ℕ × Search
with_ignore patterns front below above s =
    if is_nothing patterns then (above, s)
    else (Some (length s.ignores), record s { ignores = s.ignores ++ (patterns, front, below, above) ∷ [] })
