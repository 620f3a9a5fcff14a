-- The addresses of schemas, and the paths of their files.
use Rattle.std.specs.Prelude.{ℕ, ◌+◌, ◌==◌, Bool, ◌&&◌, ◌||◌, not, List, [], ◌∷◌, ◌++◌, drop, length, take, codes}
use Rattle.std.specs.Prelude.{nat_eq, nat_lt, string_bytes, bytes_eq, Option, None, Some, if◌then◌else◌}
use Rattle.std.specs.List.{before_first, ends_with, list_any, slice_split, starts_with}
use Rattle.std.specs.Option.{unwrap_or}
use Rattle.std.specs.Str.{is_utf8}
use Rattle.percent_encoding.specs.Percent.{percent_decode}
use Rattle.toml_span_lookup.specs.declared.options.LocalCopy.{LocalCopy}
use Rattle.toml_span_lookup.specs.declared.options.Options.{Options}

-- the rest of a text that begins with `front`
abbrev pub after : List ℕ → List ℕ → Option (List ℕ)
after front text = if starts_with nat_eq text front then Some (drop (length front) text) else None

-- a text without `front` at its start
abbrev pub without : List ℕ → List ℕ → List ℕ
without front text = unwrap_or (after front text) text

abbrev pub is_slash : ℕ → Bool
is_slash b = b == 47

-- the number of bytes up to the last slash of a path
abbrev pub folder_length : List ℕ → ℕ
folder_length [] = 0
folder_length (b ∷ bs) = if nat_lt 0 (folder_length bs) then folder_length bs + 1 else (if is_slash b then 1 else 0)

-- the folder of a path, with the slash after it
abbrev pub folder_of : List ℕ → List ℕ
folder_of path = take (folder_length path) path

abbrev pub begins_with_slash : List ℕ → Bool
begins_with_slash text = starts_with nat_eq text (codes "/")

-- `folder` and a path as one path, or only the path if it is absolute
abbrev pub joined : List ℕ → List ℕ → List ℕ
joined folder path =
    if begins_with_slash (without (codes "./") path) then without (codes "./") path
    else folder ++ without (codes "./") path

abbrev pub is_remote : List ℕ → Bool
is_remote address = starts_with nat_eq address (codes "https://") || starts_with nat_eq address (codes "http://")

-- an address without its fragment
abbrev pub without_fragment : List ℕ → List ℕ
without_fragment address = before_first (λ b. b == 35) address

-- a text with its percent escapes decoded, or unchanged if the result is not UTF-8
abbrev pub decoded : List ℕ → List ℕ
decoded part = if is_utf8 (percent_decode part) then percent_decode part else part

-- ---- local copies

-- whether one of the parts between slashes is `..`
abbrev pub leads_out : List ℕ → Bool
leads_out path = list_any (λ part. bytes_eq part (codes "..")) (slice_split is_slash path)

abbrev pub ends_with_slash : List ℕ → Bool
ends_with_slash text = ends_with nat_eq text (codes "/")

abbrev pub with_slash : List ℕ → List ℕ
with_slash path = if ends_with_slash path then path else path ++ codes "/"

-- the file of an address below the address of a folder; `rest` is the part of the address below it
abbrev pub file_below : List ℕ → List ℕ → Option (List ℕ) → Option (List ℕ)
file_below known path None = None
file_below known path (Some rest) =
    if ends_with_slash known && not (leads_out rest) then Some (with_slash path ++ rest) else None

-- the file that `path`, a local copy of the address or folder `known`, is or has for an address
abbrev pub file_in : List ℕ → List ℕ → List ℕ → Option (List ℕ)
file_in known path address =
    if bytes_eq known address then Some path else file_below known path (after known address)

abbrev pub or_else : Option (List ℕ) → Option (List ℕ) → Option (List ℕ)
or_else None later = later
or_else (Some path) later = Some path

-- the file of the first local copy that has one for an address without a fragment
abbrev pub copy_among : List LocalCopy → List ℕ → Option (List ℕ)
copy_among [] address = None
copy_among (copy ∷ copies) address =
    or_else (file_in (without_fragment (string_bytes copy.address)) (string_bytes copy.path) address)
    (copy_among copies address)

abbrev pub copy_of : Options → List ℕ → Option (List ℕ)
copy_of options address = copy_among options.copies.items (without_fragment address)

-- the path in an address, which may begin with `file://`
abbrev pub path_in : List ℕ → Option (List ℕ) → List ℕ
path_in address None = address
path_in address (Some part) = decoded part

abbrev pub local_path : List ℕ → List ℕ → Option (List ℕ)
local_path address folder =
    if is_remote address then None else Some (joined folder (path_in address (after (codes "file://") address)))

-- The path of the local copy of the schema at an address or, without a local copy, of the schema itself, if it is not on
-- a server. A relative address starts at `folder`.
abbrev pub path_of : Options → List ℕ → List ℕ → Option (List ℕ)
path_of options address folder = or_else (copy_of options address) (local_path address folder)
