-- Paths of files, and which files may be edited.
use Rattle.std.specs.Prelude.{◌≡◌, ◌≢◌, ⊤, ℕ, Bool, false, ◌==◌, List, [], ◌∷◌, ◌++◌, slice_index, bit_and}
use Rattle.std.specs.Prelude.{if◌then◌else◌}
use Rattle.std.specs.List.{list_any}
use Rattle.std.specs.Fs.{IsDir, IsFile, file_type, metadata_mode}
use Rattle.std.specs.declared.fs.attrs.Metadata.{Metadata}
use Rattle.toml_span_files.specs.declared.disk.Options.{Options}
use Rattle.toml_span_files.specs.declared.failure.Failure.{Failure}
use Rattle.toml_span_files.specs.declared.failure.Failure.TheVariants as failures

abbrev pub has_slash : List ℕ → Bool
has_slash path = list_any (λ b. b == 47) path

-- the part of a path up to its last slash, with the slash; empty if the path has no slash
abbrev pub folder_of : List ℕ → List ℕ
folder_of [] = []
folder_of (b ∷ bs) = if has_slash (b ∷ bs) then b ∷ folder_of bs else []

-- the part of a path after its last slash
abbrev pub name_of : List ℕ → List ℕ
name_of [] = []
name_of (b ∷ bs) = if has_slash (b ∷ bs) then name_of bs else b ∷ bs

-- the path to which a link leads that contains `target`: a relative target starts from the directory of the link
abbrev pub led_to : List ℕ → List ℕ → List ℕ
led_to link target = if slice_index target 0 == 47 then target else folder_of link ++ target

-- nobody may write to the file
abbrev pub IsReadOnly : Metadata → Type 0
IsReadOnly found = bit_and (metadata_mode found) 0o222 ≡ 0

-- A file with this metadata may be edited: it is a regular file, and not read-only, unless that is overruled.
abbrev pub IsEditable : Metadata → Options → Type 0
IsEditable found options = IsFile (file_type found) × (options.is_forced ≡ false → IsReadOnly found → ⊥)

-- The file is not a regular file, and this failure says so.
abbrev pub IsNotRegular : Metadata → Failure → Type 0
IsNotRegular found failures.Directory = IsDir (file_type found)
IsNotRegular found failures.NotRegular = IsFile (file_type found) → ⊥
IsNotRegular found _ = ⊥

-- This failure is true of a file with this metadata.
abbrev pub IsRefused : Metadata → Options → Failure → Type 0
IsRefused found options failures.ReadOnly = (options.is_forced ≡ false) × IsReadOnly found
IsRefused found options failures.Linked = options.is_in_place ≡ false
IsRefused found options failure = IsNotRegular found failure
