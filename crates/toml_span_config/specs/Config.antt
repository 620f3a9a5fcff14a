-- The settings that a configuration has for a file.
use Rattle.std.specs.Prelude.{ℕ, Bool, false, true, ◌==◌, ◌&&◌, ◌||◌, List, [], ◌∷◌, ◌++◌, map, None, if◌then◌else◌}
use Rattle.std.specs.Option.{unwrap_or}
use Rattle.toml_span_check.specs.Patterns.{PatternContent, parts, pattern, selected}
use Rattle.toml_span_config.specs.Layers.{empty, settled, under}
use Rattle.toml_span_config.specs.declared.config.Config.{Config}
use Rattle.toml_span_config.specs.declared.config.Entry.{Entry}
use Rattle.toml_span_config.specs.declared.layers.Layer.{Layer}
use Rattle.toml_span_config.specs.declared.layers.Settings.{Settings}

-- the patterns of an entry, and its settings
abbrev pub EntryContent : Type 0
EntryContent = List PatternContent × Layer

abbrev pub entry : Entry → EntryContent
entry e = (map pattern e.patterns.items, e.layer)

-- the settings for all files, the entries for some, in order, and the patterns of `exclude`
abbrev pub ConfigContent : Type 0
ConfigContent = Layer × List EntryContent × List PatternContent

abbrev pub config : Config → ConfigContent
config c = (c.general, map entry c.files.items, map pattern c.excludes.items)

abbrev pub no_config : ConfigContent
no_config = (empty, [], [])

-- whether patterns select the file at a path: the last one that matches decides, and does not begin with `!`
abbrev pub selects : List PatternContent → List ℕ → Bool
selects patterns path = unwrap_or (selected patterns (parts path) false None) false

-- the same of the directory at a path
abbrev pub selects_folder : List PatternContent → List ℕ → Bool
selects_folder patterns path = unwrap_or (selected patterns (parts path) true None) false

-- whether patterns select the file at a path, or a directory whose path is `front` with what `rest` has before a slash
abbrev pub selects_below : List PatternContent → List ℕ → List ℕ → Bool
selects_below patterns front [] = selects patterns front
selects_below patterns front (b ∷ rest) =
    (b == 47 && selects_folder patterns front) || selects_below patterns (front ++ b ∷ []) rest

-- whether `exclude` leaves out the file at a path: its patterns select the file, or a directory that contains it
abbrev pub excludes : ConfigContent → List ℕ → Bool
excludes c path = selects_below c.2 [] path

-- the settings of a layer and of an entry above it, if the entry is for this file
abbrev pub with_entry : List ℕ → Layer → EntryContent → Layer
with_entry path lower e = if selects e.0 path then under lower e.1 else lower

-- The settings of a layer and of entries above it. Each entry lies above those before it, so the last one that is for
-- this file and sets a setting decides.
abbrev pub with_entries : List ℕ → Layer → List EntryContent → Layer
with_entries path lower [] = lower
with_entries path lower (e ∷ es) = with_entries path (with_entry path lower e) es

-- The settings that hold for a file: those of the command line, above those of the entries for the file, above those
-- for all files, above the defaults.
abbrev pub settings_for : ConfigContent → Layer → List ℕ → Settings
settings_for c arguments path = settled (under (with_entries path c.0 c.1) arguments)

abbrev pub general_settings : ConfigContent → Layer → Settings
general_settings c arguments = settled (under c.0 arguments)
