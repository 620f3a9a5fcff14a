-- The settings for a file, by its configuration file.
use Rattle.std.specs.Prelude.{◌≡◌, ℕ, false, ◌==◌, List, drop, length, map, slice_get, string_bytes, if◌then◌else◌}
use Rattle.std.specs.Prelude.{Option, Some, None, IfSome}
use Rattle.std.specs.List.{starts_with}
use Rattle.std.specs.Option.{unwrap_or}
use Rattle.toml_span_check.specs.Patterns.{begins}
use Rattle.toml_span_config.specs.Config.{ConfigContent, config, excludes, settings_for}
use Rattle.toml_span_config.specs.Layers.{settled}
use Rattle.toml_span_config.specs.declared.layers.Layer.{Layer}
use Rattle.toml_span_config.specs.declared.sources.Found.{Found}
use Rattle.toml_span_config.specs.declared.sources.Search.{Search}
use Rattle.toml_span_config.specs.declared.sources.Search.TheVariants.{Given, Nearest, No}
use Rattle.toml_span_config.specs.declared.sources.Source.{Source}
use Rattle.toml_span_config.specs.declared.sources.Sources.{Sources}

abbrev pub after_slash : List ℕ → Option (List ℕ)
after_slash text = if begins 47 text then Some (drop 1 text) else None

-- the part of a path below a directory, if it is below
abbrev pub below : List ℕ → List ℕ → Option (List ℕ)
below folder path = if starts_with ◌==◌ path folder then after_slash (drop (length folder) path) else None

abbrev pub inside : List ℕ → List ℕ → List ℕ
inside folder path = unwrap_or (below folder path) path

-- the directory of a configuration file, and its content
abbrev pub SourceContent : Type 0
SourceContent = List ℕ × ConfigContent

abbrev pub source : Source → SourceContent
source s = (string_bytes s.folder, config s.config)

abbrev pub source_at : List SourceContent → Option ℕ → Option SourceContent
source_at sources None = None
source_at sources (Some at) = slice_get sources at

abbrev pub found_in : Option SourceContent → Layer → Option ℕ → List ℕ → Found
found_in None arguments at path = record { settings = settled arguments; source = None; is_excluded = false }
found_in (Some s) arguments at path = record {
  settings = settings_for s.1 arguments (inside s.0 path);
  source = at;
  is_excluded = excludes s.1 (inside s.0 path);
}

-- The settings for the file at an absolute path, and whether it is excluded: both by the configuration file at this
-- position, for the path relative to its directory.
abbrev pub found : List SourceContent → Layer → Option ℕ → List ℕ → Found
found sources arguments at path = found_in (source_at sources at) arguments at path

-- What is used for all files: none, or some file that has been read. `None` if it is found for each file.
abbrev pub IsSearched : Search → Option (Option ℕ) → Type 0
IsSearched Nearest fixed = fixed ≡ None
IsSearched (Given path) fixed = (at : ℕ) × (fixed ≡ Some (Some at))
IsSearched No fixed = fixed ≡ Some None

-- The settings for a file at some path, with those of the command line: by the configuration file that is used for all
-- files, or else by one that has been read, or none.
abbrev pub Settles : Sources → Sources → Found → Type 0
Settles old new settings =
    (at : Option ℕ) × (path : List ℕ) × IfSome old.fixed (λ fixed. at ≡ fixed)
    × (settings ≡ found (map source new.list.items) old.arguments at path)
