-- The settings for a document.
use Rattle.std.specs.Prelude.{◌≡◌, ℕ, Bool, true, false, not, nat_le, List, Option, Some, None, codes, IfSome}
use Rattle.std.specs.Prelude.{if◌then◌else◌}
use Rattle.json.specs.Find.{get}
use Rattle.json.specs.Json.{Json}
use Rattle.toml_span_check.specs.declared.newer.Version.{Version}
use Rattle.toml_span_config.specs.Layers.{format_options}
use Rattle.toml_span_config.specs.declared.layers.Origin.{Origin}
use Rattle.toml_span_config.specs.declared.layers.Origin.TheVariants as origins
use Rattle.toml_span_config.specs.declared.layers.Settings.{Settings as Project}
use Rattle.toml_span_format.specs.Options.{default}
use Rattle.toml_span_format.specs.declared.options.Options.{Options}
use Rattle.toml_span_lsp.specs.Params.{HasCount}
use Rattle.toml_span_lsp.specs.declared.settings.Settings.{Settings}

-- whether a configuration file sets a setting
abbrev pub is_set : Origin → Bool
is_set origins.Default = false
is_set _ = true

-- the version and the width: those of the configuration file if it sets them
abbrev pub version_in : Settings → Project → Version
version_in settings project = if is_set project.toml.origin then project.toml.value else settings.version

abbrev pub width_in : Settings → Project → Option ℕ
width_in settings project = if is_set project.width.origin then Some project.width.value else settings.width

-- the settings of the client with those of a configuration file, which come first
abbrev pub in_project : Settings → Project → Bool → Settings
in_project settings project is_excluded = record settings {
  version = version_in settings project;
  width = width_in settings project;
  project = Some project;
  is_excluded = is_excluded;
  can_format = not is_excluded;
}

-- ---- options of the formatter

abbrev pub options_in : Option Project → Options
options_in None = default
options_in (Some project) = format_options project

abbrev pub with_width : Option ℕ → Options → Options
with_width None options = options
with_width (Some width) options = record options { width = width }

-- the indentation that a request asks for counts up to 64
abbrev pub with_indent : Option ℕ → Options → Options
with_indent None options = options
with_indent (Some size) options = if nat_le size 64 then record options { indent = size } else options

-- whether the configuration file sets the indentation
abbrev pub sets_indent : Option Project → Bool
sets_indent None = false
sets_indent (Some project) = is_set project.indent.origin

-- the options for a request that asks for the indentation `size`
abbrev pub options_for : Settings → Option ℕ → Options
options_for settings size =
    let options = with_width settings.width (options_in settings.project) in
    if sets_indent settings.project then options else with_indent size options

-- The options in the parameters of a request have the indentation `size`.
abbrev pub HasTabSize : Json → ℕ → Type 0
HasTabSize params size =
    (options : Json) × (get (codes "options") params ≡ Some options) × HasCount (codes "tabSize") options size

-- The options are those of the settings, and the indentation is the one that a request asks for, if it is valid.
abbrev pub AreOptions : Settings → Json → Options → Type 0
AreOptions settings params options =
    (size : Option ℕ) × IfSome size (HasTabSize params) × (options ≡ options_for settings size)
