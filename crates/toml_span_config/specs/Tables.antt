-- The settings that the tables of a configuration file set.
use Rattle.std.specs.Prelude.{ℕ, ◌+◌, List, [], ◌∷◌, map, Option, Some, None, String, Vec, string_bytes}
use Rattle.std.specs.Global.{Global}
use Rattle.toml_span_check.specs.declared.newer.Version.{Version}
use Rattle.toml_span_lex.specs.declared.spanned.Spanned.{Spanned}
use Rattle.toml_span_check.specs.Patterns.{PatternContent, pattern}
use Rattle.toml_span_config.specs.Config.{ConfigContent, EntryContent}
use Rattle.toml_span_config.specs.Layers.{empty, of_field, under}
use Rattle.toml_span_config.specs.declared.document.CheckTable.{CheckTable}
use Rattle.toml_span_config.specs.declared.document.Document.{Document}
use Rattle.toml_span_config.specs.declared.document.FilesTable.{FilesTable}
use Rattle.toml_span_config.specs.declared.document.FmtTable.{FmtTable}
use Rattle.toml_span_config.specs.declared.document.Glob.{Glob}
use Rattle.toml_span_config.specs.declared.document.VersionName.{VersionName}
use Rattle.toml_span_config.specs.declared.layers.Chosen.{Chosen}
use Rattle.toml_span_config.specs.declared.layers.Layer.{Layer}
use Rattle.toml_span_config.specs.declared.layers.Origin.TheVariants as origins

abbrev pub version_of : Option (Spanned VersionName) → Option (Chosen Version)
version_of None = None
version_of (Some name) = Some (record { value = name.value.version; origin = origins.File name.span })

abbrev pub check_layer : CheckTable → Layer
check_layer t = record empty { toml = version_of t.toml; deny_warnings = of_field t.deny_warnings }

abbrev pub fmt_layer : FmtTable → Layer
fmt_layer t = record empty {
  width = of_field t.width;
  indent = of_field t.indent;
  sort_keys = of_field t.sort_keys;
  trailing_comma = of_field t.trailing_comma;
  expand_arrays = of_field t.expand_arrays;
  align_comments = of_field t.align_comments;
  blank_lines = of_field t.blank_lines;
  crlf = of_field t.crlf;
}

-- a layer below the settings of a table, if the table is there
abbrev pub with_check : Layer → Option CheckTable → Layer
with_check lower None = lower
with_check lower (Some t) = under lower (check_layer t)

abbrev pub with_fmt : Layer → Option FmtTable → Layer
with_fmt lower None = lower
with_fmt lower (Some t) = under lower (fmt_layer t)

-- the layer that only names the schema of the entry at this position, if the entry names one
abbrev pub schema_layer : Option (Spanned (String Global)) → ℕ → Layer
schema_layer None at = empty
schema_layer (Some path) at =
    record empty { schema = Some (record { value = at; origin = origins.File path.span }) }

-- the path or URL of the schema that an entry names, as it is written; empty if it names none
abbrev pub schema_text : Option (Spanned (String Global)) → List ℕ
schema_text None = []
schema_text (Some path) = string_bytes path.value

-- the settings of the entry of `files` at this position
abbrev pub entry_layer : FilesTable → ℕ → Layer
entry_layer t at = with_fmt (with_check (schema_layer t.schema at) t.check) t.fmt

abbrev pub patterns : Option (Vec Glob Global) → List PatternContent
patterns None = []
patterns (Some globs) = map (λ g. pattern g.pattern) globs.items

abbrev pub entry_content : FilesTable → ℕ → EntryContent
entry_content t at = (patterns (Some t.globs), entry_layer t at)

-- the entries of the tables from the position `at` on
abbrev pub entries_from : ℕ → List FilesTable → List EntryContent
entries_from at [] = []
entries_from at (t ∷ ts) = entry_content t at ∷ entries_from (at + 1) ts

abbrev pub entries : Option (Vec FilesTable Global) → List EntryContent
entries None = []
entries (Some files) = entries_from 0 files.items

-- the settings for all files
abbrev pub general_layer : Document → Layer
general_layer d = with_fmt (with_check empty d.check) d.fmt

-- the configuration of a file
abbrev pub config_content : Document → ConfigContent
config_content d = (general_layer d, entries d.files, patterns d.exclude)
