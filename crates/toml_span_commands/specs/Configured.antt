-- What configuration files change: the task, and the reports of schemas.
use Rattle.std.specs.Prelude.{◌≡◌, ℕ, Bool, true, false, List, [], ◌∷◌, ◌++◌, map, slice_get, if◌then◌else◌}
use Rattle.std.specs.Prelude.{Option, Some, None, is_some, unwrap_or, String, string_bytes, ◌&&◌, ◌||◌, not, codes}
use Rattle.std.specs.Global.{Global}
use Rattle.std.specs.Str.{bytes_eq}
use Rattle.toml_span_config.specs.Layers.{empty, given}
use Rattle.toml_span_config.specs.declared.layers.Chosen.{Chosen}
use Rattle.toml_span_config.specs.declared.layers.Layer.{Layer}
use Rattle.toml_span_check.specs.Newer.{Lacks}
use Rattle.toml_span_check.specs.Schemas.{Says}
use Rattle.toml_span_check.specs.declared.answer.Task.{Task}
use Rattle.toml_span_check.specs.declared.answer.Task.TheVariants.{Check, Show}
use Rattle.toml_span_check.specs.declared.newer.Version.{Version}
use Rattle.toml_span_check.specs.declared.newer.Version.TheVariants.{Auto, Toml10, Toml11}
use Rattle.toml_span_check.specs.declared.request.Request.{Request}
use Rattle.toml_span_check.specs.declared.schemas.Chooser.{Chooser}
use Rattle.toml_span_check.specs.declared.schemas.Chooser.TheVariants.{Arguments}
use Rattle.toml_span_lookup.specs.Findings.{file_says}
use Rattle.toml_span_lookup.specs.declared.options.Options.{Options}
use Rattle.toml_span_report.specs.Report.{ReportContent}
use Rattle.toml_span_report.specs.declared.report.Severity.{Severity}
use Rattle.toml_span_report.specs.declared.report.Severity.TheVariants as severities
use Rattle.toml_span_commands.specs.declared.configured.Configured.{Configured}
use Rattle.toml_span_commands.specs.declared.schemas.Named.{Named}
use Rattle.toml_span_commands.specs.declared.schemas.SchemaOptions.{SchemaOptions}
use Rattle.toml_span_commands.specs.declared.schemas.Shared.{Shared}

-- the version of TOML that the command line sets, if it sets one
abbrev pub given_version : Task → Bool → Option (Chosen Version)
given_version (Check asked chooser) is_given = if is_given then given asked else None
given_version (Show printing) is_given = None

-- the settings of the command line: the version of TOML, and whether warnings are errors
abbrev pub layer_of : Task → Bool → Bool → Layer
layer_of task is_version_given denies_warnings = record empty {
  toml = given_version task is_version_given;
  deny_warnings = if denies_warnings then given true else None;
}

-- Who chooses schemas, if configuration files name some.
abbrev pub with_schemas : Chooser → Bool → Chooser
with_schemas chooser true = Arguments
with_schemas chooser false = chooser

-- The task for files with this version of TOML, which holds unless the arguments name one.
abbrev pub configured_task : Task → Version → Bool → Task
configured_task (Check Auto chooser) version has_schemas = Check version (with_schemas chooser has_schemas)
configured_task (Check asked chooser) version has_schemas = Check asked (with_schemas chooser has_schemas)
configured_task (Show printing) version has_schemas = Show printing

-- the version of TOML that a configuration file sets for a file
abbrev pub version_of : Configured → Version
version_of file = file.found.settings.toml.value

abbrev pub is_same : Version → Version → Bool
is_same Auto Auto = true
is_same Toml10 Toml10 = true
is_same Toml11 Toml11 = true
is_same one other = false

-- whether all versions are this one
unfoldable pub have_version : Version → List Version → Bool
have_version version [] = true
have_version version (v ∷ vs) = if is_same v version then have_version version vs else false

abbrev pub first_version : List Version → Version
first_version versions = unwrap_or (slice_get versions 0) Auto

-- the version of all files, or `None` if they have several; `Auto` for no file
abbrev pub common_version : List Version → Option Version
common_version versions =
    if have_version (first_version versions) versions then Some (first_version versions) else None

-- the name of a file in reports
abbrev pub shown_name : Configured → List ℕ
shown_name file = string_bytes file.shown

-- whether standard input is one of the files
unfoldable pub has_stdin : List Configured → Bool
has_stdin [] = false
has_stdin (file ∷ files) = if bytes_eq (string_bytes file.name) (codes "-") then true else has_stdin files

-- the files with one more, unless its configuration excludes it; one that an argument names is only excluded if this is
-- forced
abbrev pub with_file : List Configured → Configured → Bool → Bool → List Configured
with_file files file is_named forces_exclude =
    if file.found.is_excluded && (not is_named || forces_exclude) then files else files ++ file ∷ []

-- whether a configuration file names a schema for one of the files
unfoldable pub has_schemas : List Configured → Bool
has_schemas [] = false
has_schemas (file ∷ files) = if is_some file.found.settings.schema then true else has_schemas files

-- The second request is the first with the task that configuration files make of its task, for files with these
-- settings. If they have several versions of TOML, it is 1.1, and each file is checked as its own.
abbrev pub IsConfigured : List Configured → Request → Request → Type 0
IsConfigured files old new =
    new ≡ record old {
      task = configured_task old.task (unwrap_or (common_version (map version_of files)) Toml11) (has_schemas files);
    }

abbrev pub no_warning : Severity → Severity
no_warning severities.Error = severities.Error
no_warning severities.Warning = severities.Error
no_warning severities.Note = severities.Note

-- a report, as an error if it is a warning and warnings are denied
abbrev pub denied : Bool → ReportContent → ReportContent
denied true report = record report { severity = no_warning report.severity }
denied false report = report

-- The reports of a document: those on syntax that the version of the file lacks, if files have several versions, and
-- those of its schema, where warnings are errors if the configuration denies them.
abbrev pub configured_says : Says
configured_says chooser name text root reports complaint =
    (version : Version) × (is_denied : Bool) × (older found : List ReportContent) × Lacks version name text older
    × file_says chooser name text root found complaint × (reports ≡ older ++ map (denied is_denied) found)

-- ---- the schemas of a file

-- what the settings of a file say, with this schema; the version is only checked with it if files have several
abbrev pub named_by : Configured → String Global → Bool → Named
named_by file schema are_mixed = record {
  source = file.found.source;
  schema = schema;
  version = if are_mixed then version_of file else Toml11;
  is_denied = file.found.settings.deny_warnings.value;
}

-- what is said of a file, if it is known
abbrev pub IsNamed : Option Configured → Bool → Named → Type 0
IsNamed None are_mixed named = (named.source ≡ None) × (named.version ≡ Toml11) × (named.is_denied ≡ false)
IsNamed (Some file) are_mixed named = named ≡ named_by file named.schema are_mixed

-- the schemas are those for files with this configuration file and this schema
abbrev pub IsShared : Named → Shared → Type 0
IsShared named shared = (shared.source ≡ named.source) × (string_bytes shared.schema ≡ string_bytes named.schema)

-- The options for looking up schemas are those of the arguments.
abbrev pub IsLookedUp : SchemaOptions → Options → Type 0
IsLookedUp given options =
    (string_bytes options.schema ≡ given.schema.now) × (string_bytes options.catalog ≡ given.catalog.now)
    × (options.has_formats ≡ given.has_formats)
