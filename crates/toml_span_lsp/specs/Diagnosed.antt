-- The diagnostics of open documents.
use Rattle.std.specs.Prelude.{◌⊎◌, ℕ, Bool, false, List, Option, None, Some, string_bytes}
use Rattle.toml_span_check.specs.declared.newer.Version.{Version}
use Rattle.toml_span_config.specs.declared.layers.Settings.{Settings as Project}
use Rattle.toml_span_editor.specs.Diagnostics.{Diagnoses, DiagnosesWithoutSchema}
use Rattle.toml_span_editor.specs.declared.diagnostics.Diagnosed.{Diagnosed}
use Rattle.toml_span_editor.specs.declared.positions.Encoding.{Encoding}
use Rattle.toml_span_lookup.specs.Findings.{MayHaveSchema, MayLackSchema, chooser_of, file_says}
use Rattle.toml_span_lookup.specs.declared.lookup.Lookup.{Lookup}
use Rattle.toml_span_lsp.specs.Shown.{Finds}
use Rattle.toml_span_lsp.specs.declared.state.Findings.{Findings}
use Rattle.toml_span_lsp.specs.declared.state.Open.{Open as Document}

-- `made` has the diagnostics of `text`, the text of the file `name`. They are those of `toml-span check`, with the
-- schema of the file if it has one. `lookup` says whether settings may choose the schema, or only the file. The relation
-- leaves open which schema is chosen, whether it can be used, and whether a catalog has one for the file.
abbrev pub AreChecked : Lookup → Version → List ℕ → Encoding → List ℕ → Diagnosed → Type 0
AreChecked lookup version name encoding text made =
    (MayLackSchema lookup text × DiagnosesWithoutSchema version name encoding text made)
    ⊎ (MayHaveSchema (chooser_of lookup) text
    × Diagnoses file_says version (chooser_of lookup) name encoding text made)

-- whether the configuration file of a document says that warnings are errors
abbrev pub denies_in : Option Project → Bool
denies_in None = false
denies_in (Some project) = project.deny_warnings.value

-- `found` is what is shown of a document: what `AreChecked` and `Finds` say.
abbrev pub AreShown : Lookup → Document → Encoding → Findings → Type 0
AreShown lookup document encoding found =
    (made : Diagnosed)
    × AreChecked lookup document.settings.version (string_bytes document.name) encoding (string_bytes document.text)
    made
    × Finds (denies_in document.settings.project) made found
