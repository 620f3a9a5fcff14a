-- The results of checking documents against schemas in files.
use Rattle.std.specs.Prelude.{◌≡◌, ◌==◌, ◌&&◌, ◌⊎◌, ℕ, Bool, true, false, List, [], ◌∷◌, ◌++◌, All}
use Rattle.std.specs.Prelude.{Option, None, Some, String, codes, length, string_bytes, if◌then◌else◌, ⊤}
use Rattle.std.specs.Global.{Global}
use Rattle.std.specs.List.{list_any}
use Rattle.std.specs.Str.{bytes_eq}
use Rattle.toml_span_check.specs.Schemas.{Says, no_schema}
use Rattle.toml_span_check.specs.declared.schemas.Chooser.{Chooser}
use Rattle.toml_span_check.specs.declared.schemas.Chooser.TheVariants.{Files, Arguments}
use Rattle.toml_span_lookup.specs.Choice.{Chosen, choice_of, chosen, file}
use Rattle.toml_span_lookup.specs.Directive.{names_schema}
use Rattle.toml_span_lookup.specs.declared.catalog.Catalog.{Catalog}
use Rattle.toml_span_lookup.specs.declared.compiling.Used.{Used}
use Rattle.toml_span_lookup.specs.declared.lookup.Choice.{Choice}
use Rattle.toml_span_lookup.specs.declared.lookup.Choice.TheVariants as choices
use Rattle.toml_span_lookup.specs.declared.lookup.Lookup.{Lookup}
use Rattle.toml_span_lookup.specs.declared.options.Options.{Options}
use Rattle.toml_span_report.specs.Report.{ReportContent}
use Rattle.toml_span_report.specs.declared.report.Severity.TheVariants.{Error, Warning}
use Rattle.toml_span_report.specs.Visible.{visible}
use Rattle.toml_span_schema.specs.Valid.{valid}
use Rattle.toml_span_schema.specs.declared.guide.Guide.{Guide}
use Rattle.toml_span_schema.specs.declared.schema.Schema.{Schema}
use Rattle.toml_span_tree.specs.Node.{Node}

-- whether a text, such as the path of a schema, is empty
abbrev pub is_empty : String Global → Bool
is_empty text = length (string_bytes text) == 0

-- `Arguments` if the options name a schema or a catalog, otherwise `Files`
unfoldable pub chooser_of : Lookup → Chooser
chooser_of lookup =
    if is_empty lookup.options.schema && is_empty lookup.options.catalog then Files else Arguments

-- options may choose a schema, or a comment before the first header or assignment begins with `#:schema`, or the first
-- key is `"$schema"`
abbrev pub MayHaveSchema : Chooser → List ℕ → Type 0
MayHaveSchema chooser text = (chooser ≡ Arguments) ⊎ (names_schema text ≡ true)

-- The options name no schema, and either they name a catalog, whose choice is left open since files have no contract,
-- or no comment before the first header or assignment begins with `#:schema` and the first key is not `"$schema"`.
abbrev pub MayLackSchema : Lookup → List ℕ → Type 0
MayLackSchema lookup text =
    (is_empty lookup.options.schema ≡ true)
    × ((is_empty lookup.options.catalog ≡ false) ⊎ (names_schema text ≡ false))

-- `has_none` says whether a file with this text has no schema.
abbrev pub TellsNoSchema : Lookup → List ℕ → Bool → Type 0
TellsNoSchema lookup text true = MayLackSchema lookup text
TellsNoSchema lookup text false = MayHaveSchema (chooser_of lookup) text

-- only directives choose a schema, no comment before the first header or assignment begins with `#:schema`, and the
-- first key is not `"$schema"`
abbrev pub HasNoSchema : Chooser → List ℕ → Type 0
HasNoSchema chooser text = (chooser ≡ Files) × (names_schema text ≡ false)

-- The report is the warning that a schema is not fetched.
abbrev pub IsNotFetched : ReportContent → Type 0
IsNotFetched report = (report.severity ≡ Warning) × (report.code ≡ codes "schema-not-fetched")

abbrev pub IsError : ReportContent → Type 0
IsError report = report.severity ≡ Error

abbrev pub IsWarning : ReportContent → Type 0
IsWarning report = report.severity ≡ Warning

-- The list `reports` is `errors`, followed by warnings.
abbrev pub AddsWarnings : List ReportContent → List ReportContent → Type 0
AddsWarnings errors reports = (warnings : List ReportContent) × (reports ≡ errors ++ warnings) × All IsWarning warnings

-- The reports of a document that is checked against a schema: errors, followed by warnings. There are no errors if and
-- only if the document is valid.
abbrev pub ChecksWith : Schema → Node → List ReportContent → Type 0
ChecksWith schema root reports =
    (errors : List ReportContent) × (valid schema schema.depth root ≡ Some (length errors == 0))
    × All IsError errors × AddsWarnings errors reports

-- the compiled schema of the first file with this path; `None` if no file has the path, or if its schema can't be used
abbrev pub guide_at : List Used → List ℕ → Option Guide
guide_at [] path = None
guide_at (used ∷ more) path = if bytes_eq (string_bytes used.path) path then used.guide else guide_at more path

-- whether the schema at this path has been read
abbrev pub has_path : List Used → List ℕ → Bool
has_path used path = list_any (λ one. bytes_eq (string_bytes one.path) path) used

-- The schema of a choice has been read, if it is a file.
abbrev pub IsLoaded : Choice → List Used → Type 0
IsLoaded (choices.File path) used = has_path used (string_bytes path) ≡ true
IsLoaded choice used = ⊤

abbrev pub guide_for : List Used → Chosen → Option Guide
guide_for used (file path) = guide_at used path
guide_for used other = None

-- the compiled schema that the options, the catalog and a file with this text choose, if it has been read
abbrev pub guide_of : Lookup → List ℕ → List ℕ → Option Guide
guide_of lookup name text = guide_for lookup.used.items (choice_of lookup.options lookup.catalog name text)

-- the error line that says what can't be done with a file, and why
unfoldable pub complaint : List ℕ → List ℕ → List ℕ → List ℕ
complaint what path reason =
    codes "error: cannot " ++ what ++ codes " `" ++ visible path ++ codes "`: " ++ visible reason ++ codes "\n"

-- the check of a file was not completed, and the complaint says why
abbrev pub Complains : List ℕ → List ℕ → List ℕ → Type 0
Complains name before after = (reason : List ℕ) × (after ≡ before ++ complaint (codes "check") name reason)

-- The reports of a document whose schema was read, and the complaint before and after: those of `ChecksWith`, or none
-- and an error in the complaint, since the check was not completed. There are no reports if the schema can't be used.
abbrev pub ReportsOf : Option Guide → List ℕ → Node → List ReportContent → List ℕ → List ℕ → Type 0
ReportsOf None name root reports before after = (reports ≡ []) × (after ≡ before)
ReportsOf (Some guide) name root reports before after =
    (ChecksWith guide.schema root reports × (after ≡ before)) ⊎ ((reports ≡ []) × Complains name before after)

-- The reports of a document with this choice of a schema, among the schemas that were read.
abbrev pub ReportsFor : List Used → Choice → List ℕ → Node → List ReportContent → List ℕ → List ℕ → Type 0
ReportsFor used choices.None name root reports before after = (reports ≡ []) × (after ≡ before)
ReportsFor used (choices.Remote address) name root reports before after = (reports ≡ []) × (after ≡ before)
ReportsFor used (choices.File path) name root reports before after =
    ReportsOf (guide_at used (string_bytes path)) name root reports before after
ReportsFor used (choices.Unmapped address span) name root reports before after =
    ((report : ReportContent) × (reports ≡ report ∷ []) × IsNotFetched report) × (after ≡ before)

-- Since files have no contract, this leaves open which schema a document has, and whether it can be used.
abbrev pub IsChecked : List ℕ → Node → List ReportContent → List ℕ → Type 0
IsChecked name root reports complaint =
    (used : List Used) × (choice : Choice) × (before : List ℕ) × ReportsFor used choice name root reports before complaint

abbrev pub file_says : Says
file_says chooser name text root reports complaint =
    (HasNoSchema chooser text × no_schema chooser name text root reports complaint)
    ⊎ (MayHaveSchema chooser text × IsChecked name root reports complaint)

-- The document is checked against the schema that these options, a catalog and the file choose.
abbrev pub ChecksChosen : Options → Chooser → List ℕ → List ℕ → Node → List ReportContent → List ℕ → Type 0
ChecksChosen options chooser name text root reports complaint =
    HasNoSchema chooser text
    ⊎ ((catalog : Option Catalog) × (used : List Used) × (choice : Choice) × (before : List ℕ)
    × (chosen choice ≡ choice_of options catalog name text) × IsLoaded choice used
    × ReportsFor used choice name root reports before complaint)
