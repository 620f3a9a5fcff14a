-- Which schema a file has, by the options, the directive in the file, and the catalog.
use Rattle.std.specs.Prelude.{ℕ, ◌==◌, List, [], length, string_bytes, Option, None, Some, if◌then◌else◌}
use Rattle.toml_span_lex.specs.declared.span.Span.{Span}
use Rattle.toml_span_lookup.specs.Addresses.{folder_of, path_of}
use Rattle.toml_span_lookup.specs.Catalog.{address_for}
use Rattle.toml_span_lookup.specs.Directive.{directive_of}
use Rattle.toml_span_lookup.specs.declared.catalog.Catalog.{Catalog}
use Rattle.toml_span_lookup.specs.declared.lookup.Choice.{Choice}
use Rattle.toml_span_lookup.specs.declared.lookup.Choice.TheVariants as choices
use Rattle.toml_span_lookup.specs.declared.options.Options.{Options}

-- a choice, with the texts in it
pub data Chosen : Type 0 where
  no_schema : Chosen
  file : List ℕ → Chosen
  unmapped : List ℕ → Option Span → Chosen
  remote : List ℕ → Chosen

abbrev pub chosen : Choice → Chosen
chosen choices.None = no_schema
chosen (choices.File path) = file (string_bytes path)
chosen (choices.Unmapped address span) = unmapped (string_bytes address) span
chosen (choices.Remote address) = remote (string_bytes address)

-- the schema at a path or, without a path, at an address that has no local copy
abbrev pub at_path : Chosen → Option (List ℕ) → Chosen
at_path without None = without
at_path without (Some path) = file path

abbrev pub by_address : Options → Option (List ℕ) → Chosen
by_address options None = no_schema
by_address options (Some address) =
    at_path (unmapped address None) (path_of options address (folder_of (string_bytes options.catalog)))

-- what the catalog says
abbrev pub by_catalog : Options → Option Catalog → List ℕ → Chosen
by_catalog options None name = no_schema
by_catalog options (Some catalog) name = by_address options (address_for catalog name)

abbrev pub if_file : Chosen → Chosen → Chosen
if_file other (file path) = file path
if_file other _ = other

-- What a directive with this address says. If the schema is on a server and has no local copy, but the catalog has a
-- local schema for the file, the catalog counts.
abbrev pub by_directive : Options → Option Catalog → List ℕ → List ℕ → Span → Chosen
by_directive options catalog name address span =
    at_path (if_file (unmapped address (Some span)) (by_catalog options catalog name))
    (path_of options address (folder_of name))

abbrev pub by_option : Options → List ℕ → Chosen
by_option options address = at_path (remote address) (path_of options address [])

-- a directive in a file: the address, and its span
abbrev pub Named : Type 0
Named = Option (List ℕ × Span)

abbrev pub by_file : Options → Option Catalog → List ℕ → Named → Chosen
by_file options catalog name None = by_catalog options catalog name
by_file options catalog name (Some directive) = by_directive options catalog name directive.0 directive.1

-- The schema of a file that has this directive, or none: the option `schema` decides first, then the directive, then the
-- catalog.
abbrev pub chosen_for : Options → Option Catalog → List ℕ → Named → Chosen
chosen_for options catalog name directive =
    if length (string_bytes options.schema) == 0 then by_file options catalog name directive
    else by_option options (string_bytes options.schema)

-- the schema of a file with this text
abbrev pub choice_of : Options → Option Catalog → List ℕ → List ℕ → Chosen
choice_of options catalog name text = chosen_for options catalog name (directive_of text)
