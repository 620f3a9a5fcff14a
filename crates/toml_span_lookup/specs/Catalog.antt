-- Which schema a catalog has for a file.
use Rattle.std.specs.Prelude.{ℕ, Bool, true, false, List, [], ◌∷◌, map, codes, string_bytes}
use Rattle.std.specs.Prelude.{Option, None, Some, if◌then◌else◌}
use Rattle.toml_span_check.specs.Patterns.{parts, pattern, selected}
use Rattle.toml_span_lookup.specs.Addresses.{without}
use Rattle.toml_span_lookup.specs.declared.catalog.Catalog.{Catalog}
use Rattle.toml_span_lookup.specs.declared.catalog.Listed.{Listed}

abbrev pub is_selected : Option Bool → Bool
is_selected (Some true) = true
is_selected _ = false

-- whether a schema of a catalog applies to the file at a path: the last pattern that matches it decides
abbrev pub applies : Listed → List ℕ → Bool
applies listed path = is_selected (selected (map pattern listed.patterns.items) (parts path) false None)

abbrev pub address_among : List Listed → List ℕ → Option (List ℕ)
address_among [] path = None
address_among (listed ∷ more) path =
    if applies listed path then Some (string_bytes listed.address) else address_among more path

-- the address of the first schema in a catalog that applies to a file
abbrev pub address_for : Catalog → List ℕ → Option (List ℕ)
address_for catalog name = address_among catalog.schemas.items (without (codes "./") name)
