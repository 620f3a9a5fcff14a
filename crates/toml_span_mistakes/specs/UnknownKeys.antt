-- Messages and labels for unknown and deprecated keys, and for unexpected values.
use Rattle.std.specs.Prelude.{ℕ, List, [], ◌++◌, ◌==◌, codes, length, Option, option_map, if◌then◌else◌}
use Rattle.std.specs.List.{flat_map, join_by}
use Rattle.std.specs.Option.{option_to_list}
use Rattle.toml_span_lex.specs.declared.span.Span.{Span}
use Rattle.toml_span_tree.specs.Diagnostic.{primary}
use Rattle.toml_span_report.specs.Names.{nearest}
use Rattle.toml_span_report.specs.Report.{ReportLabel}

abbrev pub named : List ℕ → List ℕ
named name = codes "`" ++ name ++ codes "`"

abbrev pub listed : List (List ℕ) → List ℕ
listed names = join_by named (codes ", ") names

-- the message for unknown keys with these names
abbrev pub unknown_keys : List (List ℕ) → List ℕ
unknown_keys names = (if length names == 1 then codes "unknown key " else codes "unknown keys ") ++ listed names

-- the message for a value that is not one of `names`
abbrev pub one_of : List (List ℕ) → List ℕ
one_of names = (if length names == 1 then codes "expected " else codes "expected one of ") ++ listed names

-- the message that the key `old` is deprecated, and that `new` replaces it
abbrev pub deprecated : List ℕ → List ℕ → List ℕ
deprecated old new = named old ++ codes " is deprecated, use " ++ named new

-- the label of an unknown key
abbrev pub key_label : List ℕ × Span → ReportLabel
key_label key = primary tt key.1 (codes "unknown key")

-- the note that lists the expected keys
abbrev pub expected_keys : List (List ℕ) → List ℕ
expected_keys names =
    if length names == 0 then codes "this table can't have keys" else codes "expected " ++ listed names

abbrev pub in_place_of : ℕ → List ℕ → List ℕ
in_place_of count name = if count == 1 then [] else codes " in place of " ++ named name

-- the line of help that suggests `meant` for one of `count` unknown names
abbrev pub suggestion : ℕ → List ℕ → List ℕ → List ℕ
suggestion count name meant = codes "did you mean " ++ named meant ++ in_place_of count name ++ codes "?"

abbrev pub suggestion_for : ℕ → List (List ℕ) → List ℕ → Option (List ℕ)
suggestion_for count expected name = option_map (suggestion count name) (nearest name expected)

-- a line of help for each unknown name that is near enough to an expected one
abbrev pub suggestions : List (List ℕ) → List (List ℕ) → List (List ℕ)
suggestions names expected = flat_map (λ name. option_to_list (suggestion_for (length names) expected name)) names
