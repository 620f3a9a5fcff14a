-- Tables with any keys, read as maps.
use Rattle.std.specs.Prelude.{◌≡◌, ℕ, List, [], ◌∷◌, Result, Ok, Err, String, map, string_bytes, codes}
use Rattle.std.specs.BTreeMap.{insert_entry}
use Rattle.std.specs.HashMap.{HashMap, IsFromIterResult}
use Rattle.std.specs.Cmp.Lexicographic.{slice_cmp}
use Rattle.std.specs.Ordering.{nat_cmp}
use Rattle.std.specs.String.{string_eq}
use Rattle.std.specs.declared.alloc.Global.{Global}
use Rattle.std.specs.declared.hash.FoldHasher.{FoldHasher}
use Rattle.std.specs.declared.hash.BuildHasherDefault.{BuildHasherDefault}
use Rattle.toml_span_tree.specs.Error.{ErrorContent}
use Rattle.toml_span_tree.specs.Node.{Members, Node, member, no_members, node, table}
use Rattle.toml_span_tree.specs.Errors.{Errors, all}
use Rattle.toml_span_typed.specs.Reads.{EachReads, Taken, errors, refused}

-- a map's entry, with the bytes of its name
abbrev pub shown_pair : {T : Type 0} → String Global × T → List ℕ × T
shown_pair entry = (string_bytes entry.0, entry.1)

-- the entries of a map after a value was inserted under a name; entries are sorted by the bytes of their names
abbrev pub holding : {T : Type 0} → List (List ℕ × T) → List ℕ → T → List (List ℕ × T)
holding entries name element = insert_entry (slice_cmp nat_cmp) entries name element

-- the entries of a map after each read value was inserted under its name; results that are errors are left out
abbrev pub holding_read : {T : Type 0} → List (List ℕ × T) → List (List ℕ) → List (Result T Errors) → List (List ℕ × T)
holding_read entries (name ∷ names) (Ok x ∷ answers) = holding_read (holding entries name x) names answers
holding_read entries (name ∷ names) (Err faults ∷ answers) = holding_read entries names answers
holding_read entries _ _ = entries

-- a table's names and its values, in order
abbrev pub names_of : Members → List (List ℕ)
names_of no_members = []
names_of (member name span value rest) = name ∷ names_of rest

abbrev pub values_of : Members → List Node
values_of no_members = []
values_of (member name span value rest) = value ∷ values_of rest

-- The values were read: each read value is in the map under its name, and `faults` are the errors.
abbrev pub EntriesRead : {T : Type 0} → (Node → Result T Errors → Node → Type 0) → List (List ℕ) → List Node
    → List (List ℕ × T) → List ErrorContent → Type 0
EntriesRead reads names values entries faults =
    (answers : List (Result _ Errors)) × EachReads reads values answers
    × (entries ≡ holding_read [] names answers) × (errors answers ≡ faults)

-- A map of the read values if no result is an error, otherwise all errors, in the order of the names.
abbrev pub ReadsEntries : {T : Type 0} → (Node → Result T Errors → Node → Type 0) → Members
    → Result (List (List ℕ × T)) Errors → Type 0
ReadsEntries reads ms (Ok entries) = EntriesRead reads (names_of ms) (values_of ms) entries []
ReadsEntries {T} reads ms (Err faults) = (entries : List (List ℕ × T))
    × EntriesRead reads (names_of ms) (values_of ms) entries (all faults)

-- The results of reading a table's values as T, joined; or the error for any other value. The value is taken.
abbrev pub table_reads : {T : Type 0} → (Node → Result T Errors → Node → Type 0) → Node
    → Result (List (List ℕ × T)) Errors → Node → Type 0
table_reads reads (node (table ms) span) answer after = ReadsEntries reads ms answer
    × Taken (node (table ms) span) after
table_reads reads value answer after = (answer ≡ refused (codes "a table") value) × Taken value after

-- a map that finds a name by its hash (antt has no name for a type alias)
abbrev pub Hashed : Type 0 → Type 0
Hashed T = HashMap (String Global) T (BuildHasherDefault FoldHasher)

-- The same results as for `table_reads`, with the entries in a map that finds them by hash.
abbrev pub hashed_reads : {T : Type 0} → (Node → Result T Errors → Node → Type 0) → Node → Result (Hashed T) Errors
    → Node → Type 0
hashed_reads reads value (Ok m) after = (entries : List (String Global × _))
    × table_reads reads value (Ok (map shown_pair entries)) after × IsFromIterResult string_eq entries m
hashed_reads reads value (Err faults) after = table_reads reads value (Err faults) after
