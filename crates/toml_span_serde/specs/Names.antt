-- The names of fields and variants, as texts.
use Rattle.std.specs.Prelude.{ℕ, List, [], ◌∷◌, map, if◌then◌else◌}
use Rattle.std.specs.List.{flat_map}
use Rattle.serde.specs.Spelling.{spelled}
use Rattle.serde.specs.declared.name.Name.{Name}

-- a name, converted to the case of `rename_all`
abbrev pub text_of : Name → List ℕ
text_of n = spelled n.case n.kind n.name.now

-- all forms of a name: the name itself and its aliases
abbrev pub forms_of : Name → List (List ℕ)
forms_of n = text_of n ∷ map (λ alias. alias.now) n.aliases.now

-- the forms of a name that are read: none for a skipped field
abbrev pub forms_read : Name → List (List ℕ)
forms_read n = if n.skipped then [] else forms_of n

-- the forms of these names that are read
abbrev pub all_forms : List Name → List (List ℕ)
all_forms names = flat_map forms_read names
