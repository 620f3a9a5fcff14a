-- The names of keys.
use Rattle.std.specs.Prelude.{ℕ, List, Vec, map}
use Rattle.std.specs.Cow.{cow_str_bytes}
use Rattle.std.specs.declared.alloc.Global.{Global}
use Rattle.toml_span_lex.specs.declared.key.Key.{Key}

abbrev pub name_in : Key → List ℕ
name_in k = cow_str_bytes k.name

abbrev pub names_in : Vec Key Global → List (List ℕ)
names_in keys = map name_in keys.items
