-- Keys.
use Rattle.std.specs.Prelude.{ℕ, List, Bool}
use Rattle.std.specs.Cow.{cow_str_bytes}
use Rattle.std.specs.Ordering.{nat_cmp, is_eq}
use Rattle.std.specs.Cmp.Lexicographic.{slice_cmp}
use Rattle.toml_span_lex.specs.declared.key.Key.{Key}

-- whether the key has this name
abbrev pub is_named : List ℕ → Key → Bool
is_named name key = is_eq (slice_cmp nat_cmp name (cow_str_bytes key.name))
