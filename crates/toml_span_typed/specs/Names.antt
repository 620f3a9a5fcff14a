-- Names that must not be repeated in a list.
use Rattle.std.specs.Prelude.{ℕ, List, [], ◌∷◌, ◌++◌, codes, Option, Some, None, option_map, option_and_then}
use Rattle.std.specs.Borrow.{Bor}
use Rattle.std.specs.Map.{lookup}
use Rattle.std.specs.Option.{option_to_list}
use Rattle.std.specs.Str.{bytes_eq}
use Rattle.toml_span_lex.specs.declared.span.Span.{Span}
use Rattle.toml_span_tree.specs.Error.{ErrorContent, marked}
use Rattle.toml_span_tree.specs.Node.{Items, Node, array, get_member, item, no_items, node}
use Rattle.toml_span_tree.specs.Value.{inner_of, members_in, span_of, text_in}

-- a name and its span
abbrev pub Name : Type 0
Name = List ℕ × Span

abbrev pub named : Bor (List ℕ) × Span → Name
named n = (n.0.now, n.1)

-- the string of a value, with its span
abbrev pub string_at : Node → Option Name
string_at value = option_map (λ s. (s, span_of value)) (text_in (inner_of value))

-- the string with this key, if the value is a table that has one
abbrev pub name_in : List ℕ → Node → Option Name
name_in key value = option_and_then string_at (option_and_then (get_member key) (members_in (inner_of value)))

-- The names of elements, whatever else is in them: the strings with this key. Other elements have no name.
abbrev pub names_of : List ℕ → Items → List Name
names_of key no_items = []
names_of key (item value values) = option_to_list (name_in key value) ++ names_of key values

-- the names of the elements, if the value is an array
abbrev pub names_in : List ℕ → Node → List Name
names_in key (node (array values) span) = names_of key values
names_in key value = []

abbrev pub names_at : List ℕ → Option Node → List Name
names_at key None = []
names_at key (Some value) = names_in key value

-- the error for the name n, which also occurs at `before`; the error is at the span of n and marks `before` too
abbrev pub duplicate_name_error : Name → Span → ErrorContent
duplicate_name_error n before = record {
  kind = marked (codes "duplicate-name") (codes "duplicate name: `" ++ n.0 ++ codes "`")
      ((codes "also here", before) ∷ []);
  span = n.1;
  line_info = None;
}

abbrev pub duplicate_errors : Name → Option Span → List ErrorContent
duplicate_errors n before = option_to_list (option_map (duplicate_name_error n) before)

-- the errors of the names in the second list that occur earlier; the first list has the names before the second list,
-- in reverse order
abbrev pub repeated_after : List Name → List Name → List ErrorContent
repeated_after before [] = []
repeated_after before (n ∷ ns) =
    duplicate_errors n (lookup (λ name. bytes_eq name n.0) before) ++ repeated_after (n ∷ before) ns

-- the errors of the names that occur earlier in the list, in order
abbrev pub repeated : List Name → List ErrorContent
repeated names = repeated_after [] names
