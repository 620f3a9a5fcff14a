-- The subschemas that a keyword applies to a value and to the values inside it.
use Rattle.std.specs.Prelude.{ℕ, List, [], ◌∷◌, ◌++◌, map, filter, Bool, false, Option, None, Some, option_to_list}
use Rattle.std.specs.Prelude.{String, string_bytes}
use Rattle.std.specs.BTreeMap.{get_by_text}
use Rattle.std.specs.List.{flat_map, slice_get}
use Rattle.std.specs.declared.alloc.Global.{Global}
use Rattle.std.specs.Option.{is_some}
use Rattle.regex.specs.Patterns.{find_str}
use Rattle.regex.specs.Strings.{regex_pattern}
use Rattle.regex.specs.declared.string.regex.Regex.{Regex}
use Rattle.toml_span_tree.specs.Node.{Node}
use Rattle.toml_span_tree.specs.Value.{inner_of}
use Rattle.toml_span_schema.specs.Parts.{Part, entry, element, kind_in, has_key, part_of, parts_of, value_of}
use Rattle.toml_span_schema.specs.declared.listed.Part.{Part as Lent}
use Rattle.toml_span_schema.specs.declared.keyword.Keyword.{Keyword}
use Rattle.toml_span_schema.specs.declared.keyword.Keyword.TheVariants as keyword
use Rattle.toml_span_schema.specs.declared.schema.Schema.{Schema}

-- whether there is a regular expression, and it matches somewhere in a text
abbrev pub matches_by : Option Regex → List ℕ → Bool
matches_by None text = false
matches_by (Some regex) text = is_some (find_str (regex_pattern regex) text 0)

abbrev pub matches : Schema → ℕ → List ℕ → Bool
matches schema pattern text = matches_by (slice_get schema.patterns.items pattern) text

-- `patternProperties`: the subschemas whose regular expressions match a name
abbrev pub matching_for : Schema → List (ℕ × ℕ) → List ℕ → List ℕ
matching_for schema entries name = map (λ e. e.1) (filter (λ e. matches schema e.0 name) entries)

abbrev pub otherwise : List ℕ → Option ℕ → List ℕ
otherwise [] rest = option_to_list rest
otherwise (k ∷ ks) rest = k ∷ ks

-- the subschema for an element: the one of `prefixItems` at the element's position or, after the last of these, `items`
abbrev pub at_or_rest : Option ℕ → Option ℕ → List ℕ
at_or_rest own rest = otherwise (option_to_list own) rest

-- the subschemas that `Items` or `Properties` applies to an entry or element
unfoldable pub schemas_for : Schema → Keyword → Part → List ℕ
schemas_for schema (keyword.Items prefix rest) (element i n) = at_or_rest (slice_get prefix.items i) rest
schemas_for schema (keyword.Properties named matching rest) (entry name span n) =
    otherwise (option_to_list (get_by_text named name) ++ matching_for schema matching.items name) rest
schemas_for schema _ _ = []

-- Pairs of a subschema and the value that a keyword applies it to.
abbrev pub Applied : Type 0
Applied = ℕ × Part

abbrev pub applied_of : ℕ × Lent → Applied
applied_of a = (a.0, part_of a.1)

-- each of the subschemas, applied to one value
abbrev pub each_to : Part → List ℕ → List Applied
each_to p ks = map (λ k. (k, p)) ks

-- the subschemas of the listed keys that a table has
abbrev pub dependents : Node → List (String Global × ℕ) → List ℕ
dependents n es = map (λ e. e.1) (filter (λ e. has_key n (string_bytes e.0)) es)

-- the subschemas for each entry or element
abbrev pub inside : Schema → Keyword → List Part → List Applied
inside s k ps = flat_map (λ p. each_to p (schemas_for s k p)) ps

-- What a keyword applies to which values. The first four apply subschemas to the value itself.
unfoldable pub applied : Schema → Keyword → Part → List Applied
applied s (keyword.AllOf ks) p = each_to p ks.items
applied s (keyword.AnyOf ks) p = each_to p ks.items
applied s (keyword.OneOf ks) p = each_to p ks.items
applied s (keyword.DependentSchemas es) p = each_to p (dependents (value_of p) es.items)
applied s (keyword.Contains k least most evaluates) p = map (λ q. (k, q)) (kind_in false (inner_of (value_of p)))
applied s (keyword.Items prefix rest) p = inside s (keyword.Items prefix rest) (parts_of (value_of p))
applied s (keyword.Properties named matching rest) p =
    inside s (keyword.Properties named matching rest) (parts_of (value_of p))
applied s k p = []
