-- Which values the keywords without subschemas allow.
use Rattle.std.specs.Prelude.{ℕ, nat_le, List, length, Bool, true, false, ◌&&◌, ◌||◌, not, string_bytes, String, Vec}
use Rattle.std.specs.Prelude.{Option, Some, None, chars, []}
use Rattle.std.specs.BTreeSet.{contains_text}
use Rattle.std.specs.List.{list_all}
use Rattle.std.specs.declared.alloc.Global.{Global}
use Rattle.std.specs.declared.cmp.Ordering.{Ordering}
use Rattle.std.specs.declared.cmp.Ordering.TheVariants.{Less, Equal, Greater}
use Rattle.toml_span_tree.specs.Node.{Node, Inner, taken, scalar, array, table, Items}
use Rattle.toml_span_tree.specs.Node.{text, integer, float, boolean, datetime, FloatValue, finite}
use Rattle.toml_span_tree.specs.Value.{inner_of}
use Rattle.toml_span_schema.specs.Applied.{matches}
use Rattle.toml_span_schema.specs.Canonical.{canonical, forms, all_new}
use Rattle.toml_span_schema.specs.Dates.{rfc3339}
use Rattle.toml_span_schema.specs.Formats.{fits_leap_second}
use Rattle.toml_span_schema.specs.Numbers.{Quantity, plain, decimal_of, is_whole, compare_quantity, is_multiple_quantity, quantity_in}
use Rattle.toml_span_schema.specs.Parts.{has_key, items_count, members_count}
use Rattle.toml_span_schema.specs.Patterns.{is_pattern}
use Rattle.toml_span_schema.specs.declared.keyword.Keyword.{Keyword}
use Rattle.toml_span_schema.specs.declared.keyword.Keyword.TheVariants as keyword
use Rattle.toml_span_schema.specs.declared.keyword.Types.{Types}
use Rattle.toml_span_schema.specs.declared.schema.Schema.{Schema}

-- the length of a string in characters
abbrev pub characters : List ℕ → ℕ
characters t = length (chars t)

-- `required`: every name in the array is the name of a property in the instance
abbrev pub has_all : Node → List (String Global) → Bool
has_all n names = list_all (λ name. has_key n (string_bytes name)) names

-- `dependentRequired`: for each name that is a property of the instance, the names in its array are, too
abbrev pub has_dependents : Node → List (String Global × Vec (String Global) Global) → Bool
has_dependents n entries = list_all (λ e. not (has_key n (string_bytes e.0)) || has_all n e.1.items) entries

-- whether a float is an integer, such as `1.0`
abbrev pub is_whole_float : FloatValue → Bool
is_whole_float (finite t) = is_whole (decimal_of t)
is_whole_float _ = false

-- `type`: the instance is of one of the types. TOML integers are numbers, and dates and times are strings.
abbrev pub has_type : Types → Inner → Bool
has_type types taken = false
has_type types (scalar (text t)) = types.string
has_type types (scalar (datetime t)) = types.string
has_type types (scalar (integer z)) = types.number || types.integer
has_type types (scalar (float x)) = types.number || (types.whole && is_whole_float x)
has_type types (scalar (boolean b)) = types.boolean
has_type types (array ns) = types.array
has_type types (table ms) = types.object

abbrev pub is_at_least : Option Ordering → Bool
is_at_least (Some Greater) = true
is_at_least (Some Equal) = true
is_at_least _ = false

abbrev pub is_at_most : Option Ordering → Bool
is_at_most (Some Less) = true
is_at_most (Some Equal) = true
is_at_most _ = false

abbrev pub is_greater : Option Ordering → Bool
is_greater (Some Greater) = true
is_greater _ = false

abbrev pub is_less : Option Ordering → Bool
is_less (Some Less) = true
is_less _ = false

-- whether a keyword for numbers, such as `minimum`, allows a number; other keywords allow any
unfoldable pub allows_number : Keyword → Quantity → Bool
allows_number (keyword.Minimum limit) x = is_at_least (compare_quantity x (plain limit))
allows_number (keyword.ExclusiveMinimum limit) x = is_greater (compare_quantity x (plain limit))
allows_number (keyword.Maximum limit) x = is_at_most (compare_quantity x (plain limit))
allows_number (keyword.ExclusiveMaximum limit) x = is_less (compare_quantity x (plain limit))
allows_number (keyword.MultipleOf size power) x = is_multiple_quantity x size power
allows_number _ x = true

-- whether a keyword for strings, such as `pattern`, allows a string; other keywords allow any
unfoldable pub allows_text : Schema → Keyword → List ℕ → Bool
allows_text s (keyword.MinLength least) t = nat_le least (characters t)
allows_text s (keyword.MaxLength most) t = nat_le (characters t) most
allows_text s (keyword.Pattern pattern) t = matches s pattern t
allows_text s (keyword.Format pattern most leap) t =
    not s.formats || (matches s pattern t && nat_le (characters t) most && (not leap || fits_leap_second t))
allows_text s keyword.RegexFormat t = not s.formats || is_pattern t
allows_text s _ t = true

-- whether a keyword for arrays, such as `minItems`, allows an array; other keywords allow any
unfoldable pub allows_items : Keyword → Items → Bool
allows_items (keyword.MinItems least) ns = nat_le least (items_count ns)
allows_items (keyword.MaxItems most) ns = nat_le (items_count ns) most
allows_items keyword.UniqueItems ns = all_new [] (forms ns)
allows_items _ ns = true

-- whether a keyword for objects, such as `required`, allows the table `n`, which has `count` entries; other keywords
-- allow any
unfoldable pub allows_table_of : Keyword → ℕ → Node → Bool
allows_table_of (keyword.MinProperties least) count n = nat_le least count
allows_table_of (keyword.MaxProperties most) count n = nat_le count most
allows_table_of (keyword.Required names) count n = has_all n names.items
allows_table_of (keyword.DependentRequired entries) count n = has_dependents n entries.items
allows_table_of _ count n = true

abbrev pub allows_quantity : Keyword → Option Quantity → Bool
allows_quantity k None = true
allows_quantity k (Some x) = allows_number k x

-- whether a keyword for one type of values allows a value; it allows all values of other types
unfoldable pub allows_kind : Schema → Keyword → Node → Inner → Bool
allows_kind s k n (scalar (text t)) = allows_text s k t
allows_kind s k n (scalar (datetime t)) = allows_text s k (rfc3339 t)
allows_kind s k n (array ns) = allows_items k ns
allows_kind s k n (table ms) = allows_table_of k (members_count ms) n
allows_kind s k n i = allows_quantity k (quantity_in i)

-- Whether a keyword without subschemas allows a value. `enum` allows the values in its array, and `const` allows its
-- value.
unfoldable pub allows_simple : Schema → Keyword → Node → Bool
allows_simple s keyword.Never n = false
allows_simple s (keyword.Type types) n = has_type types (inner_of n)
allows_simple s (keyword.Enum values words) n = contains_text values (canonical n)
allows_simple s k n = allows_kind s k n (inner_of n)
