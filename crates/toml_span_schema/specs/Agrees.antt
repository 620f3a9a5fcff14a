-- Whether a compiled keyword without subschemas has the value that its JSON says. Drafts are numbered 4, 6, 7, 19, 20.
use Rattle.std.specs.Prelude.{ℕ, ◌+◌, ◌==◌, nat_lt, nat_le, List, [], ◌∷◌, Bool, true, false, ◌&&◌, ◌||◌, String, Vec}
use Rattle.std.specs.Prelude.{Option, None, Some, length, if◌then◌else◌, codes, slice_get, string_bytes}
use Rattle.std.specs.BTreeSet.{BTreeSet, btree_set_len, contains_text}
use Rattle.std.specs.Bool.{beq}
use Rattle.std.specs.Fmt.{decimal}
use Rattle.std.specs.List.{list_all, list_any}
use Rattle.std.specs.Ordering.{is_eq}
use Rattle.std.specs.Str.{bytes_eq}
use Rattle.std.specs.declared.alloc.Global.{Global}
use Rattle.json.specs.Find.{get}
use Rattle.json.specs.Json.{Json, null, boolean, number, string, array, object}
use Rattle.json.specs.Json.{Items, no_items, item, Members, no_members, member}
use Rattle.toml_span_schema.specs.Canonical.{plain_form, text_form}
use Rattle.toml_span_schema.specs.Numbers.{Plain, plain, decimal_of, compare, exponent, count_in}
use Rattle.toml_span_schema.specs.declared.keyword.Keyword.{Keyword}
use Rattle.toml_span_schema.specs.declared.keyword.Keyword.TheVariants as keyword
use Rattle.toml_span_schema.specs.declared.keyword.Placed.{Placed}
use Rattle.toml_span_schema.specs.declared.keyword.Types.{Types}
use Rattle.toml_span_schema.specs.declared.numbers.Decimal.{Decimal}

-- the elements of a JSON array, and none of other values
abbrev pub elements : Json → Items
elements (array js) = js
elements _ = no_items

abbrev pub members : Json → Members
members (object ms) = ms
members _ = no_members

abbrev pub is_true : Option Json → Bool
is_true (Some (boolean true)) = true
is_true _ = false

abbrev pub is_text : Json → List ℕ → Bool
is_text (string t) n = bytes_eq t n
is_text _ n = false

abbrev pub has_text : Items → List ℕ → Bool
has_text no_items n = false
has_text (item j js) n = is_text j n || has_text js n

-- `type`: the name of a type, or an array of names
abbrev pub names : Json → List ℕ → Bool
names (array js) n = has_text js n
names j n = is_text j n

-- From draft 6 on, floats without a fraction are integers.
unfoldable pub are_types : ℕ → Json → Types → Bool
are_types d j types =
    beq types.boolean (names j (codes "boolean")) && beq types.object (names j (codes "object"))
    && beq types.array (names j (codes "array")) && beq types.string (names j (codes "string"))
    && beq types.number (names j (codes "number")) && beq types.integer (names j (codes "integer"))
    && beq types.whole (types.integer && nat_lt 4 d)

abbrev pub is_text_of : Option (String Global) → Json → Bool
is_text_of None j = false
is_text_of (Some t) j = is_text j (string_bytes t)

-- `required`: from position `i` on, the texts are those of a JSON array
abbrev pub are_texts : List (String Global) → ℕ → Items → Bool
are_texts ts i no_items = nat_le (length ts) i
are_texts ts i (item j js) = is_text_of (slice_get ts i) j && are_texts ts (i + 1) js

abbrev pub is_list : Option (String Global × Vec (String Global) Global) → List ℕ → Items → Bool
is_list None n js = false
is_list (Some e) n js = bytes_eq (string_bytes e.0) n && are_texts e.1.items 0 js

-- `dependentRequired` and `dependencies`: from position `i` on, the entries are the members with an array
abbrev pub are_lists : List (String Global × Vec (String Global) Global) → ℕ → Members → Bool
are_lists es i no_members = nat_le (length es) i
are_lists es i (member n (array js) ms) = is_list (slice_get es i) n js && are_lists es (i + 1) ms
are_lists es i (member n j ms) = are_lists es i ms

-- whether a boolean, a number or a string is among the values of `enum` or `const`, which are canonical texts
abbrev pub has_constant : BTreeSet (String Global) → Json → Bool
has_constant values (boolean b) = contains_text values ((if b then 116 else 102) ∷ [])
has_constant values (number t) = contains_text values (plain_form (decimal_of t))
has_constant values (string t) = contains_text values (text_form t)
has_constant values _ = true

abbrev pub has_constants : BTreeSet (String Global) → Items → Bool
has_constants values no_items = true
has_constants values (item j js) = has_constant values j && has_constants values js

-- the number of elements other than `null`
abbrev pub constants_in : Items → ℕ
constants_in no_items = 0
constants_in (item null js) = constants_in js
constants_in (item j js) = constants_in js + 1

abbrev pub are_constants : BTreeSet (String Global) → Items → Bool
are_constants values js = has_constants values js && nat_le (btree_set_len values) (constants_in js)

abbrev pub is_equal : Decimal → Plain → Bool
is_equal limit p = is_eq (compare (plain limit) p)

-- `multipleOf`: `size` has the digits of a number, and `power` is the exponent of its last digit, plus 2^66
abbrev pub is_divisor : ℕ → ℕ → Plain → Bool
is_divisor size power p = bytes_eq p.digits (decimal size) && exponent p == power

-- whether a compiled keyword is that of the name `n` and the number `t`
unfoldable pub number_agrees : List ℕ → List ℕ → Keyword → Bool
number_agrees n t (keyword.Minimum limit) = bytes_eq n (codes "minimum") && is_equal limit (decimal_of t)
number_agrees n t (keyword.ExclusiveMinimum limit) =
    bytes_eq n (codes "exclusiveMinimum") && is_equal limit (decimal_of t)
number_agrees n t (keyword.Maximum limit) = bytes_eq n (codes "maximum") && is_equal limit (decimal_of t)
number_agrees n t (keyword.ExclusiveMaximum limit) =
    bytes_eq n (codes "exclusiveMaximum") && is_equal limit (decimal_of t)
number_agrees n t (keyword.MultipleOf size power) =
    bytes_eq n (codes "multipleOf") && is_divisor size power (decimal_of t)
number_agrees n t (keyword.MinLength k) = bytes_eq n (codes "minLength") && k == count_in t
number_agrees n t (keyword.MaxLength k) = bytes_eq n (codes "maxLength") && k == count_in t
number_agrees n t (keyword.MinItems k) = bytes_eq n (codes "minItems") && k == count_in t
number_agrees n t (keyword.MaxItems k) = bytes_eq n (codes "maxItems") && k == count_in t
number_agrees n t (keyword.MinProperties k) = bytes_eq n (codes "minProperties") && k == count_in t
number_agrees n t (keyword.MaxProperties k) = bytes_eq n (codes "maxProperties") && k == count_in t
number_agrees n t _ = false

abbrev pub is_number_of : List ℕ → Json → Keyword → Bool
is_number_of n (number t) k = number_agrees n t k
is_number_of n _ k = false

abbrev pub count_or : ℕ → Option Json → ℕ
count_or otherwise (Some (number t)) = count_in t
count_or otherwise _ = otherwise

-- `minContains` and `maxContains` of a schema, which drafts have from 2019-09 on
abbrev pub are_counts : ℕ → Json → ℕ → ℕ → Bool
are_counts d j least most =
    if nat_lt d 19 then least == 1 && most == 18446744073709551615
    else (least == count_or 1 (get (codes "minContains") j)
    && most == count_or 18446744073709551615 (get (codes "maxContains") j))

abbrev pub dependencies : ℕ → List ℕ
dependencies d = if nat_lt d 19 then codes "dependencies" else codes "dependentRequired"

-- Whether a compiled keyword is that of the name `n` and the value `j` or, for `contains`, of the schema `j`.
unfoldable pub agrees : ℕ → List ℕ → Json → Keyword → Bool
agrees d n j (keyword.Type types) = bytes_eq n (codes "type") && are_types d j types
agrees d n j (keyword.Enum values words) =
    if bytes_eq n (codes "const") then are_constants values (item j no_items)
    else (bytes_eq n (codes "enum") && are_constants values (elements j))
agrees d n j (keyword.Required texts) = bytes_eq n (codes "required") && are_texts texts.items 0 (elements j)
agrees d n j (keyword.DependentRequired es) = bytes_eq n (dependencies d) && are_lists es.items 0 (members j)
agrees d n j keyword.UniqueItems = bytes_eq n (codes "uniqueItems")
agrees d n j (keyword.Contains k least most evaluates) =
    bytes_eq n (codes "contains") && beq evaluates (d == 20) && are_counts d j least most
agrees d n j k = is_number_of n j k

-- whether the keyword `n`, if the JSON has it, is compiled with its value
abbrev pub has_value : ℕ → List Placed → List ℕ → Option Json → Bool
has_value d ps n None = true
has_value d ps n (Some j) = list_any (λ p. bytes_eq p.name.now n && agrees d n j p.keyword) ps

abbrev pub have_values : ℕ → List Placed → List (List ℕ) → Json → Bool
have_values d ps ns j = list_all (λ n. has_value d ps n (get n j)) ns

-- The limit `n`. In draft 4, `exclusive` says whether the limit is excluded, and is then the name of the limit.
abbrev pub has_limit : ℕ → List Placed → List ℕ → List ℕ → Json → Bool
has_limit d ps n exclusive j =
    has_value d ps (if d == 4 && is_true (get exclusive j) then exclusive else n) (get n j)
