-- When a compiled schema has lost no keyword of its JSON: each keyword of the draft is there with its value, and each
-- subschema is compiled likewise. Drafts are numbered 4, 6, 7, 19 and 20.
use Rattle.std.specs.Prelude.{◌≡◌, ℕ, zero, suc, ◌+◌, ◌==◌, nat_lt, List, [], ◌∷◌, length, Bool, true, false, ◌&&◌}
use Rattle.std.specs.Prelude.{◌||◌, not, Option, Some, None, option_map, if◌then◌else◌, codes, slice_get, IsTrue, ⊤}
use Rattle.std.specs.BTreeMap.{get_by_text}
use Rattle.std.specs.List.{list_all, list_any}
use Rattle.std.specs.Option.{is_some}
use Rattle.std.specs.Str.{bytes_eq}
use Rattle.json.specs.Find.{get}
use Rattle.json.specs.Json.{Json, null, boolean, number, string, array, object, document}
use Rattle.json.specs.Json.{Items, no_items, item, Members, no_members, member}
use Rattle.json.specs.Strict.{HasUniqueKeys}
use Rattle.toml_span_schema.specs.Agrees.{has_limit, has_value, have_values, dependencies, is_true}
use Rattle.toml_span_schema.specs.Valid.{keywords}
use Rattle.toml_span_schema.specs.declared.keyword.Keyword.{Keyword}
use Rattle.toml_span_schema.specs.declared.keyword.Keyword.TheVariants as keyword
use Rattle.toml_span_schema.specs.declared.keyword.Placed.{Placed}
use Rattle.toml_span_schema.specs.declared.schema.Schema.{Schema}

-- the draft whose address `$schema` is, or None for another metaschema
unfoldable pub draft_named : List ℕ → Option ℕ
draft_named t =
    if bytes_eq t (codes "http://json-schema.org/draft-04/schema#") then Some 4
    else (if bytes_eq t (codes "http://json-schema.org/draft-06/schema#") then Some 6
    else (if bytes_eq t (codes "http://json-schema.org/draft-07/schema#") then Some 7
    else (if bytes_eq t (codes "https://json-schema.org/draft/2019-09/schema") then Some 19
    else (if bytes_eq t (codes "https://json-schema.org/draft/2020-12/schema") then Some 20 else None))))

abbrev pub draft_in : Option Json → Option ℕ
draft_in (Some (string t)) = draft_named t
draft_in _ = Some 20

abbrev pub only : Bool → Option ℕ → Option ℕ
only here k = if here then k else None

-- The node that a compiled keyword has for a subschema of the keyword `n` of the JSON: the one at position `i`, or with
-- the name `key`, if there are several. `m` is the name of the compiled keyword.
unfoldable pub node_for : List ℕ → ℕ → List ℕ → List ℕ → Keyword → Option ℕ
node_for n i key m (keyword.AllOf ks) = only (bytes_eq n (codes "allOf") && bytes_eq m n) (slice_get ks.items i)
node_for n i key m (keyword.AnyOf ks) = only (bytes_eq n (codes "anyOf")) (slice_get ks.items i)
node_for n i key m (keyword.OneOf ks) = only (bytes_eq n (codes "oneOf")) (slice_get ks.items i)
node_for n i key m (keyword.Not k) = only (bytes_eq n (codes "not")) (Some k)
node_for n i key m (keyword.If c t e) =
    if bytes_eq n (codes "if") then Some c
    else (if bytes_eq n (codes "then") then t else only (bytes_eq n (codes "else")) e)
node_for n i key m (keyword.DependentSchemas es) =
    only (bytes_eq n (codes "dependentSchemas")) (option_map (λ e. e.1) (slice_get es.items i))
node_for n i key m (keyword.Items ks rest) =
    if bytes_eq n (codes "prefixItems") then slice_get ks.items i else only (bytes_eq n (codes "items")) rest
node_for n i key m (keyword.Contains k least most evaluates) = only (bytes_eq n (codes "contains")) (Some k)
node_for n i key m (keyword.Properties ps es rest) =
    if bytes_eq n (codes "properties") then get_by_text ps key
    else (if bytes_eq n (codes "patternProperties") then option_map (λ e. e.1) (slice_get es.items i)
    else only (bytes_eq n (codes "additionalProperties")) rest)
node_for n i key m (keyword.PropertyNames k) = only (bytes_eq n (codes "propertyNames")) (Some k)
node_for n i key m (keyword.UnevaluatedItems others k) = only (bytes_eq n (codes "unevaluatedItems")) (Some k)
node_for n i key m (keyword.UnevaluatedProperties others k) = only (bytes_eq n (codes "unevaluatedProperties")) (Some k)
node_for n i key m _ = None

abbrev pub first_of : Option ℕ → Option ℕ → Option ℕ
first_of None later = later
first_of (Some k) later = Some k

abbrev pub node_among : List ℕ → ℕ → List ℕ → List Placed → Option ℕ
node_among n i key [] = None
node_among n i key (p ∷ ps) = first_of (node_for n i key p.name.now p.keyword) (node_among n i key ps)

-- Whether a JSON schema, a subschema of the named keyword, is compiled to a node.
abbrev pub Compile : Type 0
Compile = List ℕ → Json → ℕ → Bool

abbrev pub leads : Compile → List ℕ → Json → Option ℕ → Bool
leads f n j None = false
leads f n j (Some k) = f n j k

abbrev pub items_lead : Compile → List ℕ → List Placed → ℕ → Items → Bool
items_lead f n ps i no_items = true
items_lead f n ps i (item j js) = leads f n j (node_among n i [] ps) && items_lead f n ps (i + 1) js

abbrev pub members_lead : Compile → List ℕ → List Placed → ℕ → Members → Bool
members_lead f n ps i no_members = true
members_lead f n ps i (member key j ms) = leads f n j (node_among n i key ps) && members_lead f n ps (i + 1) ms

-- Whether a value of the keyword `n` is compiled: a schema, an array of schemas or, with `by_key`, an object of them.
abbrev pub is_led : Compile → List ℕ → Bool → List Placed → Option Json → Bool
is_led f n by_key ps None = true
is_led f n by_key ps (Some (array js)) = items_lead f n ps 0 js
is_led f n by_key ps (Some (object ms)) =
    if by_key then members_lead f n ps 0 ms else leads f n (object ms) (node_among n 0 [] ps)
is_led f n by_key ps (Some j) = leads f n j (node_among n 0 [] ps)

abbrev pub are_led : Compile → List (List ℕ) → List Placed → Json → Bool
are_led f ns ps j = list_all (λ n. is_led f n false ps (get n j)) ns

abbrev pub is_array : Option Json → Bool
is_array (Some (array js)) = true
is_array _ = false

unfoldable pub items_led : Compile → ℕ → List Placed → Json → Bool
items_led f d ps j =
    if d == 20 then are_led f (codes "prefixItems" ∷ codes "items" ∷ []) ps j
    else (if is_array (get (codes "items") j)
    then is_led f (codes "prefixItems") false ps (get (codes "items") j)
    && is_led f (codes "items") false ps (get (codes "additionalItems") j)
    else is_led f (codes "items") false ps (get (codes "items") j))

-- Whether all subschemas are compiled, except for those of `dependencies`.
unfoldable pub keeps_schemas : Compile → ℕ → List Placed → Json → Bool
keeps_schemas f d ps j =
    are_led f (codes "allOf" ∷ codes "anyOf" ∷ codes "oneOf" ∷ codes "not" ∷ codes "additionalProperties" ∷ []) ps j
    && (nat_lt d 6 || are_led f (codes "contains" ∷ codes "propertyNames" ∷ []) ps j)
    && (nat_lt d 7 || not (is_some (get (codes "if") j))
    || are_led f (codes "if" ∷ codes "then" ∷ codes "else" ∷ []) ps j)

unfoldable pub keeps_members : Compile → ℕ → List Placed → Json → Bool
keeps_members f d ps j =
    is_led f (codes "properties") true ps (get (codes "properties") j)
    && is_led f (codes "patternProperties") true ps (get (codes "patternProperties") j)
    && (nat_lt d 19 || is_led f (codes "dependentSchemas") true ps (get (codes "dependentSchemas") j))

abbrev pub has : List Placed → List ℕ → Bool
has ps n = list_any (λ p. bytes_eq p.name.now n) ps

abbrev pub is_kept : Json → List Placed → List ℕ → Bool
is_kept j ps n = not (is_some (get n j)) || has ps n

-- Whether the keywords of all drafts without subschemas are there with their values, except for `pattern` and `format`.
unfoldable pub keeps_values : ℕ → List Placed → Json → Bool
keeps_values d ps j =
    have_values d ps (codes "type" ∷ codes "enum" ∷ codes "multipleOf" ∷ codes "minLength" ∷ codes "maxLength"
    ∷ codes "minItems" ∷ codes "maxItems" ∷ codes "minProperties" ∷ codes "maxProperties" ∷ codes "required"
    ∷ dependencies d ∷ []) j
    && has_limit d ps (codes "minimum") (codes "exclusiveMinimum") j
    && has_limit d ps (codes "maximum") (codes "exclusiveMaximum") j

unfoldable pub keeps_later : ℕ → List Placed → Json → Bool
keeps_later d ps j =
    (nat_lt d 6 || have_values d ps (codes "const" ∷ codes "exclusiveMinimum" ∷ codes "exclusiveMaximum" ∷ []) j)
    && (nat_lt d 6 || not (is_some (get (codes "contains") j)) || has_value d ps (codes "contains") (Some j))
    && (not (is_true (get (codes "uniqueItems") j)) || has_value d ps (codes "uniqueItems") (Some j))

-- whether the references are there, by their names
unfoldable pub keeps_references : ℕ → List Placed → Json → Bool
keeps_references d ps j =
    is_kept j ps (codes "$ref") && (not (d == 19) || is_kept j ps (codes "$recursiveRef"))
    && (not (d == 20) || is_kept j ps (codes "$dynamicRef"))

abbrev pub keeps_all : Compile → ℕ → List Placed → Json → Bool
keeps_all f d ps j =
    keeps_values d ps j && keeps_later d ps j && keeps_references d ps j && keeps_schemas f d ps j
    && keeps_members f d ps j && items_led f d ps j

abbrev pub is_string : Option Json → Bool
is_string (Some (string t)) = true
is_string _ = false

abbrev pub is_unevaluated : Json → Bool
is_unevaluated j = is_some (get (codes "unevaluatedItems") j) || is_some (get (codes "unevaluatedProperties") j)

-- With these two keywords, the other ones are in a node of their own.
abbrev pub is_around : Compile → Schema → ℕ → List Placed → Json → Option ℕ → Bool
is_around f s d ps j None = false
is_around f s d ps j (Some k) =
    keeps_all f d (keywords s k) j && are_led f (codes "unevaluatedItems" ∷ codes "unevaluatedProperties" ∷ []) ps j

-- Whether the keywords of a JSON schema are among the compiled ones. Up to draft 7, a reference hides all others.
unfoldable pub step : Compile → Schema → ℕ → Json → List Placed → Bool
step f s d (boolean true) ps = length ps == 0
step f s d (boolean false) ps = has ps (codes "false")
step f s d (object ms) ps =
    if nat_lt d 19 && is_string (get (codes "$ref") (object ms)) then has ps (codes "$ref")
    else (if nat_lt 18 d && is_unevaluated (object ms)
    then is_around f s d ps (object ms) (node_among (codes "allOf") 0 [] ps)
    else keeps_all f d ps (object ms))
step f s d _ ps = false

-- a subschema, where nothing is said of one with a `$schema` of its own; a regular expression of `patternProperties`
-- that is not supported has the schema `true`
abbrev pub inner : Schema → (Json → ℕ → Bool) → Compile
inner s c n j k =
    is_some (get (codes "$schema") j) || c j k || (bytes_eq n (codes "patternProperties") && length (keywords s k) == 0)

-- where at most this many subschemas nest
unfoldable pub compiled : Schema → ℕ → ℕ → Json → ℕ → Bool
compiled s d zero j k = false
compiled s d (suc depth) j k = step (inner s (compiled s d depth)) s d j (keywords s k)

-- a subschema of a schema where at most this many subschemas nest
abbrev pub below : Schema → ℕ → ℕ → Compile
below s d n = inner s (compiled s d n)

abbrev pub is_compiled_in : Schema → Option ℕ → Json → Type 0
is_compiled_in s None j = ⊤
is_compiled_in s (Some d) j = IsTrue (compiled s d 130 j 0)

-- Whether a schema has all keywords of a JSON text of a known draft, in which no name occurs twice in an object, with
-- their values and subschemas. Not compared: what references lead to, `pattern`, `format`, the expressions of
-- `patternProperties`, subschemas of `dependencies`, and arrays and objects in `enum` and `const`.
abbrev pub IsCompiled : List ℕ → Schema → Type 0
IsCompiled text s =
    (j : Json) × (document text ≡ Some j) × (HasUniqueKeys j → is_compiled_in s (draft_in (get (codes "$schema") j)) j)
