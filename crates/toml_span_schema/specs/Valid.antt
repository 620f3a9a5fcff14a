-- When a value is valid against a compiled schema: one rule for each keyword of JSON Schema.
--
-- A verdict is `Some true`, `Some false`, or `None` if subschemas nest deeper than a limit, so that it is not known
-- whether a value is valid.
use Rattle.std.specs.Prelude.{ℕ, zero, suc, ◌+◌, ◌==◌, nat_le, List, [], ◌∷◌, Bool, true, false, ◌&&◌, not}
use Rattle.std.specs.Prelude.{Option, Some, None, option_map, option_and_then, if◌then◌else◌, slice_get}
use Rattle.toml_span_tree.specs.Node.{Node, Inner, array}
use Rattle.toml_span_tree.specs.Value.{inner_of}
use Rattle.toml_span_schema.specs.Applied.{Applied, applied, schemas_for}
use Rattle.toml_span_schema.specs.Asserted.{allows_simple}
use Rattle.toml_span_schema.specs.Parts.{Part, element, whole, value_of, kind_in, names_of, is_entry}
use Rattle.toml_span_schema.specs.declared.keyword.Keyword.{Keyword}
use Rattle.toml_span_schema.specs.declared.keyword.Keyword.TheVariants as keyword
use Rattle.toml_span_schema.specs.declared.keyword.Placed.{Placed}
use Rattle.toml_span_schema.specs.declared.keyword.Node.{Node as Compiled}
use Rattle.toml_span_schema.specs.declared.schema.Schema.{Schema}

abbrev pub Verdict : Type 0
Verdict = Option Bool

-- whether both verdicts are true; the second is used only if the first is true
abbrev pub both : Verdict → Verdict → Verdict
both None v = None
both (Some false) v = Some false
both (Some true) v = v

-- whether one of two verdicts is true; the second is used only if the first is false
abbrev pub either : Verdict → Verdict → Verdict
either None v = None
either (Some true) v = Some true
either (Some false) v = v

-- the first count if the verdict is true, the second count if it is false
abbrev pub counted : Verdict → Option ℕ → Option ℕ → Option ℕ
counted None more same = None
counted (Some true) more same = more
counted (Some false) more same = same

-- whether the verdict on each element is true
abbrev pub every : {A : Type 0} → (A → Verdict) → List A → Verdict
every f [] = Some true
every f (x ∷ xs) = both (f x) (every f xs)

-- whether the verdict on at least one element is true
abbrev pub any : {A : Type 0} → (A → Verdict) → List A → Verdict
any f [] = Some false
any f (x ∷ xs) = either (f x) (any f xs)

-- n plus the number of elements on which the verdict is true
abbrev pub count : {A : Type 0} → (A → Verdict) → ℕ → List A → Option ℕ
count f n [] = Some n
count f n (x ∷ xs) = counted (f x) (count f (n + 1) xs) (count f n xs)

-- the verdict on the element or, if there is no element, the verdict `otherwise`
abbrev pub optional : {A : Type 0} → (A → Verdict) → Verdict → Option A → Verdict
optional f otherwise None = otherwise
optional f otherwise (Some x) = f x

-- For each subschema, by its position: whether a value is valid against it, and whether it evaluates an entry or
-- element of a value, so that the entry or element does not count as unevaluated.
pub record Judge : Type 0 where
  pub valid : ℕ → Node → Verdict
  pub evaluates : ℕ → Node → Part → Verdict

-- whether a value is valid against a subschema that is applied to it
abbrev pub passes : Judge → Applied → Verdict
passes j a = j.valid a.0 (value_of a.1)

-- `contains` with `minContains` and `maxContains`: whether `least` to `most` elements of an array are valid. All other
-- values are allowed.
abbrev pub contains_enough : Judge → List Applied → ℕ → ℕ → Inner → Verdict
contains_enough j list least most (array ns) =
    option_map (λ c. nat_le least c && nat_le c most) (count (passes j) 0 list)
contains_enough j list least most _ = Some true

-- Whether `unevaluatedItems`, or `unevaluatedProperties` if `entries` is true, allows a value. The schema `others` must
-- evaluate each element or entry, or else the element or entry must be valid against `k`.
abbrev pub unevaluated_allow : Judge → Bool → ℕ → ℕ → Node → Verdict
unevaluated_allow j entries others k n =
    every (λ p. either (j.evaluates others n p) (j.valid k (value_of p))) (kind_in entries (inner_of n))

-- Whether a keyword allows a value. The keyword must be one of those that look inside the value, or have no subschemas.
unfoldable pub allows_other : Schema → Judge → Keyword → Node → Verdict
-- each key of the table, as a string, is valid
allows_other s j (keyword.PropertyNames k) n = every (λ name. j.valid k name) (names_of n)
allows_other s j (keyword.Contains k least most evaluates) n =
    contains_enough j (applied s (keyword.Contains k least most evaluates) (whole n)) least most (inner_of n)
allows_other s j (keyword.UnevaluatedItems others k) n = unevaluated_allow j false others k n
allows_other s j (keyword.UnevaluatedProperties others k) n = unevaluated_allow j true others k n
allows_other s j k n = Some (allows_simple s k n)

-- Whether a keyword allows a value.
unfoldable pub allows : Schema → Judge → Keyword → Node → Verdict
-- the value is valid against all, any, exactly one or none of the subschemas
allows s j (keyword.AllOf ks) n = every (passes j) (applied s (keyword.AllOf ks) (whole n))
allows s j (keyword.AnyOf ks) n = any (passes j) (applied s (keyword.AnyOf ks) (whole n))
allows s j (keyword.OneOf ks) n = option_map (λ c. c == 1) (count (passes j) 0 (applied s (keyword.OneOf ks) (whole n)))
allows s j (keyword.Not k) n = option_map not (j.valid k n)
-- valid against `then` if it is valid against `if`, else against `else`
allows s j (keyword.If c consequent alternative) n =
    option_and_then (λ b. optional (λ k. j.valid k n) (Some true) (if b then consequent else alternative)) (j.valid c n)
-- valid against the subschemas of the keys that it has
allows s j (keyword.DependentSchemas es) n = every (passes j) (applied s (keyword.DependentSchemas es) (whole n))
-- each element or entry is valid against the subschemas for its position or name
allows s j (keyword.Items prefix rest) n = every (passes j) (applied s (keyword.Items prefix rest) (whole n))
allows s j (keyword.Properties named matching rest) n =
    every (passes j) (applied s (keyword.Properties named matching rest) (whole n))
allows s j k n = allows_other s j k n

-- whether a value is valid against a subschema that evaluates the given entry or element of the value
abbrev pub covers : Judge → Part → Applied → Verdict
covers j part a = both (passes j a) (j.evaluates a.0 (value_of a.1) part)

abbrev pub is_nonempty : List ℕ → Bool
is_nonempty [] = false
is_nonempty (k ∷ ks) = true

-- Whether a keyword that needs no verdicts evaluates an entry or element.
unfoldable pub reaches_simply : Schema → Keyword → Part → Bool
reaches_simply s (keyword.Items prefix rest) part = is_nonempty (schemas_for s (keyword.Items prefix rest) part)
reaches_simply s (keyword.Properties named matching rest) part =
    is_nonempty (schemas_for s (keyword.Properties named matching rest) part)
reaches_simply s (keyword.UnevaluatedItems others k) part = not (is_entry part)
reaches_simply s (keyword.UnevaluatedProperties others k) part = is_entry part
reaches_simply s k part = false

abbrev pub is_evaluated_element : Judge → ℕ → Part → Verdict
is_evaluated_element j k (element i n) = j.valid k n
is_evaluated_element j k _ = Some false

-- Whether a keyword evaluates an entry or element of a value. The value must be one that the keyword allows.
unfoldable pub reaches : Schema → Judge → Keyword → Node → Part → Verdict
reaches s j (keyword.AllOf ks) n part = any (covers j part) (applied s (keyword.AllOf ks) (whole n))
reaches s j (keyword.AnyOf ks) n part = any (covers j part) (applied s (keyword.AnyOf ks) (whole n))
reaches s j (keyword.OneOf ks) n part = any (covers j part) (applied s (keyword.OneOf ks) (whole n))
reaches s j (keyword.DependentSchemas es) n part =
    any (covers j part) (applied s (keyword.DependentSchemas es) (whole n))
reaches s j (keyword.If c consequent alternative) n part =
    option_and_then (λ b. either (if b then j.evaluates c n part else Some false)
    (optional (λ k. covers j part (k, whole n)) (Some false) (if b then consequent else alternative))) (j.valid c n)
reaches s j (keyword.Contains k least most evaluates) n part =
    if evaluates then is_evaluated_element j k part else Some false
reaches s j k n part = Some (reaches_simply s k part)

-- the listed entries and elements on which the verdict is false
abbrev pub refused : (Part → Verdict) → List Part → Option (List Part)
refused f [] = Some []
refused f (p ∷ ps) = option_and_then (λ b. option_map (λ qs. if b then qs else p ∷ qs) (refused f ps)) (f p)

abbrev pub keywords_in : Option Compiled → List Placed
keywords_in None = []
keywords_in (Some k) = k.keywords.items

-- the keywords of the node at a position, or an empty list if the node does not exist
abbrev pub keywords : Schema → ℕ → List Placed
keywords s k = keywords_in (slice_get s.nodes.items k)

-- The verdicts of all subschemas, where at most this many nest.
unfoldable pub judged : Schema → ℕ → Judge
judged s zero = record { valid = λ k n. None; evaluates = λ k n part. None }
judged s (suc depth) = record {
  valid = λ k n. every (λ p. allows s (judged s depth) p.keyword n) (keywords s k);
  evaluates = λ k n part. any (λ p. reaches s (judged s depth) p.keyword n part) (keywords s k);
}

-- Whether a value is valid against a schema, that is, against its first node, where at most this many subschemas nest.
abbrev pub valid : Schema → ℕ → Node → Verdict
valid s depth n = (judged s depth).valid 0 n
