-- Canonical texts. Two values are equal in the sense of JSON Schema if and only if their canonical texts are the same:
-- strings are compared byte by byte, numbers by value, arrays element by element in order, and tables entry by entry.
-- The length of a string precedes it, so that its end is known.
use Rattle.std.specs.Prelude.{ℕ, List, [], ◌∷◌, ◌++◌, length, Bool, true, false, ◌&&◌, not, if◌then◌else◌, bytes_eq}
use Rattle.std.specs.Char.{encode_utf8}
use Rattle.std.specs.Fmt.{decimal}
use Rattle.std.specs.List.{flat_map, list_any}
use Rattle.toml_span_tree.specs.Node.{Node, node, Inner, taken, scalar, array, table, Items, no_items, item, Members, no_members, member}
use Rattle.toml_span_tree.specs.Node.{Scalar, text, integer, float, boolean, datetime}
use Rattle.toml_span_schema.specs.Dates.{rfc3339}
use Rattle.toml_span_schema.specs.Numbers.{Plain, Quantity, exact, endless, no_number, float_quantity, decimal_of}
use Rattle.std.specs.Fmt.{signed_decimal}

abbrev pub text_form : List ℕ → List ℕ
text_form t = decimal (length t) ++ 58 ∷ [] ++ t

abbrev pub sign_form : Bool → ℕ
sign_form negative = if negative then 45 else 43

abbrev pub plain_form : Plain → List ℕ
plain_form p = sign_form p.negative ∷ [] ++ flat_map encode_utf8 p.digits ++ (101 ∷ [] ++ decimal p.point ++ 59 ∷ [])

abbrev pub quantity_form : Quantity → List ℕ
quantity_form (exact p) = plain_form p
quantity_form (endless true) = 60 ∷ []
quantity_form (endless false) = 62 ∷ []
quantity_form no_number = 63 ∷ []

-- the canonical text of a scalar; dates and times are strings as in RFC 3339
abbrev pub scalar_form : Scalar → List ℕ
scalar_form (text t) = text_form t
scalar_form (integer z) = plain_form (decimal_of (signed_decimal z))
scalar_form (float x) = quantity_form (float_quantity x)
scalar_form (boolean b) = (if b then 116 else 102) ∷ []
scalar_form (datetime t) = text_form (rfc3339 t)

abbrev mutual
  pub canonical : Node → List ℕ
  canonical (node i span) = inner_form i

  pub inner_form : Inner → List ℕ
  inner_form taken = []
  inner_form (scalar s) = scalar_form s
  inner_form (array ns) = 91 ∷ [] ++ items_form ns ++ 93 ∷ []
  inner_form (table ms) = 123 ∷ [] ++ members_form ms ++ 125 ∷ []

  pub items_form : Items → List ℕ
  items_form no_items = []
  items_form (item n ns) = canonical n ++ items_form ns

  pub members_form : Members → List ℕ
  members_form no_members = []
  members_form (member name span n ms) = text_form name ++ canonical n ++ members_form ms

abbrev pub forms : Items → List (List ℕ)
forms no_items = []
forms (item n ns) = canonical n ∷ forms ns

-- whether each text of the second list differs from those before it, and from those of the first list
abbrev pub all_new : List (List ℕ) → List (List ℕ) → Bool
all_new earlier [] = true
all_new earlier (t ∷ ts) = not (list_any (bytes_eq t) earlier) && all_new (earlier ++ t ∷ []) ts
