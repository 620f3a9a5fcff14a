-- The claims that headers and assignments make on paths.
use Rattle.std.specs.Prelude.{ℕ, zero, suc, if◌then◌else◌, List, [], ◌∷◌, Option, Some, None}
use Rattle.toml_span_lex.specs.declared.span.Span.{Span}
use Rattle.toml_span_tree.specs.Path.{Path, Place, Shape, shape_array, shape_table, shape_scalar}
use Rattle.toml_span_read.specs.Data.{SimpleKey, ParsedInner, scalar, array, inline, ParsedValue, parsed, parsed_span}
use Rattle.toml_span_read.specs.Data.{ParsedItems, no_items, item, ParsedPairs, no_pairs, pair, ParsedAssignment}
use Rattle.toml_span_read.specs.Data.{ParsedSection}
use Rattle.toml_span.specs.declared.claims.ClaimInfo.{ClaimInfo}
use Rattle.toml_span.specs.declared.claims.ClaimKind.{ClaimKind}
use Rattle.toml_span.specs.declared.claims.ClaimKind.TheVariants.{ArrayOfTables, TableElement, Dotted, Assigned}
use Rattle.toml_span.specs.declared.claims.ClaimKind.TheVariants.{StandardTable, Passed}
use Rattle.toml_span_read.specs.Paths.{with_key, with_position, enter, section_path, elements_added, opened_by}
use Rattle.toml_span.specs.declared.claims.HeaderInfo.{HeaderInfo}

-- A claim on `path`, made by a part of a header or key with this name. `info` has its kind and spans. `place` is what
-- the document has at the path if this claim determines it. An element of an array in brackets has no key: its claim
-- has an empty name, and uses the span of the element as that of the key.
pub record Claim : Type 0 where
  pub path : Path
  pub name : List ℕ
  pub info : ClaimInfo
  pub place : Place

-- The claims in a scope, in the order of the text, and the scopes inside it. `scope inner cs` has an inner scope before
-- the claims `cs`. Only claims in the same scope can clash. The document is a scope, and so is each inline table. An
-- array in brackets is a scope too, although no two of its elements claim the same path.
pub data Claims : Type 0 where
  no_claims : Claims
  claimed : Claim → Claims → Claims
  scope : Claims → Claims → Claims

-- the first claims, followed by the rest
unfoldable pub followed : Claims → Claims → Claims
followed no_claims rest = rest
followed (claimed c cs) rest = claimed c (followed cs rest)
followed (scope inner cs) rest = scope inner (followed cs rest)

-- ---- tables

-- the shape of the place in a claim of this kind; not used for `Assigned`
abbrev pub shape_claimed : ClaimKind → Shape
shape_claimed ArrayOfTables = shape_array
shape_claimed _ = shape_table

-- The span of the key in the place of a claim: that of the claim's key, except that an element of an array of tables
-- has no key.
abbrev pub key_span_of : ClaimKind → Span → Option Span
key_span_of TableElement key = None
key_span_of _ key = Some key

-- The claim that p is a table or an array of tables, made by the part k of a header or key. A header that passes
-- through an element of an array of tables never determines the element's place, because the element's own claim comes
-- first.
abbrev pub table_claim : Path → SimpleKey → ClaimInfo → Claim
table_claim p k m = record {
  path = p;
  name = k.name;
  info = m;
  place = record { shape = shape_claimed m.kind; key_span = key_span_of m.kind m.key; span = m.extent };
}

-- ---- assignments

abbrev pub value_shape : ParsedValue → Shape
value_shape (parsed (scalar s) span) = shape_scalar s
value_shape (parsed (array vs) span) = shape_array
value_shape (parsed (inline ps) span) = shape_table

-- the info of a claim that an assignment or an array element makes, with the span of the part of the key (for an
-- element, the span of the element) and the span of the value
abbrev pub pair_info : ClaimKind → Span → Span → ClaimInfo
pair_info kind key span = record { kind = kind; key = key; line = span; extent = span }

-- Each part k of a dotted key, except the last, claims a table at its path p. The table has the span of the value v.
abbrev pub dotted : Path → SimpleKey → ParsedValue → Claim
dotted p k v = table_claim p k (pair_info Dotted k.span (parsed_span v))

-- The last part k of a key claims its path p for the value v.
abbrev pub assigned : Path → SimpleKey → ParsedValue → Claim
assigned p k v = record {
  path = p;
  name = k.name;
  info = pair_info Assigned k.span (parsed_span v);
  place = record { shape = value_shape v; key_span = Some k.span; span = parsed_span v };
}

-- An element v of an array in brackets claims its path p.
abbrev pub element : Path → ParsedValue → Claim
element p v = record {
  path = p;
  name = [];
  info = pair_info Assigned (parsed_span v) (parsed_span v);
  place = record { shape = value_shape v; key_span = None; span = parsed_span v };
}

-- The claims of an assignment in the table at p: those of the parts of its key, and then those inside its value v,
-- which `inside` returns for the path of the value. The key has at least one part.
unfoldable pub key_claims : Path → List SimpleKey → ParsedValue → (Path → Claims) → Claims
key_claims p [] v inside = no_claims
key_claims p (k ∷ []) v inside = claimed (assigned (with_key p k) k v) (inside (with_key p k))
key_claims p (k ∷ l ∷ more) v inside =
    let q = with_key p k in
    claimed (dotted q k v) (key_claims q (l ∷ more) v inside)

unfoldable mutual
  -- The claims that a value at p makes on the paths below p. The other functions do the same for the content of a
  -- value, for the elements of an array from position i on, and for the pairs of an inline table.
  pub value_claims : ParsedValue → Path → Claims
  value_claims (parsed k span) p = inner_claims k p

  pub inner_claims : ParsedInner → Path → Claims
  inner_claims (scalar s) p = no_claims
  inner_claims (array vs) p = scope (item_claims vs 0 p) no_claims
  inner_claims (inline ps) p = scope (pair_claims ps p) no_claims

  pub item_claims : ParsedItems → ℕ → Path → Claims
  item_claims no_items i p = no_claims
  item_claims (item v vs) i p =
      claimed (element (with_position p i) v) (followed (value_claims v (with_position p i)) (item_claims vs (suc i) p))

  pub pair_claims : ParsedPairs → Path → Claims
  pair_claims no_pairs p = no_claims
  pair_claims (pair parts v extent rest) p = followed (key_claims p parts v (value_claims v)) (pair_claims rest p)

-- the claims of assignments in the table at p
unfoldable pub assignments_claims : List ParsedAssignment → Path → Claims
assignments_claims [] p = no_claims
assignments_claims (e ∷ es) p = followed (key_claims p e.parts e.value (value_claims e.value)) (assignments_claims es p)

-- ---- sections

abbrev pub header_info : ParsedSection → HeaderInfo
header_info b = record { array = b.array; line = b.header_span; extent = b.extent }

abbrev pub part_info : HeaderInfo → ClaimKind → Span → ClaimInfo
part_info h kind key = record { kind = kind; key = key; line = h.line; extent = h.extent }

abbrev pub header_claim : HeaderInfo → ClaimKind → Path → SimpleKey → Claim
header_claim h kind p k = table_claim p k (part_info h kind k.span)

-- The claims `rest`. If the array of tables at p has no elements so far, the claim of the array itself comes before
-- them.
abbrev pub array_claims : HeaderInfo → Path → SimpleKey → ℕ → Claims → Claims
array_claims h p k zero rest = claimed (header_claim h ArrayOfTables p k) rest
array_claims h p k (suc n) rest = rest

-- The claims of k, the last part of a header whose path is p. With single brackets, this is the claim of a table. With
-- double brackets, it is the claim of the element at position n, where n is the number of elements that the array of
-- tables at p has so far. If n is 0, the claim of the array itself comes first.
unfoldable pub end_claims : HeaderInfo → Path → SimpleKey → ℕ → Claims
end_claims h p k n =
    if h.array
    then array_claims h p k n (claimed (header_claim h TableElement (with_position p n) k) no_claims)
    else claimed (header_claim h StandardTable p k) no_claims

-- The claims of the parts of a header, which lead on from the path p. Each part except the last passes through a table
-- or, if it names an array of tables, through the latest element. `counts` is the number of elements that each array of
-- tables has so far.
unfoldable pub header_claims : (Path → ℕ) → HeaderInfo → Path → List SimpleKey → Claims
header_claims counts h p [] = no_claims
header_claims counts h p (k ∷ []) = end_claims h (with_key p k) k (counts (with_key p k))
header_claims counts h p (k ∷ l ∷ more) =
    let q = enter (counts (with_key p k)) (with_key p k) in
    claimed (header_claim h Passed q k) (header_claims counts h q (l ∷ more))

-- the claims of a section, where `counts` is the number of elements that each array of tables has before this section
unfoldable pub section_claims : (Path → ℕ) → ParsedSection → Claims
section_claims counts b =
    followed (header_claims counts (header_info b) [] b.header)
    (assignments_claims b.assignments (section_path counts b))

-- The claims of sections that follow the sections `earlier`. The list `earlier` has the latest section first.
unfoldable pub claims_after : List ParsedSection → List ParsedSection → Claims
claims_after earlier [] = no_claims
claims_after earlier (b ∷ bs) =
    followed (section_claims (elements_added (opened_by earlier)) b) (claims_after (b ∷ earlier) bs)

-- the claims of a document that consists of these sections
abbrev pub claims : List ParsedSection → Claims
claims bs = claims_after [] bs
