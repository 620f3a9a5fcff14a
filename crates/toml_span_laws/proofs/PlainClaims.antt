-- Claims do not depend on spans and scalars, except that they carry them: which claims clash, and which paths have a
-- place, is the same without spans and with other scalars.
use Rattle.std.specs.Option.{option_or}
use Rattle.toml_span_lex.proofs.Common.{◌≡◌, ℕ, zero, suc, Bool, true, false, if◌then◌else◌, List, [], ◌∷◌, ◌++◌, map, map-append, Option, Some, None, option_map, refl, sym, ap, ◌∙◌, inl, inr, cases_Bool, find, slice_get}
use Rattle.toml_span_tree.specs.Path.{Path, Place, Shape, shape_scalar}
use Rattle.toml_span_read.specs.Data.{SimpleKey, ParsedValue, parsed, scalar, array, inline, ParsedItems, no_items, item, ParsedPairs, no_pairs, pair, ParsedAssignment, ParsedSection}
use Rattle.toml_span.specs.Claims.{Claim, Claims, no_claims, claimed, scope, followed, dotted, assigned, element, key_claims, value_claims, inner_claims, item_claims, pair_claims, assignments_claims, header_info, header_claim, array_claims, end_claims, header_claims, section_claims, claims_after, claims}
use Rattle.toml_span.specs.Clashes.{NamedClash, clash_info, clash_kind, clash, clash_among, clash_after, Resolves}
use Rattle.toml_span.specs.code.ClaimInfos.{with_name}
use Rattle.toml_span.specs.Flat.{all_claims, by_header, deciding_claim, flat}
use Rattle.toml_span.proofs.EachClaim.{claims_at}
use Rattle.toml_span_read.specs.Paths.{same_path, with_key, with_position, enter, target, opened_by, elements_added, section_path}
use Rattle.toml_span.specs.declared.claims.ClaimInfo.{ClaimInfo}
use Rattle.toml_span.specs.declared.claims.ClaimKind.{ClaimKind}
use Rattle.toml_span.specs.declared.claims.ClaimKind.TheVariants.{Passed, StandardTable, ArrayOfTables, TableElement, Dotted, Assigned}
use Rattle.toml_span.specs.declared.claims.ClashKind.{ClashKind}
use Rattle.toml_span.specs.declared.claims.ClashKind.TheVariants.{DuplicateTable, DuplicateKey, RedefineAsArray}
use Rattle.toml_span.specs.declared.claims.HeaderInfo.{HeaderInfo}
use Rattle.toml_span_laws.specs.Replaced.{no_span}
use Rattle.toml_span_laws.proofs.PlainParsed.{Change, plain, plain_items, plain_pairs, plain_part, plain_parts, plain_assignments, plain_section, plain_sections}

-- ---- without spans

abbrev pub plain_shape : Change → ℕ → Shape → Shape
plain_shape c at (shape_scalar s) = shape_scalar (c at s)
plain_shape c at s = s

-- a place without its spans, and with this change of a scalar
abbrev pub plain_place : Change → Place → Place
plain_place c x = record { shape = plain_shape c x.span.start x.shape; key_span = option_map (λ k. no_span) x.key_span; span = no_span }

abbrev plain_info : ClaimInfo → ClaimInfo
plain_info m = record { kind = m.kind; key = no_span; line = no_span; extent = no_span }

abbrev plain_claim : Change → Claim → Claim
plain_claim c x = record { path = x.path; name = x.name; info = plain_info x.info; place = plain_place c x.place }

abbrev plain_claims : Change → Claims → Claims
plain_claims c no_claims = no_claims
plain_claims c (claimed x xs) = claimed (plain_claim c x) (plain_claims c xs)
plain_claims c (scope inner xs) = scope (plain_claims c inner) (plain_claims c xs)

followed_plain : (c : Change) (xs ys : Claims) → plain_claims c (followed xs ys) ≡ followed (plain_claims c xs) (plain_claims c ys)
unfolding followed
followed_plain c no_claims ys = refl
followed_plain c (claimed x xs) ys = ap (claimed (plain_claim c x)) (followed_plain c xs ys)
followed_plain c (scope inner xs) ys = ap (scope (plain_claims c inner)) (followed_plain c xs ys)

-- ---- the claims of values and assignments

assigned_plain : (c : Change) (p : Path) (k : SimpleKey) (v : ParsedValue) → assigned p (plain_part k) (plain c v) ≡ plain_claim c (assigned p k v)
assigned_plain c p k (parsed (scalar s) span) = refl
assigned_plain c p k (parsed (array vs) span) = refl
assigned_plain c p k (parsed (inline ps) span) = refl

dotted_plain : (c : Change) (p : Path) (k : SimpleKey) (v : ParsedValue) → dotted p (plain_part k) (plain c v) ≡ plain_claim c (dotted p k v)
dotted_plain c p k (parsed x span) = refl

element_plain : (c : Change) (p : Path) (v : ParsedValue) → element p (plain c v) ≡ plain_claim c (element p v)
element_plain c p (parsed (scalar s) span) = refl
element_plain c p (parsed (array vs) span) = refl
element_plain c p (parsed (inline ps) span) = refl

key_plain : (c : Change) (p : Path) (ks : List SimpleKey) (v : ParsedValue) (inside other : Path → Claims) → ((q : Path) → other q ≡ plain_claims c (inside q)) → key_claims p (plain_parts ks) (plain c v) other ≡ plain_claims c (key_claims p ks v inside)
unfolding key_claims
key_plain c p [] v inside other h = refl
key_plain c p (k ∷ []) v inside other h = cc (assigned_plain c (with_key p k) k v, h (with_key p k))
key_plain c p (k ∷ l ∷ more) v inside other h = cc (dotted_plain c (with_key p k) k v, key_plain c (with_key p k) (l ∷ more) v inside other h)

mutual
  unfolding value_claims inner_claims item_claims pair_claims

  value_plain : (c : Change) (v : ParsedValue) (p : Path) → value_claims (plain c v) p ≡ plain_claims c (value_claims v p)
  value_plain c (parsed (scalar s) span) p = refl
  value_plain c (parsed (array vs) span) p = ap (λ z. scope z no_claims) (items_plain c vs 0 p)
  value_plain c (parsed (inline ps) span) p = ap (λ z. scope z no_claims) (pairs_plain c ps p)

  items_plain : (c : Change) (vs : ParsedItems) (i : ℕ) (p : Path) → item_claims (plain_items c vs) i p ≡ plain_claims c (item_claims vs i p)
  items_plain c no_items i p = refl
  items_plain c (item v vs) i p =
      let q = with_position p i in
      cc (element_plain c q v, value_plain c v q, items_plain c vs (suc i) p, followed_plain c (value_claims v q) (item_claims vs (suc i) p))

  pairs_plain : (c : Change) (ps : ParsedPairs) (p : Path) → pair_claims (plain_pairs c ps) p ≡ plain_claims c (pair_claims ps p)
  pairs_plain c no_pairs p = refl
  pairs_plain c (pair ss v x ps) p =
      cc (key_plain c p ss v (value_claims v) (value_claims (plain c v)) (λ q. value_plain c v q), pairs_plain c ps p, followed_plain c (key_claims p ss v (value_claims v)) (pair_claims ps p))

assignments_plain : (c : Change) (es : List ParsedAssignment) (p : Path) → assignments_claims (plain_assignments c es) p ≡ plain_claims c (assignments_claims es p)
unfolding assignments_claims
assignments_plain c [] p = refl
assignments_plain c (e ∷ es) p =
    cc (key_plain c p e.parts e.value (value_claims e.value) (value_claims (plain c e.value)) (λ q. value_plain c e.value q), assignments_plain c es p, followed_plain c (key_claims p e.parts e.value (value_claims e.value)) (assignments_claims es p))

-- ---- the claims of headers

abbrev plain_header : HeaderInfo → HeaderInfo
plain_header h = record { array = h.array; line = no_span; extent = no_span }

header_plain : (c : Change) (h : HeaderInfo) (kind : ClaimKind) (p : Path) (k : SimpleKey) → header_claim (plain_header h) kind p (plain_part k) ≡ plain_claim c (header_claim h kind p k)
header_plain c h Passed p k = refl
header_plain c h StandardTable p k = refl
header_plain c h ArrayOfTables p k = refl
header_plain c h TableElement p k = refl
header_plain c h Dotted p k = refl
header_plain c h Assigned p k = refl

end_plain : (c : Change) (h : HeaderInfo) (p : Path) (k : SimpleKey) (n : ℕ) → end_claims (plain_header h) p (plain_part k) n ≡ plain_claims c (end_claims h p k n)
unfolding end_claims
end_plain c h p k n = elim (cases_Bool h.array) [
  | inl double ↦ rw double (double_plain n)
  | inr single ↦ rw single (ap (λ z. claimed z no_claims) (header_plain c h StandardTable p k))
]
  where
    double_plain : (n : ℕ) → array_claims (plain_header h) p (plain_part k) n (claimed (header_claim (plain_header h) TableElement (with_position p n) (plain_part k)) no_claims)
        ≡ plain_claims c (array_claims h p k n (claimed (header_claim h TableElement (with_position p n) k) no_claims))
    double_plain zero = cc (header_plain c h ArrayOfTables p k, header_plain c h TableElement (with_position p zero) k)
    double_plain (suc n) = ap (λ z. claimed z no_claims) (header_plain c h TableElement (with_position p (suc n)) k)

headers_plain : (c : Change) (counts : Path → ℕ) (h : HeaderInfo) (p : Path) (ks : List SimpleKey) → header_claims counts (plain_header h) p (plain_parts ks) ≡ plain_claims c (header_claims counts h p ks)
unfolding header_claims
headers_plain c counts h p [] = refl
headers_plain c counts h p (k ∷ []) = end_plain c h (with_key p k) k (counts (with_key p k))
headers_plain c counts h p (k ∷ l ∷ more) =
    let q = enter (counts (with_key p k)) (with_key p k) in cc (header_plain c h Passed q k, headers_plain c counts h q (l ∷ more))

target_plain : (counts : Path → ℕ) (p : Path) (ks : List SimpleKey) → target counts p (plain_parts ks) ≡ target counts p ks
unfolding target
target_plain counts p [] = refl
target_plain counts p (k ∷ []) = refl
target_plain counts p (k ∷ l ∷ more) = target_plain counts (enter (counts (with_key p k)) (with_key p k)) (l ∷ more)

-- ---- the claims of sections

opened_plain : (c : Change) (bs : List ParsedSection) → opened_by (plain_sections c bs) ≡ opened_by bs
unfolding opened_by
opened_plain c [] = refl
opened_plain c (b ∷ bs) = rw (opened_plain c bs, target_plain (elements_added (opened_by bs)) [] b.header) refl

section_plain : (c : Change) (counts : Path → ℕ) (b : ParsedSection) → section_claims counts (plain_section c b) ≡ plain_claims c (section_claims counts b)
unfolding section_claims
section_plain c counts b =
    let path : section_path counts (plain_section c b) ≡ section_path counts b = rw (target_plain counts [] b.header) refl in
    rw (path, headers_plain c counts (header_info b) [] b.header, assignments_plain c b.assignments (section_path counts b)) (sym (followed_plain c (header_claims counts (header_info b) [] b.header) (assignments_claims b.assignments (section_path counts b))))

after_plain : (c : Change) (earlier bs : List ParsedSection) → claims_after (plain_sections c earlier) (plain_sections c bs) ≡ plain_claims c (claims_after earlier bs)
unfolding claims_after
after_plain c earlier [] = refl
after_plain c earlier (b ∷ bs) =
    rw (opened_plain c earlier, section_plain c (elements_added (opened_by earlier)) b, after_plain c (b ∷ earlier) bs) (sym (followed_plain c (section_claims (elements_added (opened_by earlier)) b) (claims_after (b ∷ earlier) bs)))

-- ---- clashes

abbrev plain_clash : NamedClash → NamedClash
plain_clash t = record { info = record { kind = t.info.kind; first = no_span; span = no_span }; name = t.name }

clash_cases : (x y : ClaimInfo) (name : List ℕ) (b : Bool) (o : Option ClashKind)
    → (if b then option_map (λ kind. with_name name (clash_info (plain_info x) (plain_info y) kind)) o else None) ≡ option_map plain_clash (if b then option_map (λ kind. with_name name (clash_info x y kind)) o else None)
clash_cases x y name false o = refl
clash_cases x y name true None = refl
clash_cases x y name true (Some DuplicateTable) = refl
clash_cases x y name true (Some DuplicateKey) = refl
clash_cases x y name true (Some RedefineAsArray) = refl

clash_plain : (c : Change) (x y : Claim) → clash (plain_claim c x) (plain_claim c y) ≡ option_map plain_clash (clash x y)
unfolding clash
clash_plain c x y = clash_cases x.info y.info y.name (same_path x.path y.path) (clash_kind x.info.kind y.info.kind)

first_mapped : {A B : Type 0} (f : A → B) (o p : Option A) → option_or (option_map f o) (option_map f p) ≡ option_map f (option_or o p)
first_mapped f (Some x) p = refl
first_mapped f None p = refl

among_plain : (c : Change) (xs : List Claim) (y : Claim) → clash_among (map (plain_claim c) xs) (plain_claim c y) ≡ option_map plain_clash (clash_among xs y)
unfolding clash_among
among_plain c [] y = refl
among_plain c (x ∷ xs) y = rw (clash_plain c x y, among_plain c xs y) (first_mapped plain_clash (clash x y) (clash_among xs y))

clashes_plain : (c : Change) (earlier : List Claim) (cs : Claims) → clash_after (map (plain_claim c) earlier) (plain_claims c cs) ≡ option_map plain_clash (clash_after earlier cs)
unfolding clash_after
clashes_plain c earlier no_claims = refl
clashes_plain c earlier (claimed x cs) =
    rw (among_plain c earlier x, ← (map-append (plain_claim c) earlier (x ∷ [])), clashes_plain c (earlier ++ (x ∷ [])) cs) (first_mapped plain_clash (clash_among earlier x) (clash_after (earlier ++ (x ∷ [])) cs))
clashes_plain c earlier (scope inner cs) = rw (clashes_plain c [] inner, clashes_plain c earlier cs) (first_mapped plain_clash (clash_after [] inner) (clash_after earlier cs))

none_mapped : {A B : Type 0} (f : A → B) (o : Option A) → option_map f o ≡ None → o ≡ None
none_mapped f None h = refl
none_mapped f (Some x) h = absurd (cc)

-- ---- the flat document

all_plain : (c : Change) (cs : Claims) → all_claims (plain_claims c cs) ≡ map (plain_claim c) (all_claims cs)
unfolding all_claims
all_plain c no_claims = refl
all_plain c (claimed x cs) = ap (λ l. plain_claim c x ∷ l) (all_plain c cs)
all_plain c (scope inner cs) = rw (all_plain c inner, all_plain c cs) (sym (map-append (plain_claim c) (all_claims inner) (all_claims cs)))

at_plain : (c : Change) (p : Path) (xs : List Claim) → claims_at p (map (plain_claim c) xs) ≡ map (plain_claim c) (claims_at p xs)
at_plain c p [] = refl
at_plain c p (x ∷ xs) = elim (cases_Bool (same_path x.path p)) [
  | inl here ↦ rw (here, at_plain c p xs) refl
  | inr other ↦ rw (other, at_plain c p xs) refl
]

header_first_plain : (c : Change) (xs : List Claim) → find (λ c. by_header c.info.kind) (map (plain_claim c) xs) ≡ option_map (plain_claim c) (find (λ c. by_header c.info.kind) xs)
header_first_plain c [] = refl
header_first_plain c (x ∷ xs) = elim (cases_Bool (by_header x.info.kind)) [
  | inl here ↦ rw here refl
  | inr other ↦ rw (other, header_first_plain c xs) refl
]

first_plain : (c : Change) (xs : List Claim) → slice_get (map (plain_claim c) xs) 0 ≡ option_map (plain_claim c) (slice_get xs 0)
first_plain c [] = refl
first_plain c (x ∷ xs) = refl

deciding_plain : (c : Change) (xs : List Claim) → deciding_claim (map (plain_claim c) xs) ≡ option_map (plain_claim c) (deciding_claim xs)
deciding_plain c xs = rw (header_first_plain c xs, first_plain c xs) (first_mapped (plain_claim c) (find (λ c. by_header c.info.kind) xs) (slice_get xs 0))

placed_plain : (c : Change) (o : Option Claim) → option_map (λ x. x.place) (option_map (plain_claim c) o) ≡ option_map (plain_place c) (option_map (λ x. x.place) o)
placed_plain c None = refl
placed_plain c (Some x) = refl

flat_plain : (c : Change) (n : ℕ) (cs : Claims) (p : Path) → option_map (plain_place c) (flat n cs p) ≡ flat 0 (plain_claims c cs) p
unfolding flat
flat_plain c n cs [] = refl
flat_plain c n cs (s ∷ p) =
    let here = claims_at (s ∷ p) (all_claims cs) in
    rw (all_plain c cs, at_plain c (s ∷ p) (all_claims cs), deciding_plain c here) (sym (placed_plain c (deciding_claim here)))

-- ---- documents that are equal without spans

module _ (c d : Change) (bs cs : List ParsedSection) (same : plain_sections c bs ≡ plain_sections d cs) where
  claims_alike : plain_claims c (claims bs) ≡ plain_claims d (claims cs)
  claims_alike = sym (after_plain c [] bs) ∙ (ap (λ x. claims_after [] x) same ∙ after_plain d [] cs)

  pub resolves_alike : Resolves (claims cs) → Resolves (claims bs)
  resolves_alike h = none_mapped plain_clash (clash_after [] (claims bs)) (sym (clashes_plain c [] (claims bs)) ∙ (ap (λ x. clash_after [] x) claims_alike ∙ (clashes_plain d [] (claims cs) ∙ ap (λ o. option_map plain_clash o) h)))

  pub flat_alike : (n m : ℕ) (p : Path) → option_map (plain_place c) (flat n (claims bs) p) ≡ option_map (plain_place d) (flat m (claims cs) p)
  flat_alike n m p = flat_plain c n (claims bs) p ∙ (ap (λ x. flat 0 x p) claims_alike ∙ sym (flat_plain d m (claims cs) p))
