-- The scopes of a document's claims: each claim has a parent in its scope, and each scope inside is below a claim that
-- assigns.
use Rattle.toml_span_lex.proofs.Common.{◌≡◌, ℕ, zero, suc, ◌<◌, ◌⊎◌, Bool, true, false, List, [], ◌∷◌, ◌++◌, Option, Some, None, arith, refl, sym, ap, ◌∙◌, subst, append_assoc, append-nil, inl, inr, ⊤, if◌then◌else◌, cases_Bool, cases_lt, nat_tests, common_steps}
use Rattle.toml_span_tree.specs.Path.{Path, Step, key, position}
use Rattle.toml_span_read.specs.Data.{ParsedValue, parsed, scalar, array, inline, ParsedItems, no_items, item, ParsedPairs, no_pairs, pair, ParsedAssignment, ParsedSection, SimpleKey}
use Rattle.toml_span.specs.declared.claims.ClaimKind.{ClaimKind}
use Rattle.toml_span.specs.declared.claims.ClaimKind.TheVariants.{Passed, StandardTable, ArrayOfTables, TableElement, Assigned}
use Rattle.toml_span.specs.declared.claims.HeaderInfo.{HeaderInfo}
use Rattle.toml_span.specs.Claims.{Claim, Claims, no_claims, claimed, scope, followed, key_claims, value_claims, inner_claims, item_claims, pair_claims, assignments_claims, element, assigned, dotted, header_info, header_claim, array_claims, end_claims, header_claims, section_claims, claims_after, claims}
use Rattle.toml_span_read.specs.Paths.{same_path, with_key, with_position, enter, target, elements_added, opened_by, section_path}
use Rattle.toml_span.specs.code.Placing.{AreSections}
use Rattle.toml_span_read.proofs.PathLemmas.{same_path-eq}
use Rattle.toml_span_laws.specs.Clashing.{IsIn, own}
use Rattle.toml_span_laws.proofs.Apart.{in-left, in-right}

-- ---- paths

-- the path is below the base
abbrev pub IsUnder : Path → Path → Type 0
IsUnder base p = (s : Step) × (rest : Path) × (p ≡ base ++ (s ∷ rest))

-- the path is the base, or below it
abbrev pub IsFrom : Path → Path → Type 0
IsFrom base p = (r : Path) × (p ≡ base ++ r)

pub nil-under : (a : Path) (s : Step) (rest : Path) → [] ≡ a ++ (s ∷ rest) → ⊥
nil-under [] s rest h = cc
nil-under (x ∷ a) s rest h = cc

pub longer : (p : Path) (s : Step) (r : Path) → p ≡ p ++ (s ∷ r) → ⊥
longer [] s r h = cc
longer (x ∷ p) s r h = let rest : p ≡ p ++ (s ∷ r) = cc in longer p s r rest

pub key-position : (p q : Path) (k : List ℕ) (n : ℕ) → p ++ (key k ∷ []) ≡ q ++ (position n ∷ []) → ⊥
key-position p q k n h = grind (arith, nat_tests, common_steps)

pub from-cases : (base p : Path) → IsFrom base p → (base ≡ p) ⊎ IsUnder base p
from-cases base p ([], is) = inl (sym (is ∙ append-nil base))
from-cases base p (s ∷ r, is) = inr (s, r, is)

pub from-under : (base p : Path) → IsUnder base p → IsFrom base p
from-under base p (s, r, is) = (s ∷ r, is)

pub under-from : (a p q : Path) → IsUnder a p → IsFrom p q → IsUnder a q
under-from a p q (s, r, is) (t, on) = (s, r ++ t, on ∙ ap (λ l. l ++ t) is ∙ append_assoc a (s ∷ r) t)

-- all but the last step of a path below another one is that path or below it
front-from : (a p : Path) (s x : Step) (q : Path) → a ++ (s ∷ q) ≡ p ++ (x ∷ []) → IsFrom a p
front-from [] p s x q h = (p, refl)
front-from (y ∷ a) [] s x q h = absurd (nil-under a s q cc)
front-from (y ∷ a) (z ∷ p) s x q h = grind (arith, nat_tests, common_steps, front-from a)

-- two paths on the way to one place
pub on-one-way : (p q r u : Path) → p ++ r ≡ q ++ u → IsFrom p q ⊎ IsFrom q p
on-one-way [] q r u h = inl (q, refl)
on-one-way (x ∷ p) [] r u h = inr (x ∷ p, refl)
on-one-way (x ∷ p) (y ∷ q) r u h = grind (arith, nat_tests, common_steps, on-one-way p q r u)

child-under : (base p : Path) (x : Step) → IsFrom base p → IsUnder base (p ++ (x ∷ []))
child-under base p x ([], is) = (x, [], ap (λ l. l ++ (x ∷ [])) is ∙ append_assoc base [] (x ∷ []))
child-under base p x (s ∷ r, is) = (s, r ++ (x ∷ []), ap (λ l. l ++ (x ∷ [])) is ∙ append_assoc base (s ∷ r) (x ∷ []))

-- The path is below the base, and M holds for each path between them.
abbrev pub Above : (Path → Type 0) → Path → Path → Type 0
Above M base p = IsUnder base p × ((q : Path) → IsUnder base q → IsUnder q p → M q)

-- The path is the base or below it, and M holds for it and for each path between them.
abbrev pub Along : (Path → Type 0) → Path → Path → Type 0
Along M base p = IsFrom base p × ((q : Path) → IsUnder base q → IsFrom q p → M q)

pub above-on : (M N : Path → Type 0) (base p : Path) → ((q : Path) → M q → N q) → Above M base p → Above N base p
above-on M N base p f (under, above) = (under, λ q u below. f q (above q u below))

pub along-on : (M N : Path → Type 0) (base p : Path) → ((q : Path) → M q → N q) → Along M base p → Along N base p
along-on M N base p f (from, along) = (from, λ q u on. f q (along q u on))

pub along-base : (M : Path → Type 0) (base : Path) → Along M base base
along-base M base = (([], sym (append-nil base)), λ q under on. let (s, r, is) = under-from base q base under on in absurd (longer base s r is))

pub above-child : (M : Path → Type 0) (base p : Path) (x : Step) → Along M base p → Above M base (p ++ (x ∷ []))
above-child M base p x (from, along) = (child-under base p x from, λ q under (s, r, is). along q under (front-from q p s x r (sym is)))

pub along-child : (M : Path → Type 0) (base p : Path) (x : Step) → Along M base p → M (p ++ (x ∷ [])) → Along M base (p ++ (x ∷ []))
along-child M base p x on here =
    let (under, above) = above-child M base p x on in
    (from-under base (p ++ (x ∷ [])) under, λ q u to. elim (from-cases q (p ++ (x ∷ [])) to) [ inl same ↦ subst M (sym same) here | inr below ↦ above q u below ])

-- ---- one claim

-- one of the claims has this kind and this path
abbrev pub Has : List Claim → ClaimKind → Path → Type 0
Has l kind p = (e : Claim) × IsIn e l × (e.info.kind ≡ kind) × (e.path ≡ p)

-- one that does not assign has this path
abbrev pub Makes : List Claim → Path → Type 0
Makes l p = (e : Claim) × IsIn e l × (e.info.kind ≡ Assigned → ⊥) × (e.path ≡ p)

-- the claim of a key
abbrev Keyed : Claim → Type 0
Keyed c = ((p : Path) × (k : List ℕ) × (c.path ≡ p ++ (key k ∷ []))) × (c.info.kind ≡ TableElement → ⊥)

-- the claim of an element, in an array at the base
abbrev Element : Path → Claim → Type 0
Element base c = (n : ℕ) × (c.path ≡ base ++ (position n ∷ [])) × (c.info.kind ≡ Assigned)

-- a header's claim on an entry, or on one through which it passes
abbrev Entry : Path → List Claim → Claim → Type 0
Entry base earlier c =
    (base ≡ []) × ((p : Path) × (k : List ℕ) × (n : ℕ) × (c.path ≡ (p ++ (key k ∷ [])) ++ (position n ∷ []))) × (c.info.kind ≡ Assigned → ⊥)
    × (c.info.kind ≡ Passed → Has earlier TableElement c.path)

-- A claim of a scope with this base, after these earlier ones of the scope, which create the tables between them.
pub record Fits (base : Path) (earlier : List Claim) (c : Claim) : Type 0 where
  pub above : Above (Makes earlier) base c.path
  pub kind : Keyed c ⊎ Element base c ⊎ Entry base earlier c

-- Each claim fits its scope, and each scope follows directly after a claim that assigns, whose path is its base.
abbrev pub Scoped : Path → List Claim → Option Claim → Claims → Type 0
Scoped base earlier last no_claims = ⊤
Scoped base earlier last (claimed c cs) = Fits base earlier c × Scoped base (earlier ++ (c ∷ [])) (Some c) cs
Scoped base earlier None (scope inner cs) = ⊥
Scoped base earlier (Some a) (scope inner cs) =
    (a.info.kind ≡ Assigned) × IsUnder base a.path × Scoped a.path [] None inner × Scoped base earlier None cs

-- ---- claims after others

pub has-on : (l more : List Claim) (kind : ClaimKind) (p : Path) → Has l kind p → Has (l ++ more) kind p
has-on l more kind p (e, here, is, on) = (e, in-left e l more here, is, on)

makes-on : (l more : List Claim) (p : Path) → Makes l p → Makes (l ++ more) p
makes-on l more p (e, here, is, on) = (e, in-left e l more here, is, on)

makes-of : (l : List Claim) (kind : ClaimKind) (p : Path) → (kind ≡ Assigned → ⊥) → Has l kind p → Makes l p
makes-of l kind p plain (e, here, is, on) = (e, here, (λ no. plain (sym is ∙ no)), on)

-- the last of the claims creates its path
last-makes : (l : List Claim) (c : Claim) → (c.info.kind ≡ Assigned → ⊥) → Makes (l ++ (c ∷ [])) c.path
last-makes l c plain = (c, in-right c l (c ∷ []) (inl refl), plain, refl)

pub fits-on : (base : Path) (l more : List Claim) (c : Claim) → Fits base l c → Fits base (l ++ more) c
fits-on base l more c f = grind (arith, nat_tests, common_steps, above-on, has-on, makes-on)

-- a header passes through at a position only if there is an entry
pub passed-entered : (base : Path) (l : List Claim) (c : Claim) (p : Path) (n : ℕ) → Fits base l c → c.info.kind ≡ Passed → c.path ≡ p ++ (position n ∷ []) → Has l TableElement c.path
passed-entered base l c p n f is on = grind (arith, nat_tests, common_steps)

-- an entry and a value are never on the same path
pub entry-value : (base : Path) (l : List Claim) (a e : Claim) → Fits base l a → Fits base l e → a.info.kind ≡ Assigned → e.info.kind ≡ TableElement → a.path ≡ e.path → ⊥
entry-value base l a e fits there value is same = grind (arith, nat_tests, common_steps)

scoped-loose : (base : Path) (earlier : List Claim) (last : Option Claim) (cs : Claims) → Scoped base earlier None cs → Scoped base earlier last cs
scoped-loose base earlier None cs h = h
scoped-loose base earlier (Some a) no_claims h = tt
scoped-loose base earlier (Some a) (claimed c cs) h = h
scoped-loose base earlier (Some a) (scope inner cs) h = absurd h

scoped-followed : (base : Path) (earlier : List Claim) (last : Option Claim) (xs ys : Claims) → Scoped base earlier last xs → Scoped base (earlier ++ own xs) None ys → Scoped base earlier last (followed xs ys)
unfolding followed
scoped-followed base earlier last no_claims ys h g = scoped-loose base earlier last ys (subst (λ l. Scoped base l None ys) (append-nil earlier) g)
scoped-followed base earlier last (claimed c xs) ys h g = grind (arith, nat_tests, common_steps, scoped-followed base (earlier ++ (c ∷ [])) (Some c) xs)
scoped-followed base earlier None (scope inner xs) ys h g = absurd h
scoped-followed base earlier (Some a) (scope inner xs) ys h g = (h.0, h.1, h.2, scoped-followed base earlier None xs ys h.3 g)

-- ---- keys and values

-- the scope has created what is at the path, and on the way to it
abbrev Stands : Path → List Claim → Path → Type 0
Stands base l p = Along (Makes l) base p

stands-on : (base : Path) (l more : List Claim) (p : Path) → Stands base l p → Stands base (l ++ more) p
stands-on base l more p stands = along-on (Makes l) (Makes (l ++ more)) base p (makes-on l more) stands

-- a claim of a table at a key
table-fits : (base : Path) (earlier : List Claim) (p : Path) (k : List ℕ) (c : Claim) → Stands base earlier p → c.path ≡ p ++ (key k ∷ []) → (c.info.kind ≡ TableElement → ⊥) → Fits base earlier c
table-fits base earlier p k c stands on plain = record { above = rw on (above-child (Makes earlier) base p (key k) stands); kind = inl ((p, k, on), plain) }

key-scoped : (base : Path) (earlier : List Claim) (p : Path) (parts : List SimpleKey) (v : ParsedValue) (inside : Path → Claims) → Stands base earlier p
    → ((k : SimpleKey) (q : Path) (l : List Claim) → IsUnder base (with_key q k) → Scoped base l (Some (assigned (with_key q k) k v)) (inside (with_key q k))) → Scoped base earlier None (key_claims p parts v inside)
unfolding key_claims
key-scoped base earlier p [] v inside stands h = tt
key-scoped base earlier p (k ∷ []) v inside stands h =
    grind (arith, nat_tests, common_steps, child-under base p (key k.name) stands.0, table-fits base earlier p k.name (assigned (with_key p k) k v) stands refl)
key-scoped base earlier p (k ∷ l ∷ more) v inside stands h =
    let c = dotted (with_key p k) k v in (
      table-fits base earlier p k.name c stands refl (λ e. cc),
      scoped-loose base (earlier ++ (c ∷ [])) (Some c) (key_claims (with_key p k) (l ∷ more) v inside)
          (key-scoped base (earlier ++ (c ∷ [])) (with_key p k) (l ∷ more) v inside
          (along-child (Makes (earlier ++ (c ∷ []))) base p (key k.name) (stands-on base earlier (c ∷ []) p stands) (last-makes earlier c (λ e. cc))) h),
    )

element-fits : (p : Path) (earlier : List Claim) (n : ℕ) (v : ParsedValue) → Fits p earlier (element (with_position p n) v)
element-fits p earlier n v = record { above = above-child (Makes earlier) p p (position n) (along-base (Makes earlier) p); kind = inr (inl (n, refl, refl)) }

mutual
  unfolding value_claims inner_claims item_claims pair_claims

  value-scoped : (v : ParsedValue) (base : Path) (earlier : List Claim) (a : Claim) → a.info.kind ≡ Assigned → IsUnder base a.path → Scoped base earlier (Some a) (value_claims v a.path)
  value-scoped (parsed (scalar s) span) base earlier a is under = tt
  value-scoped (parsed (array vs) span) base earlier a is under = (is, under, items-scoped vs 0 a.path [], tt)
  value-scoped (parsed (inline ps) span) base earlier a is under = (is, under, pairs-scoped ps a.path [], tt)

  items-scoped : (vs : ParsedItems) (n : ℕ) (p : Path) (earlier : List Claim) → Scoped p earlier None (item_claims vs n p)
  items-scoped no_items n p earlier = tt
  items-scoped (item v vs) n p earlier = grind (arith, nat_tests, common_steps, items-scoped vs, value-scoped v, element-fits, scoped-followed)

  pairs-scoped : (ps : ParsedPairs) (p : Path) (earlier : List Claim) → Scoped p earlier None (pair_claims ps p)
  pairs-scoped no_pairs p earlier = tt
  pairs-scoped (pair parts v extent ps) p earlier =
      let front = key_claims p parts v (value_claims v) in
      scoped-followed p earlier None front (pair_claims ps p)
      (key-scoped p earlier p parts v (value_claims v) (along-base (Makes earlier) p)
      (λ k q l under. value-scoped v p l (assigned (with_key q k) k v) refl under))
      (pairs-scoped ps p (earlier ++ own front))

assignments-scoped : (es : List ParsedAssignment) (base : Path) (earlier : List Claim) (p : Path) → Stands base earlier p → Scoped base earlier None (assignments_claims es p)
unfolding assignments_claims
assignments-scoped [] base earlier p stands = tt
assignments-scoped (e ∷ es) base earlier p stands =
    let front = key_claims p e.parts e.value (value_claims e.value) in
    scoped-followed base earlier None front (assignments_claims es p)
    (key-scoped base earlier p e.parts e.value (value_claims e.value) stands
    (λ k q l under. value-scoped e.value base l (assigned (with_key q k) k e.value) refl under))
    (assignments-scoped es base (earlier ++ own front) p (stands-on base earlier (own front) p stands))

-- ---- claims, and what holds after them

pub own-followed : (xs ys : Claims) → own (followed xs ys) ≡ own xs ++ own ys
unfolding followed
own-followed no_claims ys = refl
own-followed (claimed c xs) ys = ap (λ l. c ∷ l) (own-followed xs ys)
own-followed (scope inner xs) ys = own-followed xs ys

-- T holds for the claims after these earlier ones, and P for all together
pub record Walk (T : List Claim → Claims → Type 0) (P : List Claim → Type 0) (l : List Claim) (cs : Claims) : Type 0 where
  pub tree : T l cs
  pub all : P (l ++ own cs)

pub walk-claimed : (T : List Claim → Claims → Type 0) (P : List Claim → Type 0) (l : List Claim) (c : Claim) (cs : Claims) → (T (l ++ (c ∷ [])) cs → T l (claimed c cs)) → Walk T P (l ++ (c ∷ [])) cs
    → Walk T P l (claimed c cs)
walk-claimed T P l c cs first w = record { tree = first w.tree; all = subst P (append_assoc l (c ∷ []) (own cs)) w.all }

pub walk-followed : (T : List Claim → Claims → Type 0) (P Q : List Claim → Type 0) → ((l : List Claim) (xs ys : Claims) → T l xs → T (l ++ own xs) ys → T l (followed xs ys)) → (l : List Claim) (xs ys : Claims) → Walk T P l xs
    → (P (l ++ own xs) → Walk T Q (l ++ own xs) ys) → Walk T Q l (followed xs ys)
walk-followed T P Q joins l xs ys w more = grind (arith, nat_tests, common_steps, own-followed)

-- the claims of a document
abbrev Of : List Claim → Claims → Type 0
Of l cs = Scoped [] l None cs

-- ---- headers

-- an array of tables with n entries
abbrev HasEntries : List Claim → Path → ℕ → Type 0
HasEntries l p n = (m : ℕ) → m < n → Has l ArrayOfTables p × Has l TableElement (with_position p m)

entries-on : (l more : List Claim) (p : Path) (n : ℕ) → HasEntries l p n → HasEntries (l ++ more) p n
entries-on l more p n h m few = (has-on l more ArrayOfTables p (h m few).0, has-on l more TableElement (with_position p m) (h m few).1)

array-stands : (l : List Claim) (p : Path) (k : SimpleKey) → Stands [] l p → Has l ArrayOfTables (with_key p k) → Stands [] l (with_key p k)
array-stands l p k stands made = along-child (Makes l) [] p (key k.name) stands (makes-of l ArrayOfTables (with_key p k) (λ e. cc) made)

-- a claim at a position of an array of tables of the document
entry-fits : (earlier : List Claim) (p : Path) (k : SimpleKey) (n : ℕ) (c : Claim) → Stands [] earlier p → Has earlier ArrayOfTables (with_key p k) → c.path ≡ with_position (with_key p k) n
    → (c.info.kind ≡ Assigned → ⊥) → (c.info.kind ≡ Passed → Has earlier TableElement (with_position (with_key p k) n)) → Fits [] earlier c
entry-fits earlier p k n c stands made on plain passed = record {
  above = rw on (above-child (Makes earlier) [] (with_key p k) (position n) (array-stands earlier p k stands made));
  kind = inr (inr (refl, (p, k.name, n, on), plain, λ is. rw on (passed is)));
}

passed-fits : (n : ℕ) (earlier : List Claim) (h : HeaderInfo) (p : Path) (k : SimpleKey) → Stands [] earlier p → HasEntries earlier (with_key p k) n → Fits [] earlier (header_claim h Passed (enter n (with_key p k)) k)
unfolding enter
passed-fits zero earlier h p k stands few = table-fits [] earlier p k.name (header_claim h Passed (with_key p k) k) stands refl (λ e. cc)
passed-fits (suc n) earlier h p k stands few =
    let found = few n (omega arith) in
    entry-fits earlier p k n (header_claim h Passed (with_position (with_key p k) n) k) stands found.0 refl (λ e. cc) (λ e. found.1)

passed-stands : (n : ℕ) (l : List Claim) (p : Path) (k : SimpleKey) → Stands [] l p → HasEntries l (with_key p k) n → Makes l (enter n (with_key p k)) → Stands [] l (enter n (with_key p k))
unfolding enter
passed-stands zero l p k stands few made = along-child (Makes l) [] p (key k.name) stands made
passed-stands (suc n) l p k stands few made = along-child (Makes l) [] (with_key p k) (position n) (array-stands l p k stands (few n (omega arith)).0) made

-- what a header has created at its end, where its section begins
abbrev Ends : Bool → List Claim → Path → ℕ → Type 0
Ends true l p n = Has l ArrayOfTables p × Has l TableElement (with_position p n) × Stands [] l (with_position p n)
Ends false l p n = Stands [] l p

ends-entry : (l : List Claim) (p : Path) (k : SimpleKey) (n : ℕ) → Stands [] l p → Has l ArrayOfTables (with_key p k) → Has l TableElement (with_position (with_key p k) n) → Ends true l (with_key p k) n
ends-entry l p k n stands made entry =
    (made, entry, along-child (Makes l) [] (with_key p k) (position n) (array-stands l p k stands made) (makes-of l TableElement (with_position (with_key p k) n) (λ e. cc) entry))

-- a header's claims fit, and its end is claimed
added : (n : ℕ) (earlier : List Claim) (h : HeaderInfo) (p : Path) (k : SimpleKey) → Stands [] earlier p → HasEntries earlier (with_key p k) n
    → Walk Of (λ l. Ends true l (with_key p k) n) earlier (array_claims h (with_key p k) k n (claimed (header_claim h TableElement (with_position (with_key p k) n) k) no_claims))
added zero earlier h p k stands few =
    let q = with_key p k in
    let a = header_claim h ArrayOfTables q k in
    let c = header_claim h TableElement (with_position q 0) k in
    let found : Has (earlier ++ (a ∷ [])) ArrayOfTables q = (a, in-right a earlier (a ∷ []) (inl refl), refl, refl) in
    record {
      tree = (table-fits [] earlier p k.name a stands refl (λ e. cc), (entry-fits (earlier ++ (a ∷ [])) p k 0 c (stands-on [] earlier (a ∷ []) p stands) found refl (λ e. cc) (λ e. cc), tt));
      all = ends-entry (earlier ++ (a ∷ c ∷ [])) p k 0 (stands-on [] earlier (a ∷ c ∷ []) p stands) (a, in-right a earlier (a ∷ c ∷ []) (inl refl), refl, refl)
          (c, in-right c earlier (a ∷ c ∷ []) (inr (inl refl)), refl, refl);
    }
added (suc n) earlier h p k stands few =
    let q = with_key p k in
    let c = header_claim h TableElement (with_position q (suc n)) k in
    let found = (few n (omega arith)).0 in
    record {
      tree = (entry-fits earlier p k (suc n) c stands found refl (λ e. cc) (λ e. cc), tt);
      all = ends-entry (earlier ++ (c ∷ [])) p k (suc n) (stands-on [] earlier (c ∷ []) p stands) (has-on earlier (c ∷ []) ArrayOfTables q found) (c, in-right c earlier (c ∷ []) (inl refl), refl, refl);
    }

end-header : (n : ℕ) (earlier : List Claim) (h : HeaderInfo) (p : Path) (k : SimpleKey) → Stands [] earlier p → HasEntries earlier (with_key p k) n → Walk Of (λ l. Ends h.array l (with_key p k) n) earlier (end_claims h (with_key p k) k n)
unfolding end_claims
end-header n earlier h p k stands few = elim (cases_Bool h.array) [
  | inl arr ↦ rw arr (added n earlier h p k stands few)
  | inr tab ↦
      let c = header_claim h StandardTable (with_key p k) k in
      let on : Stands [] (earlier ++ (c ∷ [])) (with_key p k) = along-child (Makes (earlier ++ (c ∷ []))) [] p (key k.name) (stands-on [] earlier (c ∷ []) p stands) (last-makes earlier c (λ e. cc)) in
      rw tab (record { tree = (table-fits [] earlier p k.name c stands refl (λ e. cc), tt); all = on })
]

-- at each path as many entries as are counted
abbrev Counted : List Claim → (Path → ℕ) → Type 0
Counted l e = (p : Path) → HasEntries l p (e p)

header-scoped : (e : Path → ℕ) (earlier : List Claim) (h : HeaderInfo) (p : Path) (k : SimpleKey) (parts : List SimpleKey) → Stands [] earlier p → Counted earlier e
    → Walk Of (λ l. Ends h.array l (target e p (k ∷ parts)) (e (target e p (k ∷ parts)))) earlier (header_claims e h p (k ∷ parts))
unfolding header_claims target
header-scoped e earlier h p k [] stands counted = end-header (e (with_key p k)) earlier h p k stands (counted (with_key p k))
header-scoped e earlier h p k (l ∷ more) stands counted =
    let n = e (with_key p k) in
    let q = enter n (with_key p k) in
    let c = header_claim h Passed q k in
    let on = earlier ++ (c ∷ []) in
    walk-claimed Of (λ xs. Ends h.array xs (target e q (l ∷ more)) (e (target e q (l ∷ more)))) earlier c (header_claims e h q (l ∷ more))
    (λ rest. (passed-fits n earlier h p k stands (counted (with_key p k)), scoped-loose [] on (Some c) (header_claims e h q (l ∷ more)) rest))
    (header-scoped e on h q l more
    (passed-stands n on p k (stands-on [] earlier (c ∷ []) p stands) (entries-on earlier (c ∷ []) (with_key p k) n (counted (with_key p k))) (last-makes earlier c (λ e. cc)))
    (λ r. entries-on earlier (c ∷ []) r (e r) (counted r)))

-- ---- sections

end-stands : (array : Bool) (l : List Claim) (p : Path) (n : ℕ) → Ends array l p n → Stands [] l (if array then with_position p n else p)
end-stands true l p n h = h.2
end-stands false l p n h = h

one-more : (l : List Claim) (p : Path) (n : ℕ) → HasEntries l p n → Has l ArrayOfTables p → Has l TableElement (with_position p n) → HasEntries l p (suc n)
one-more l p n h made entry m few = elim (cases_lt m n) [
  | inl before ↦ h m before
  | inr last ↦ let same : m ≡ n = omega (arith, few, last) in (made, subst (λ i. Has l TableElement (with_position p i)) (sym same) entry)
]

counted-array : (l : List Claim) (before : List Path) (t : Path) → Counted l (elements_added before) → Ends true l t (elements_added before t) → Counted l (elements_added (t ∷ before))
counted-array l before t counted ends p = elim (cases_Bool (same_path t p)) [
  | inl here ↦
      let same = same_path-eq t p here in
      rw here (one-more l p (elements_added before p) (counted p) (subst (λ q. Has l ArrayOfTables q) same ends.0) (subst (λ q. Has l TableElement (with_position q (elements_added before q))) same ends.1))
  | inr off ↦ rw off (counted p)
]

counted-on : (l more : List Claim) (e : Path → ℕ) → Counted l e → Counted (l ++ more) e
counted-on l more e h p = entries-on l more p (e p) (h p)

counted-end : (array : Bool) (l : List Claim) (before : List Path) (t : Path) → Counted l (elements_added before) → Ends array l t (elements_added before t) → Counted l (elements_added (if array then t ∷ before else before))
counted-end true l before t counted ends = counted-array l before t counted ends
counted-end false l before t counted ends = counted

-- what the header of a section opens
abbrev Opened : ParsedSection → List ParsedSection → List Claim → Type 0
Opened b sections l = Stands [] l (section_path (elements_added (opened_by sections)) b) × Counted l (elements_added (opened_by (b ∷ sections)))

opened : (earlier : List Claim) (b : ParsedSection) (sections : List ParsedSection) (parts : List SimpleKey) → b.header ≡ parts → (b.header ≡ [] → b.array ≡ false) → Counted earlier (elements_added (opened_by sections))
    → Walk Of (Opened b sections) earlier (header_claims (elements_added (opened_by sections)) (header_info b) [] b.header)
unfolding header_claims target opened_by
opened earlier b sections [] is headers counted =
    record { tree = rw is tt; all = rw (is, headers is) (along-base (Makes (earlier ++ [])) [], counted-on earlier [] (elements_added (opened_by sections)) counted) }
opened earlier b sections (k ∷ parts) is headers counted =
    let e = elements_added (opened_by sections) in
    let t = target e [] (k ∷ parts) in
    let made = header-scoped e earlier (header_info b) [] k parts (along-base (Makes earlier) []) counted in
    let l = earlier ++ own (header_claims e (header_info b) [] (k ∷ parts)) in
    record {
      tree = rw is made.tree;
      all = rw is (
        end-stands b.array l t (e t) made.all,
        counted-end b.array l (opened_by sections) t (counted-on earlier (own (header_claims e (header_info b) [] (k ∷ parts))) e counted) made.all,
      );
    }

-- the claims of a section fit, and its entries are counted
section-scoped : (earlier : List Claim) (b : ParsedSection) (sections : List ParsedSection) → (b.header ≡ [] → b.array ≡ false) → Counted earlier (elements_added (opened_by sections))
    → Walk Of (λ l. Counted l (elements_added (opened_by (b ∷ sections)))) earlier (section_claims (elements_added (opened_by sections)) b)
unfolding section_claims
section-scoped earlier b sections headers counted =
    let e = elements_added (opened_by sections) in
    let front = header_claims e (header_info b) [] b.header in
    let beyond = assignments_claims b.assignments (section_path e b) in
    let after = elements_added (opened_by (b ∷ sections)) in
    walk-followed Of (Opened b sections) (λ l. Counted l after) (λ l. scoped-followed [] l None) earlier front beyond (opened earlier b sections b.header refl headers counted) (λ (stands, made).
    record { tree = assignments-scoped b.assignments [] (earlier ++ own front) (section_path e b) stands; all = counted-on (earlier ++ own front) (own beyond) after made })

after-scoped : (earlier : List Claim) (sections bs : List ParsedSection) → AreSections bs → Counted earlier (elements_added (opened_by sections)) → Scoped [] earlier None (claims_after sections bs)
unfolding claims_after
after-scoped earlier sections [] headers counted = tt
after-scoped earlier sections (b ∷ bs) headers counted =
    let front = section_claims (elements_added (opened_by sections)) b in
    let here = section-scoped earlier b sections headers.0 counted in
    scoped-followed [] earlier None front (claims_after (b ∷ sections) bs) here.tree
    (after-scoped (earlier ++ own front) (b ∷ sections) bs headers.1 here.all)

pub document-scoped : (bs : List ParsedSection) → AreSections bs → Scoped [] [] None (claims bs)
unfolding opened_by
document-scoped bs headers = after-scoped [] [] bs headers (λ p m few. absurd (omega (arith, few)))
