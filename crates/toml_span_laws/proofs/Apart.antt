-- No two keys of a document start at the same offset.
use Rattle.toml_span_lex.proofs.Common.{◌≡◌, ℕ, ◌<◌, ◌⊎◌, List, [], ◌∷◌, ◌++◌, Option, Some, length, arith, refl, sym, ap, ◌∙◌, inl, inr, ⊤, option_and_then, none-some, option_and_then_some, nat_tests, common_steps}
use Rattle.toml_span_lex.specs.declared.span.Span.{Span}
use Rattle.toml_span_tree.specs.Path.{Path, key, Place, place_at}
use Rattle.toml_span_tree.specs.Value.{view}
use Rattle.toml_span_tree.specs.declared.value.Value.{Value}
use Rattle.toml_span_read.proofs.ReadSound.{document_sound}
use Rattle.toml_span_read.specs.Data.{ParsedSection}
use Rattle.toml_span_read.specs.Grammar.{SpellsDocument}
use Rattle.toml_span.specs.declared.claims.ClaimKind.TheVariants.{TableElement}
use Rattle.toml_span.specs.Claims.{Claim, Claims, no_claims, claimed, scope, claims}
use Rattle.toml_span.specs.Flat.{all_claims, flat}
use Rattle.toml_span_laws.specs.Clashing.{IsIn}
use Rattle.toml_span_laws.specs.Order.{claim_start, key_at, KeysApart}
use Rattle.toml_span.specs.Parsing.{IsTree}
use Rattle.toml_span.proofs.EachClaim.{Each, flat-decides}
use Rattle.toml_span_laws.proofs.Order.{IsKeyed, Onward, Rising, document-rises}

-- ---- claims of a list

pub in-left : (c : Claim) (xs ys : List Claim) → IsIn c xs → IsIn c (xs ++ ys)
in-left c [] ys h = absurd h
in-left c (x ∷ xs) ys h = grind (arith, nat_tests, common_steps, in-left c xs)

pub in-right : (c : Claim) (xs ys : List Claim) → IsIn c ys → IsIn c (xs ++ ys)
in-right c [] ys h = h
in-right c (x ∷ xs) ys h = inr (in-right c xs ys h)

pub in-cases : (c : Claim) (xs ys : List Claim) → IsIn c (xs ++ ys) → IsIn c xs ⊎ IsIn c ys
in-cases c [] ys h = inr h
in-cases c (x ∷ xs) ys h = grind (arith, nat_tests, common_steps, in-cases c xs)

-- R holds for each claim and each one after it
abbrev pub Pairs : (Claim → Claim → Type 0) → List Claim → Type 0
Pairs R [] = ⊤
Pairs R (c ∷ cs) = ((d : Claim) → IsIn d cs → R c d) × Pairs R cs

abbrev pub Across : (Claim → Claim → Type 0) → List Claim → List Claim → Type 0
Across R xs ys = (c d : Claim) → IsIn c xs → IsIn d ys → R c d

pub pairs-split : (R : Claim → Claim → Type 0) (xs ys : List Claim) → Pairs R (xs ++ ys) → Pairs R xs × Pairs R ys × Across R xs ys
pairs-split R [] ys r = (tt, r, λ c d h g. absurd h)
pairs-split R (x ∷ xs) ys r = grind (arith, nat_tests, common_steps, pairs-split R xs ys r.1, in-left, in-right)

pub pairs-join : (R : Claim → Claim → Type 0) (xs ys : List Claim) → Pairs R xs → Pairs R ys → Across R xs ys → Pairs R (xs ++ ys)
pairs-join R [] ys l r across = r
pairs-join R (x ∷ xs) ys l r across =
    (λ d h. elim (in-cases d xs ys h) [ inl left ↦ l.0 d left | inr right ↦ across x d (inl refl) right ], pairs-join R xs ys l.1 r (λ c d h. across c d (inr h)))

-- each claim is in the list that holds all of them
pub each-in : (cs : Claims) (l : List Claim) → ((c : Claim) → IsIn c (all_claims cs) → IsIn c l) → Each (λ c. IsIn c l) cs
unfolding all_claims
each-in no_claims l f = tt
each-in (claimed c cs) l f = (f c (inl refl), each-in cs l (λ d h. f d (inr h)))
each-in (scope inner cs) l f = grind (arith, nat_tests, common_steps, each-in inner, each-in cs, in-left, in-right)

-- ---- claims that ascend

-- the claim starts after the other, or it is that of an entry
abbrev pub IsLater : Claim → Claim → Type 0
IsLater c d = (claim_start c < claim_start d) ⊎ (d.info.kind ≡ TableElement)

onward-later : (c d : Claim) (ds : List Claim) (j : ℕ) → Onward c ds j → IsIn d ds → IsLater c d
onward-later c d [] j h i = absurd i
onward-later c d (e ∷ ds) j h g = grind (arith, nat_tests, common_steps, onward-later e d ds)

onward-rest : (c : Claim) (ds : List Claim) (j : ℕ) → Onward c ds j → Rising ds (claim_start c) j
onward-rest c ds j h = grind (arith, nat_tests, common_steps)

pub rising-later : (cs : List Claim) (i j : ℕ) → Rising cs i j → Pairs IsLater cs
rising-later [] i j r = tt
rising-later (c ∷ cs) i j r = (λ d h. onward-later c d cs j r.1 h, rising-later cs (claim_start c) j (onward-rest c cs j r.1))

onward-keyed : (c : Claim) (ds : List Claim) (j : ℕ) → Onward c ds j → IsKeyed c
onward-keyed c [] j h = h.0
onward-keyed c (d ∷ ds) j h = h.0

rising-keyed : (c : Claim) (l : List Claim) (i j : ℕ) → Rising l i j → IsIn c l → IsKeyed c
rising-keyed c [] i j r h = absurd h
rising-keyed c (d ∷ ds) i j r (inl same) = rw same (onward-keyed d ds j r.1)
rising-keyed c (d ∷ ds) i j r (inr later) = rising-keyed c ds (claim_start d) j (onward-rest d ds j r.1) later

pub strictly : (c d : Claim) → IsLater c d → (d.info.kind ≡ TableElement → ⊥) → claim_start c < claim_start d
strictly c d h plain = grind (arith, nat_tests, common_steps)

-- two claims that start at the same offset are the same, if neither is that of an entry
one-claim : (c d : Claim) (l : List Claim) → Pairs IsLater l → IsIn c l → IsIn d l → (c.info.kind ≡ TableElement → ⊥) → (d.info.kind ≡ TableElement → ⊥) → claim_start c ≡ claim_start d → c ≡ d
one-claim c d [] r h g f e at = absurd h
one-claim c d (x ∷ xs) r h g f e at = grind (arith, nat_tests, common_steps, one-claim c d xs)

-- ---- keys

-- the claim in the list that determines the span of the key at a path
record ClaimAt (l : List Claim) (p : Path) (k : Span) : Type 0 where
  claim : Claim
  on : claim.path ≡ p
  among : IsIn claim l
  spanned : claim.place.key_span ≡ Some k

key-claimed : (n : ℕ) (cs : Claims) (p : Path) (k : Span) → key_at (flat n cs) p ≡ Some k → ClaimAt (all_claims cs) p k
unfolding flat
key-claimed n cs [] k h = absurd (none-some k h)
key-claimed n cs (s ∷ p) k h =
    option_and_then_some (λ x. x.key_span) (flat n cs (s ∷ p)) k h (λ x is spanned.
    let d = flat-decides (λ c. IsIn c (all_claims cs)) n cs s p x (each-in cs (all_claims cs) (λ c i. i)) is in
    record { claim = d.claim; on = d.on; among = d.holds; spanned = ap (λ y. y.key_span) d.place ∙ spanned })

one-key : (l : List Claim) (i j : ℕ) (p q : Path) (k m : Span) → Rising l i j → ClaimAt l p k → ClaimAt l q m → k.start ≡ m.start → p ≡ q
one-key l i j p q k m r a b e = grind (arith, nat_tests, common_steps, one-claim, rising-keyed, rising-later)

pub flat-apart : (text : List ℕ) (limit n : ℕ) (bs : List ParsedSection) → SpellsDocument bs text limit → KeysApart (flat n (claims bs))
flat-apart text limit n bs h p q k l is at e =
    one-key (all_claims (claims bs)) 0 (length text) p q k l (document-rises bs text limit h) (key-claimed n (claims bs) p k is) (key-claimed n (claims bs) q l at) e

pub tree-apart : (text : List ℕ) (limit : ℕ) (root : Value) → IsTree text limit root → KeysApart (λ p. place_at p (view root))
tree-apart text limit root h p q k l is at e =
    let (bs, has, tree) = h in
    let spanned = λ (o : Option Place). option_and_then (λ x. x.key_span) o in
    flat-apart text limit (length text) bs (document_sound bs text limit has.0) p q k l (ap spanned (sym (tree.shows p)) ∙ is) (ap spanned (sym (tree.shows q)) ∙ at) e

-- ---- in one table

same-name : (p : Path) (a b : List ℕ) → p ++ (key a ∷ []) ≡ p ++ (key b ∷ []) → a ≡ b
same-name p a b h = grind (arith, nat_tests, common_steps)

pub names-apart : (text : List ℕ) (limit n : ℕ) (bs : List ParsedSection) (p : Path) (a b : List ℕ) (k l : Span) → SpellsDocument bs text limit
    → key_at (flat n (claims bs)) (p ++ (key a ∷ [])) ≡ Some k → key_at (flat n (claims bs)) (p ++ (key b ∷ [])) ≡ Some l → (a ≡ b → ⊥) → k.start ≡ l.start → ⊥
names-apart text limit n bs p a b k l h is at other same = other (same-name p a b (flat-apart text limit n bs h (p ++ (key a ∷ [])) (p ++ (key b ∷ [])) k l is at same))
