-- If no two claims clash, those on the same path belong to the same scope. At a position, a header that passes through
-- never decides.
use Rattle.toml_span_lex.proofs.Common.{◌≡◌, ◌⊎◌, ℕ, true, List, [], ◌∷◌, ◌++◌, Option, Some, None, refl, sym, ap, ◌∙◌, subst, inl, inr, ⊤, none-some, arith, nat_tests, common_steps, append_assoc, append-nil, find, slice_get}
use Rattle.toml_span_tree.specs.Path.{Path, position}
use Rattle.toml_span_read.specs.Data.{ParsedSection}
use Rattle.toml_span_read.specs.Grammar.{SpellsDocument}
use Rattle.toml_span.specs.declared.claims.ClaimKind.TheVariants.{Passed, TableElement, Assigned}
use Rattle.toml_span.specs.Claims.{Claim, Claims, no_claims, claimed, scope, claims}
use Rattle.toml_span.specs.Flat.{by_header, all_claims, deciding_claim}
use Rattle.toml_span_read.specs.Paths.{same_path}
use Rattle.toml_span_read.proofs.PathLemmas.{same_path-eq, same_step-self}
use Rattle.toml_span.proofs.EachClaim.{claims_at}
use Rattle.toml_span.proofs.Refusals.{spelled-headed}
use Rattle.toml_span_laws.proofs.Apart.{in-cases, Pairs, in-left, in-right, pairs-join, pairs-split}
use Rattle.toml_span_laws.proofs.FirstClash.{cases_option, IsFree, AreFree, are-free}
use Rattle.toml_span_laws.proofs.Scoped.{Has, Scoped, document-scoped, passed-entered, Fits, IsFrom, IsUnder, entry-value, fits-on, from-cases, from-under, on-one-way, under-from}
use Rattle.toml_span.specs.declared.claims.ClashKind.{ClashKind}
use Rattle.toml_span.specs.declared.claims.ClashKind.TheVariants.{DuplicateKey}
use Rattle.toml_span.specs.declared.claims.ClaimKind.{ClaimKind}
use Rattle.toml_span.specs.Clashes.{clash_kind, clash_info, clash, Resolves}
use Rattle.toml_span.specs.code.ClaimInfos.{with_name}
use Rattle.toml_span_laws.specs.Clashing.{IsIn, DoClash, own, ShareScope}
use Rattle.toml_span_laws.proofs.FirstPair.{free-clash}

pub path-self : (p : Path) → same_path p p ≡ true
unfolding same_path
path-self [] = refl
path-self (s ∷ p) = rw (same_step-self s, path-self p)

-- ---- headers that pass through

-- Among these claims on the path, a header passes through only if S holds, or after an entry.
abbrev Entered : Path → Type 0 → List Claim → Type 0
Entered q S [] = ⊤
Entered q S (c ∷ cs) = (c.info.kind ≡ Passed → c.path ≡ q → S) × Entered q (S ⊎ ((c.info.kind ≡ TableElement) × (c.path ≡ q))) cs

entered-more : (q : Path) (S T : Type 0) (l : List Claim) → (S → T) → Entered q S l → Entered q T l
entered-more q S T [] f h = tt
entered-more q S T (c ∷ l) f h =
    grind (arith, nat_tests, common_steps, entered-more q (S ⊎ ((c.info.kind ≡ TableElement) × (c.path ≡ q))) (T ⊎ ((c.info.kind ≡ TableElement) × (c.path ≡ q))) l)

entered-append : (q : Path) (S : Type 0) (xs ys : List Claim) → Entered q S xs → Entered q S ys → Entered q S (xs ++ ys)
entered-append q S [] ys h g = g
entered-append q S (c ∷ xs) ys h g =
    let T = S ⊎ ((c.info.kind ≡ TableElement) × (c.path ≡ q)) in
    (h.0, entered-append q T xs ys h.1 (entered-more q S T ys (λ s. inl s) g))

scoped-entered : (p : Path) (n : ℕ) (S : Type 0) (base : Path) (earlier : List Claim) (last : Option Claim) (cs : Claims) → Scoped base earlier last cs
    → (Has earlier TableElement (p ++ (position n ∷ [])) → S) → Entered (p ++ (position n ∷ [])) S (all_claims cs)
unfolding all_claims
scoped-entered p n S base earlier last no_claims scoped f = tt
scoped-entered p n S base earlier last (claimed c cs) scoped f = (
  λ is on. f (subst (Has earlier TableElement) on (passed-entered base earlier c p n scoped.0 is on)),
  scoped-entered p n (S ⊎ ((c.info.kind ≡ TableElement) × (c.path ≡ p ++ (position n ∷ [])))) base (earlier ++ (c ∷ [])) (Some c) cs scoped.1
      (λ (e, here, is, on). grind (arith, nat_tests, common_steps, in-cases e earlier (c ∷ []) here)),
)
scoped-entered p n S base earlier None (scope inner cs) scoped f = absurd scoped
scoped-entered p n S base earlier (Some a) (scope inner cs) scoped f =
    grind (arith, nat_tests, common_steps, scoped-entered p n S a.path [] None inner, scoped-entered p n S base earlier None cs, entered-append)

-- the first header does not pass through
first-passes : (q : Path) (S : Type 0) (l : List Claim) (c : Claim) → Entered q S l → find (λ c. by_header c.info.kind) (claims_at q l) ≡ Some c → c.info.kind ≡ Passed → S
first-passes q S [] c h is passed = absurd (none-some c is)
first-passes q S (x ∷ l) c h is passed =
    let T = S ⊎ ((x.info.kind ≡ TableElement) × (x.path ≡ q)) in
    grind (arith, nat_tests, common_steps, path-self q, same_path-eq x.path q, first-passes q T l c h.1)

first-plain : (l : List Claim) → find (λ c. by_header c.info.kind) l ≡ None → (c : Claim) → slice_get l 0 ≡ Some c → c.info.kind ≡ Passed → ⊥
first-plain [] none c is passed = absurd cc
first-plain (x ∷ xs) none c is passed = grind (arith, nat_tests, common_steps)

pub no-passage : (text : List ℕ) (limit : ℕ) (bs : List ParsedSection) (p : Path) (n : ℕ) (c : Claim) → SpellsDocument bs text limit → deciding_claim (claims_at (p ++ (position n ∷ [])) (all_claims (claims bs))) ≡ Some c
    → c.info.kind ≡ Passed → ⊥
no-passage text limit bs p n c h is passed =
    let q = p ++ (position n ∷ []) in
    let l = all_claims (claims bs) in
    elim (cases_option (find (λ c. by_header c.info.kind) (claims_at q l))) [
      | inl none ↦ first-plain (claims_at q l) none c (rw none at is) passed
      | inr (d, found) ↦
          let entered = scoped-entered p n ⊥ [] [] None (claims bs) (document-scoped bs (spelled-headed bs text limit h)) (λ has. has.1) in
          first-passes q ⊥ l c entered (found ∙ (rw found at is)) passed
    ]

-- ---- claims that clash

pub do-clash : (c d : Claim) (b : ClashKind) → c.path ≡ d.path → clash_kind c.info.kind d.info.kind ≡ Some b → DoClash c d
unfolding clash
do-clash c d b same is = (with_name d.name (clash_info c.info d.info b), rw (same, path-self d.path, is) refl)

-- a value and any other claim on the same path clash, whichever comes first, except for an entry
value-clashes : (s : ClaimKind) → (s ≡ TableElement) ⊎ ((clash_kind Assigned s ≡ Some DuplicateKey) × (clash_kind s Assigned ≡ Some DuplicateKey))
value-clashes s = grind (arith, nat_tests, common_steps)

-- ---- lists of claims of which none clashes with a later one

abbrev pub Peaceful : List Claim → Type 0
Peaceful l = Pairs (λ c d. DoClash c d → ⊥) l

pub peaceful-push : (l : List Claim) (c : Claim) → Peaceful l → IsFree l c → Peaceful (l ++ (c ∷ []))
peaceful-push l c h free = grind (arith, nat_tests, common_steps, free-clash, pairs-join)

pub peaceful-across : (xs ys : List Claim) (c d : Claim) → Peaceful (xs ++ ys) → IsIn c xs → IsIn d ys → DoClash c d → ⊥
peaceful-across xs ys c d h = (pairs-split (λ x y. DoClash x y → ⊥) xs ys h).2 c d

-- one of the two is before the other in the list
abbrev pub Two : List Claim → Claim → Claim → Type 0
Two l c d = (xs ys : List Claim) × (l ≡ xs ++ ys) × ((IsIn c xs × IsIn d ys) ⊎ (IsIn d xs × IsIn c ys))

pub two-of : (l : List Claim) (c d : Claim) → IsIn c l → IsIn d l → (c.info.kind ≡ d.info.kind → ⊥) → Two l c d
two-of [] c d a b differ = absurd a
two-of (x ∷ l) c d (inl same) (inl other) differ = absurd (differ (ap (λ y. y.info.kind) (same ∙ sym other)))
two-of (x ∷ l) c d (inl same) (inr more) differ = (x ∷ [], l, refl, inl (inl same, more))
two-of (x ∷ l) c d (inr more) (inl other) differ = (x ∷ [], l, refl, inr (inl other, more))
two-of (x ∷ l) c d (inr more) (inr also) differ =
    let (xs, ys, is, h) = two-of l c d more also differ in
    (x ∷ xs, ys, ap (λ k. x ∷ k) is, elim h [ inl (a, b) ↦ inl (inr a, b) | inr (a, b) ↦ inr (inr a, b) ])

two-in : (l : List Claim) (c d : Claim) → Two l c d → IsIn c l × IsIn d l
two-in l c d h = grind (arith, nat_tests, common_steps, in-left, in-right)

-- two claims that clash in either order are not both in the list
pub peaceful-two : (l : List Claim) (c d : Claim) → Peaceful l → Two l c d → DoClash c d → DoClash d c → ⊥
peaceful-two l c d h g first last = grind (arith, nat_tests, common_steps, peaceful-across)

-- ---- on the path of a value, and below it, there is nothing else of its scope

-- each claim of the list fits the scope, and does not clash with a later one
abbrev pub Calm : Path → List Claim → Type 0
Calm base l = ((c : Claim) → IsIn c l → Fits base l c) × Peaceful l

-- a value and another claim are not on the same path
value-apart : (base : Path) (l : List Claim) (a e : Claim) → Calm base l → Two l a e → a.info.kind ≡ Assigned → a.path ≡ e.path → ⊥
value-apart base l a e (fit, peace) two value same =
    let (here, there) = two-in l a e two in
    elim (value-clashes e.info.kind) [
      | inl entry ↦ entry-value base l a e (fit a here) (fit e there) value entry same
      | inr (first, last) ↦
          peaceful-two l a e peace two (do-clash a e DuplicateKey same (ap (λ s. clash_kind s e.info.kind) value ∙ first))
          (do-clash e a DuplicateKey (sym same) (ap (clash_kind e.info.kind) value ∙ last))
    ]

-- there is nothing inside a value: the way there would lead through its path
below-none : (base : Path) (l : List Claim) (a c : Claim) → Calm base l → IsIn a l → IsIn c l → a.info.kind ≡ Assigned → IsUnder a.path c.path → ⊥
below-none base l a c calm here there value under =
    let (fit, peace) = calm in
    let (e, among, makes, on) = (fit c there).above.1 a.path (fit a here).above.0 under in
    value-apart base l a e calm (two-of l a e here among (λ s. makes (sym s ∙ value))) value (sym on)

none-from : (base : Path) (l : List Claim) (a e : Claim) → Calm base l → Two l a e → a.info.kind ≡ Assigned → IsFrom a.path e.path → ⊥
none-from base l a e calm two value from =
    grind (arith, nat_tests, common_steps, below-none base l a e calm, from-cases a.path e.path from, two-in l a e two, value-apart base l a e calm two value)

-- two values have nothing in common on their paths or below
both-none : (base : Path) (l : List Claim) (a b : Claim) (q : Path) → Calm base l → Two l a b → a.info.kind ≡ Assigned → b.info.kind ≡ Assigned → IsFrom a.path q → IsFrom b.path q → ⊥
both-none base l a b q calm (xs, ys, is, two) value other (r, under) (u, below) =
    grind (arith, nat_tests, common_steps, none-from base l a b calm (xs, ys, is, two) value, none-from base l b a calm, on-one-way a.path b.path r u (sym under ∙ below))

-- ---- where the claims of a scope inside are

pub scoped-under : (base : Path) (earlier : List Claim) (last : Option Claim) (cs : Claims) (d : Claim) → Scoped base earlier last cs → IsIn d (all_claims cs) → IsUnder base d.path
unfolding all_claims
scoped-under base earlier last no_claims d scoped h = absurd h
scoped-under base earlier last (claimed x cs) d scoped h = grind (arith, nat_tests, common_steps, scoped-under base (earlier ++ (x ∷ [])) (Some x) cs)
scoped-under base earlier None (scope inner cs) d scoped h = absurd scoped
scoped-under base earlier (Some a) (scope inner cs) d scoped h = elim (in-cases d (all_claims inner) (all_claims cs) h) [
  | inl inside ↦ under-from base a.path d.path scoped.1 (from-under a.path d.path (scoped-under a.path [] None inner d scoped.2 inside))
  | inr more ↦ scoped-under base earlier None cs d scoped.3 more
]

-- the last claim, if there is one
abbrev latest : Option Claim → List Claim
latest None = []
latest (Some a) = a ∷ []

-- a claim belongs to the outer scope, or is inside a value: the last one before these claims, or one of them
origin : (base : Path) (earlier : List Claim) (last : Option Claim) (cs : Claims) (d : Claim) → Scoped base earlier last cs → IsIn d (all_claims cs)
    → IsIn d (own cs) ⊎ ((a : Claim) × IsIn a (latest last ++ own cs) × (a.info.kind ≡ Assigned) × IsUnder a.path d.path)
unfolding all_claims
origin base earlier last no_claims d scoped h = absurd h
origin base earlier last (claimed x cs) d scoped (inl same) = inl (inl same)
origin base earlier last (claimed x cs) d scoped (inr more) = grind (arith, nat_tests, common_steps, origin base (earlier ++ (x ∷ [])) (Some x) cs d scoped.1 more)
origin base earlier None (scope inner cs) d scoped h = absurd scoped
origin base earlier (Some a) (scope inner cs) d scoped h = elim (in-cases d (all_claims inner) (all_claims cs) h) [
  | inl inside ↦ inr (a, inl refl, scoped.0, scoped-under a.path [] None inner d scoped.2 inside)
  | inr more ↦ grind (arith, nat_tests, common_steps, origin base earlier None cs d scoped.3 more)
]

-- what is known of the claims of a scope
pub record Scene (base : Path) (earlier : List Claim) (last : Option Claim) (cs : Claims) : Type 0 where
  pub scoped : Scoped base earlier last cs
  pub resolves : AreFree earlier cs
  pub calm : Calm base earlier
  pub met : (a : Claim) → IsIn a (latest last) → IsIn a earlier

pub scene-claimed : (base : Path) (earlier : List Claim) (last : Option Claim) (x : Claim) (cs : Claims) → Scene base earlier last (claimed x cs) → Scene base (earlier ++ (x ∷ [])) (Some x) cs
scene-claimed base earlier last x cs h = record {
  scoped = h.scoped.1;
  resolves = h.resolves.1;
  calm = (
    λ c here. fits-on base earlier (x ∷ []) c (grind (arith, nat_tests, common_steps, in-cases c earlier (x ∷ []) here)),
    peaceful-push earlier x h.calm.1 h.resolves.0,
  );
  met = λ a here. in-right a earlier (x ∷ []) here;
}

pub scene-inside : (base : Path) (earlier : List Claim) (a : Claim) (inner cs : Claims) → Scene base earlier (Some a) (scope inner cs) → Scene a.path [] None inner
scene-inside base earlier a inner cs h = record { scoped = h.scoped.2; resolves = h.resolves.0; calm = (λ c here. absurd here, tt); met = λ c here. here }

pub scene-after : (base : Path) (earlier : List Claim) (a : Claim) (inner cs : Claims) → Scene base earlier (Some a) (scope inner cs) → Scene base earlier None cs
scene-after base earlier a inner cs h = record { scoped = h.scoped.3; resolves = h.resolves.1; calm = h.calm; met = λ c none. absurd none }

all-calm : (base : Path) (earlier : List Claim) (last : Option Claim) (cs : Claims) → Scene base earlier last cs → Calm base (earlier ++ own cs)
all-calm base earlier last no_claims h = subst (Calm base) (sym (append-nil earlier)) h.calm
all-calm base earlier last (claimed c cs) h =
    subst (Calm base) (append_assoc earlier (c ∷ []) (own cs)) (all-calm base (earlier ++ (c ∷ [])) (Some c) cs (scene-claimed base earlier last c cs h))
all-calm base earlier None (scope inner cs) h = absurd h.scoped
all-calm base earlier (Some a) (scope inner cs) h = all-calm base earlier None cs (scene-after base earlier a inner cs h)

-- ---- what is next to a value

-- after the scope of a value there is nothing on its path or below it
pub outside : (base : Path) (earlier : List Claim) (a : Claim) (inner cs : Claims) (d : Claim) → Scene base earlier (Some a) (scope inner cs) → IsIn d (all_claims cs) → IsFrom a.path d.path → ⊥
outside base earlier a inner cs d h more from =
    let calm = all-calm base earlier None cs (scene-after base earlier a inner cs h) in
    let here = h.met a (inl refl) in
    elim (origin base earlier None cs d h.scoped.3 more) [
      | inl beyond ↦ none-from base (earlier ++ own cs) a d calm (earlier, own cs, refl, inl (here, beyond)) h.scoped.0 from
      | inr (b, beyond, other, under) ↦ both-none base (earlier ++ own cs) a b d.path calm (earlier, own cs, refl, inl (here, beyond)) h.scoped.0 other from (from-under b.path d.path under)
    ]

-- a claim inside a value is neither on the path of a later value nor below it
pub scope-before : (base : Path) (earlier : List Claim) (a : Claim) (inner cs : Claims) (c d : Claim) → Scene base earlier (Some a) (scope inner cs) → IsIn c (all_claims cs) → IsIn d (all_claims inner)
    → c.info.kind ≡ Assigned → IsFrom c.path d.path → ⊥
scope-before base earlier a inner cs c d h more inside value from =
    let under = scoped-under a.path [] None inner d h.scoped.2 inside in
    let none = λ (b : Claim) (beyond : IsIn b (own cs)) (other : b.info.kind ≡ Assigned) (below : IsFrom b.path d.path).
    both-none base (earlier ++ own cs) a b d.path (all-calm base earlier None cs (scene-after base earlier a inner cs h)) (earlier, own cs, refl, inl (h.met a (inl refl), beyond)) h.scoped.0 other
    (from-under a.path d.path under) below in
    elim (origin base earlier None cs c h.scoped.3 more) [
      | inl beyond ↦ none c beyond value from
      | inr (b, beyond, other, above) ↦ none b beyond other (from-under b.path d.path (under-from b.path c.path d.path above from))
    ]

-- a claim of the scope is not inside a value after it
beside : (base : Path) (earlier : List Claim) (last : Option Claim) (x : Claim) (cs : Claims) (d : Claim) → Scene base earlier last (claimed x cs) → IsIn d (all_claims cs) → IsFrom d.path x.path → IsIn d (own cs)
beside base earlier last x cs d h more from = elim (origin base (earlier ++ (x ∷ [])) (Some x) cs d h.scoped.1 more) [
  | inl here ↦ here
  | inr (a, near, value, under) ↦
      absurd (below-none base (earlier ++ (x ∷ own cs)) a x (all-calm base earlier last (claimed x cs) h) (in-right a earlier (x ∷ own cs) near) (in-right x earlier (x ∷ own cs) (inl refl)) value
      (under-from a.path d.path x.path under from))
]

-- it is neither on the path of a later value nor below it
pub claim-before : (base : Path) (earlier : List Claim) (last : Option Claim) (x : Claim) (cs : Claims) (c : Claim) → Scene base earlier last (claimed x cs) → IsIn c (all_claims cs) → c.info.kind ≡ Assigned
    → IsFrom c.path x.path → ⊥
claim-before base earlier last x cs c h more value from =
    none-from base (earlier ++ (x ∷ own cs)) c x (all-calm base earlier last (claimed x cs) h)
    (earlier ++ (x ∷ []), own cs, sym (append_assoc earlier (x ∷ []) (own cs)), inr (in-right x earlier (x ∷ []) (inl refl), beside base earlier last x cs c h more from)) value from

-- ---- two claims on the same path

-- a claim inside a value, and one after it, are not on the same path
across : (base : Path) (earlier : List Claim) (a : Claim) (inner cs : Claims) (c d : Claim) → Scene base earlier (Some a) (scope inner cs) → IsIn c (all_claims inner) → IsIn d (all_claims cs) → c.path ≡ d.path → ⊥
across base earlier a inner cs c d h inside more same =
    outside base earlier a inner cs d h more (subst (IsFrom a.path) same (from-under a.path c.path (scoped-under a.path [] None inner c h.scoped.2 inside)))

on-path : (c x : Claim) → c.path ≡ x.path → IsFrom c.path x.path
on-path c x same = ([], sym same ∙ sym (append-nil c.path))

together : (base : Path) (earlier : List Claim) (last : Option Claim) (cs : Claims) (c d : Claim) → Scene base earlier last cs → IsIn c (all_claims cs) → IsIn d (all_claims cs) → c.path ≡ d.path → ShareScope cs c d
unfolding all_claims
together base earlier last no_claims c d h a b same = absurd a
together base earlier last (claimed x cs) c d h (inl is) (inl on) same = inl (inl is, inl on)
together base earlier last (claimed x cs) c d h (inl is) (inr more) same = inl (inl is, inr (beside base earlier last x cs d h more (on-path d x (sym same ∙ ap (λ y. y.path) is))))
together base earlier last (claimed x cs) c d h (inr more) (inl is) same = inl (inr (beside base earlier last x cs c h more (on-path c x (same ∙ ap (λ y. y.path) is))), inl is)
together base earlier last (claimed x cs) c d h (inr more) (inr also) same =
    grind (arith, nat_tests, common_steps, together base (earlier ++ (x ∷ [])) (Some x) cs c d (scene-claimed base earlier last x cs h) more also same)
together base earlier None (scope inner cs) c d h a b same = absurd h.scoped
together base earlier (Some x) (scope inner cs) c d h a b same =
    elim (in-cases c (all_claims inner) (all_claims cs) a) [
      | inl inside ↦ elim (in-cases d (all_claims inner) (all_claims cs) b) [
        | inl also ↦ inr (elim (together x.path [] None inner c d (scene-inside base earlier x inner cs h) inside also same) [ inl both ↦ inl both | inr deeper ↦ inr (inl deeper) ])
        | inr more ↦ absurd (across base earlier x inner cs c d h inside more same)
      ]
      | inr more ↦ elim (in-cases d (all_claims inner) (all_claims cs) b) [
        | inl inside ↦ absurd (across base earlier x inner cs d c h inside more (sym same))
        | inr also ↦ elim (together base earlier None cs c d (scene-after base earlier x inner cs h) more also same) [ inl both ↦ inl both | inr deeper ↦ inr (inr (inr deeper)) ]
      ]
    ]

pub document-scene : (text : List ℕ) (limit : ℕ) (bs : List ParsedSection) → SpellsDocument bs text limit → Resolves (claims bs) → Scene [] [] None (claims bs)
document-scene text limit bs h ok =
    grind (arith, nat_tests, common_steps, are-free [] (claims bs) ok, document-scoped bs (spelled-headed bs text limit h), spelled-headed bs text limit h)

pub one-scope : (text : List ℕ) (limit : ℕ) (bs : List ParsedSection) (c d : Claim) → SpellsDocument bs text limit → Resolves (claims bs) → IsIn c (all_claims (claims bs)) → IsIn d (all_claims (claims bs)) → c.path ≡ d.path
    → ShareScope (claims bs) c d
one-scope text limit bs c d h ok a b same = together [] [] None (claims bs) c d (document-scene text limit bs h ok) a b same
