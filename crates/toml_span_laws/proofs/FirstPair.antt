-- The clash that is reported is the first one by the offsets of the keys.
use Rattle.toml_span_lex.proofs.Common.{◌≡◌, ℕ, ◌<◌, ◌⊎◌, List, [], ◌∷◌, ◌++◌, Some, length, arith, refl, sym, ap, ◌∙◌, append_assoc, inl, inr, none-some, nat_tests, common_steps}
use Rattle.toml_span_read.specs.Data.{ParsedSection}
use Rattle.toml_span_read.specs.Grammar.{SpellsDocument}
use Rattle.toml_span.specs.declared.claims.ClashKind.{ClashKind}
use Rattle.toml_span.specs.declared.claims.ClaimKind.TheVariants.{TableElement}
use Rattle.toml_span.specs.Claims.{Claim, Claims, no_claims, claimed, scope, claims}
use Rattle.toml_span.specs.Clashes.{NamedClash, clash_kind, clash, clash_among, clash_after, first_clash}
use Rattle.toml_span.specs.Flat.{all_claims}
use Rattle.toml_span_read.proofs.PathLemmas.{same_path-eq}
use Rattle.toml_span_laws.specs.Clashing.{IsIn, DoClash, IsPair, IsFirstPair}
use Rattle.toml_span_laws.specs.Order.{claim_start}
use Rattle.toml_span_laws.proofs.Apart.{IsLater, Pairs, in-left, in-right, pairs-join, pairs-split, rising-later, strictly}
use Rattle.toml_span_laws.proofs.FirstClash.{IsFree, AreFree, cases_option, are-free, mapped}
use Rattle.toml_span_laws.proofs.Order.{document-rises}

-- ---- claims that clash are not those of entries

-- two claims that clash are on the same path, and their kinds clash
pub clash-blames : (c d : Claim) → DoClash c d → (c.path ≡ d.path) × ((b : ClashKind) × (clash_kind c.info.kind d.info.kind ≡ Some b))
unfolding clash
clash-blames c d (t, h) = grind (arith, nat_tests, common_steps, mapped, same_path-eq)

pub later-plain : (c d : Claim) → DoClash c d → d.info.kind ≡ TableElement → ⊥
later-plain c d h is = let (same, (b, blames)) = clash-blames c d h in none-some b (sym (grind (arith, nat_tests, common_steps)) ∙ sym (ap (clash_kind c.info.kind) is) ∙ blames)

earlier-plain : (c d : Claim) → DoClash c d → c.info.kind ≡ TableElement → ⊥
earlier-plain c d h is = let (same, (b, blames)) = clash-blames c d h in none-some b (ap (λ s. clash_kind s d.info.kind) (sym is) ∙ blames)

-- ---- pairs

pub pair-is : (earlier : List Claim) (cs : Claims) (c d : Claim) → IsPair earlier cs c d → IsIn d (all_claims cs) × DoClash c d
unfolding all_claims
pair-is earlier no_claims c d h = absurd h
pair-is earlier (claimed x cs) c d h = grind (arith, nat_tests, common_steps, pair-is (earlier ++ (x ∷ [])) cs)
pair-is earlier (scope inner cs) c d h = grind (arith, nat_tests, common_steps, pair-is [] inner, pair-is earlier cs, in-left, in-right)

-- a pair after a claim
pub pair-late : (earlier : List Claim) (cs : Claims) (x c d : Claim) → ((e : Claim) → IsIn e (all_claims cs) → IsLater x e) → IsPair earlier cs c d → claim_start x < claim_start d
pair-late earlier cs x c d beyond h = let (among, clashes) = pair-is earlier cs c d h in strictly x d (beyond d among) (later-plain c d clashes)

pub free-clash : (earlier : List Claim) (c d : Claim) → IsFree earlier d → IsIn c earlier → DoClash c d → ⊥
unfolding clash_among
free-clash [] c d free h clashes = absurd h
free-clash (x ∷ earlier) c d free h g = grind (arith, nat_tests, common_steps, free-clash earlier)

pub free-of : (earlier : List Claim) (d : Claim) → ((c : Claim) → IsIn c earlier → DoClash c d → ⊥) → IsFree earlier d
unfolding clash_among
free-of [] d h = refl
free-of (c ∷ earlier) d h =
    elim (cases_option (clash c d)) [ inl none ↦ rw none (free-of earlier d (λ x here. h x (inr here))) | inr clashes ↦ absurd (h c (inl refl) clashes) ]

pub no-pair : (earlier : List Claim) (cs : Claims) (c d : Claim) → AreFree earlier cs → IsPair earlier cs c d → ⊥
no-pair earlier no_claims c d ok h = absurd h
no-pair earlier (claimed x cs) c d ok h = grind (arith, nat_tests, common_steps, no-pair (earlier ++ (x ∷ [])) cs, free-clash)
no-pair earlier (scope inner cs) c d ok h = grind (arith, nat_tests, common_steps, no-pair [] inner, no-pair earlier cs)

-- ---- the pair that is reported

-- the first pair, and its clash
abbrev Pair : List Claim → Claims → NamedClash → Type 0
Pair earlier cs t = (c d : Claim) × IsFirstPair earlier cs c d × (clash c d ≡ Some t)

-- a first pair, if all others come later
pair-wide : (l m : List Claim) (cs ds : Claims) (t : NamedClash) (p : Pair l cs t) → ((e f : Claim) → IsPair l cs e f → IsPair m ds e f)
    → ((e f : Claim) → IsPair m ds e f → IsPair l cs e f ⊎ (claim_start p.1 < claim_start f)) → Pair m ds t
pair-wide l m cs ds t (c, d, is, reported) into out = grind (arith, nat_tests, common_steps)

-- the earliest partner
partner : (earlier : List Claim) (d : Claim) (t : NamedClash) → clash_among earlier d ≡ Some t → Pairs IsLater earlier
    → (c : Claim) × IsIn c earlier × (clash c d ≡ Some t) × ((e : Claim) → IsIn e earlier → DoClash e d → (e ≡ c) ⊎ (claim_start c < claim_start e))
unfolding clash_among
partner [] d t is r = absurd (none-some t is)
partner (x ∷ l) d t is r = elim (cases_option (clash x d)) [
  | inl free ↦
      let (c, here, clashes, first) = partner l d t (rw free at is) r.1 in
      (c, inr here, clashes, λ e h met. elim h [ inl same ↦ absurd (none-some met.0 (sym free ∙ ap (λ y. clash y d) (sym same) ∙ met.1)) | inr more ↦ first e more met ])
  | inr (u, clashes) ↦
      (x, inl refl, clashes ∙ (rw clashes at is), λ e h met. elim h [ inl same ↦ inl same | inr more ↦ inr (strictly x e (r.0 e more) (earlier-plain e d met)) ])
]

reported-pair : (earlier : List Claim) (cs : Claims) (t : NamedClash) → clash_after earlier cs ≡ Some t → Pairs IsLater (earlier ++ all_claims cs) → Pair earlier cs t
unfolding all_claims clash_after
reported-pair earlier no_claims t is r = absurd (none-some t is)
reported-pair earlier (claimed d cs) t is r = elim (cases_option (clash_among earlier d)) [
  | inl none ↦
      let on = earlier ++ (d ∷ []) in
      pair-wide on earlier cs (claimed d cs) t (reported-pair on cs t (rw none at is) (rw (append_assoc earlier (d ∷ []) (all_claims cs)) r)) (λ e f h. inr h)
      (λ e f h. grind (arith, nat_tests, common_steps, free-clash))
  | inr (u, found) ↦
      let (rises, beyond, across) = pairs-split IsLater earlier (d ∷ all_claims cs) r in
      let (c, here, clashes, first) = partner earlier d t (found ∙ (rw found at is)) rises in
      let late = λ (e f : Claim) (h : IsPair (earlier ++ (d ∷ [])) cs e f). pair-late (earlier ++ (d ∷ [])) cs d e f beyond.0 h in (
        c,
        d,
        record {
          pair = inl (refl, here, (t, clashes));
          first = λ e f h. elim h [ inl now ↦ inl now.0 | inr more ↦ inr (late e f more) ];
          partner = λ e h. elim h [ inl now ↦ first e now.1 now.2 | inr more ↦ absurd (let less = late e d more in omega arith) ];
        },
        clashes,
      )
]
reported-pair earlier (scope inner cs) t is r =
    let (before, all, across) = pairs-split IsLater earlier (all_claims inner ++ all_claims cs) r in
    let (inside, beyond, apart) = pairs-split IsLater (all_claims inner) (all_claims cs) all in
    elim (cases_option (clash_after [] inner)) [
      | inl none ↦
          pair-wide earlier earlier cs (scope inner cs) t
          (reported-pair earlier cs t (rw none at is) (pairs-join IsLater earlier (all_claims cs) before beyond (λ c d h g. across c d h (in-right d (all_claims inner) (all_claims cs) g))))
          (λ e f h. inr h) (λ e f h. elim h [ inl now ↦ absurd (no-pair [] inner e f (are-free [] inner none) now) | inr more ↦ inl more ])
      | inr (u, found) ↦
          let p = reported-pair [] inner t (found ∙ (rw found at is)) inside in
          pair-wide [] earlier inner (scope inner cs) t p (λ e f h. inl h) (λ e f h. elim h [
            | inl now ↦ inl now
            | inr more ↦ inr (pair-late earlier cs p.1 e f (λ y g. apart p.1 y (pair-is [] inner p.0 p.1 p.2.pair).0 g) more)
          ])
    ]

-- ---- one first pair

one-pair : (earlier : List Claim) (cs : Claims) (c d e f : Claim) → IsFirstPair earlier cs c d → IsFirstPair earlier cs e f → (c ≡ e) × (d ≡ f)
one-pair earlier cs c d e f a b = grind (arith, nat_tests, common_steps)

-- ---- documents

pub first-pair : (text : List ℕ) (limit : ℕ) (bs : List ParsedSection) (t : NamedClash) → SpellsDocument bs text limit → first_clash (claims bs) ≡ Some t → Pair [] (claims bs) t
first-pair text limit bs t h is = reported-pair [] (claims bs) t is (rising-later (all_claims (claims bs)) 0 (length text) (document-rises bs text limit h))

pub reported-first : (text : List ℕ) (limit : ℕ) (bs : List ParsedSection) (t : NamedClash) → SpellsDocument bs text limit → Pair [] (claims bs) t → first_clash (claims bs) ≡ Some t
reported-first text limit bs t h (c, d, is, reported) =
    grind (arith, nat_tests, common_steps, are-free [] (claims bs), cases_option (first_clash (claims bs)), first-pair text limit bs, no-pair [] (claims bs) c d, one-pair [] (claims bs))
