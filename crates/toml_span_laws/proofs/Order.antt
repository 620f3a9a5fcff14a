-- The claims of a document ascend in the text.
use Rattle.toml_span_lex.proofs.Common.{◌≡◌, ℕ, suc, ◌+◌, ◌<◌, ◌≤◌, List, [], ◌∷◌, ◌++◌, Some, None, length, arith, refl, sym, ap, ◌∙◌, append_assoc, inl, inr, none-some, same_Some, nat_tests, common_steps}
use Rattle.toml_span_lex.specs.declared.span.Span.{Span}
use Rattle.toml_span_tree.specs.Path.{Path}
use Rattle.toml_span_read.specs.Data.{ParsedValue, parsed, ParsedInner, scalar, array, inline, ParsedItems, no_items, item, ParsedPairs, no_pairs, pair, ParsedAssignment, ParsedSection, from_to, SimpleKey}
use Rattle.toml_span_read.specs.Grammar.{Spells, SpellsDocument, InnerWith, ItemsWith, PairsWith, AssignmentsWith, SpellsScalar}
use Rattle.toml_span_read.specs.Places.{Ascend}
use Rattle.toml_span_laws.proofs.AscendLaws.{AreParsedSections, document_sections, header_from}
use Rattle.toml_span_read.proofs.InsideLemmas.{tail_inside}
use Rattle.toml_span_read.proofs.KeyOrder.{dotted_ascend}
use Rattle.toml_span_read.proofs.SpanLaws.{value_lies}
use Rattle.toml_span.specs.declared.claims.ClaimKind.TheVariants.{Passed, TableElement}
use Rattle.toml_span.specs.declared.claims.HeaderInfo.{HeaderInfo}
use Rattle.toml_span.specs.Claims.{Claim, Claims, no_claims, claimed, scope, followed, key_claims, value_claims, inner_claims, item_claims, pair_claims, assignments_claims, element, dotted, header_info, header_claim, end_claims, header_claims, section_claims, claims_after, claims}
use Rattle.toml_span.specs.code.Placing.{assignment_claims}
use Rattle.toml_span.specs.Flat.{all_claims}
use Rattle.toml_span_laws.specs.Order.{claim_start, Follows, Ascends}
use Rattle.toml_span_read.specs.Paths.{with_key, with_position, enter, elements_added, opened_by, section_path}

-- ---- lists of claims

-- a place with a key has the key by which it is claimed; an entry has none
abbrev pub IsKeyed : Claim → Type 0
IsKeyed c = (k : Span) → c.place.key_span ≡ Some k → (k ≡ c.info.key) × (c.info.kind ≡ TableElement → ⊥)

-- after this claim these ones ascend, and start before j
abbrev pub Onward : Claim → List Claim → ℕ → Type 0
Onward c [] j = IsKeyed c × (claim_start c < j)
Onward c (d ∷ ds) j = IsKeyed c × Follows c d × Onward d ds j

-- between i and j (exclusive) the claims ascend
abbrev pub Rising : List Claim → ℕ → ℕ → Type 0
Rising [] i j = i ≤ j
Rising (c ∷ cs) i j = (i ≤ claim_start c) × Onward c cs j

pub follows-start : (c d : Claim) → Follows c d → claim_start c ≤ claim_start d
follows-start c d h = grind (arith, nat_tests, common_steps)

onward-wide : (c : Claim) (cs : List Claim) (j k : ℕ) → j ≤ k → Onward c cs j → Onward c cs k
onward-wide c [] j k l h = (h.0, omega (arith, h.1))
onward-wide c (d ∷ ds) j k l h = (h.0, h.1, onward-wide d ds j k l h.2)

rising-wide : (cs : List Claim) (h i j k : ℕ) → h ≤ i → j ≤ k → Rising cs i j → Rising cs h k
rising-wide cs h i j k a b r = grind (arith, nat_tests, common_steps, onward-wide)

onward-forward : (c : Claim) (cs : List Claim) (j : ℕ) → Onward c cs j → claim_start c < j
onward-forward c [] j h = h.1
onward-forward c (d ∷ ds) j h = omega (arith, follows-start c d h.1, onward-forward d ds j h.2)

rising-forward : (cs : List Claim) (i j : ℕ) → Rising cs i j → i ≤ j
rising-forward cs i j r = grind (arith, nat_tests, common_steps, onward-forward)

-- ascending claims after a claim
onward-rising : (c : Claim) (cs : List Claim) (i j : ℕ) → IsKeyed c → claim_start c < i → Rising cs i j → Onward c cs j
onward-rising c cs i j a l r = grind (arith, nat_tests, common_steps)

onward-append : (c : Claim) (cs ds : List Claim) (i j : ℕ) → Onward c cs i → Rising ds i j → Onward c (cs ++ ds) j
onward-append c [] ds i j h r = onward-rising c ds i j h.0 h.1 r
onward-append c (d ∷ cs) ds i j h r = (h.0, h.1, onward-append d cs ds i j h.2 r)

rising-append : (cs ds : List Claim) (h i j : ℕ) → Rising cs h i → Rising ds i j → Rising (cs ++ ds) h j
rising-append cs ds h i j a r = grind (arith, nat_tests, common_steps, onward-append, rising-wide)

onward-ascends : (c : Claim) (cs : List Claim) (j : ℕ) → Onward c cs j → Ascends (c ∷ cs)
onward-ascends c [] j h = tt
onward-ascends c (d ∷ ds) j h = (h.1, onward-ascends d ds j h.2)

rising-ascends : (cs : List Claim) (i j : ℕ) → Rising cs i j → Ascends cs
rising-ascends cs i j r = grind (arith, nat_tests, common_steps, onward-ascends)

-- ---- claims

pub all_claims-followed : (xs ys : Claims) → all_claims (followed xs ys) ≡ all_claims xs ++ all_claims ys
unfolding followed all_claims
all_claims-followed no_claims ys = refl
all_claims-followed (claimed c xs) ys = ap (λ l. c ∷ l) (all_claims-followed xs ys)
all_claims-followed (scope inner xs) ys = ap (λ l. all_claims inner ++ l) (all_claims-followed xs ys) ∙ sym (append_assoc (all_claims inner) (all_claims xs) (all_claims ys))

-- between i and j (exclusive) the claims of all scopes ascend
abbrev pub Rise : Claims → ℕ → ℕ → Type 0
Rise cs i j = Rising (all_claims cs) i j

rise-none : (i j : ℕ) → i ≤ j → Rise no_claims i j
unfolding all_claims
rise-none i j l = l

rise-claimed : (c : Claim) (cs : Claims) (h i j : ℕ) → IsKeyed c → h ≤ claim_start c → claim_start c < i → Rise cs i j → Rise (claimed c cs) h j
unfolding all_claims
rise-claimed c cs h i j e a b r = (a, onward-rising c (all_claims cs) i j e b r)

rise-followed : (xs ys : Claims) (h i j : ℕ) → Rise xs h i → Rise ys i j → Rise (followed xs ys) h j
rise-followed xs ys h i j r s = rw (all_claims-followed xs ys) (rising-append (all_claims xs) (all_claims ys) h i j r s)

rise-scope : (cs : Claims) (i j : ℕ) → Rise cs i j → Rise (scope cs no_claims) i j
unfolding all_claims
rise-scope cs i j r = rising-append (all_claims cs) [] i j j r (omega arith)

-- ---- keys and values

keyed : (c : Claim) → c.place.key_span ≡ Some c.info.key → (c.info.kind ≡ TableElement → ⊥) → IsKeyed c
keyed c is plain k h = (sym (same_Some c.info.key k (sym is ∙ h)), plain)

unkeyed : (c : Claim) → c.place.key_span ≡ None → IsKeyed c
unkeyed c is k h = absurd (none-some k (sym is ∙ h))

-- a key, and the claims of its value
key-rises : (q : Path) (parts : List SimpleKey) (v : ParsedValue) (inside : Path → Claims) (i a j : ℕ) → Ascend parts i a → ((r : Path) → Rise (inside r) a j)
    → Rise (key_claims q parts v inside) i j
unfolding key_claims
key-rises q [] v inside i a j h r = rise-none i j (omega (arith, h, rising-forward (all_claims (inside q)) a j (r q)))
key-rises q (k ∷ []) v inside i a j h r = grind (arith, nat_tests, common_steps, keyed, rise-claimed)
key-rises q (k ∷ l ∷ more) v inside i a j h r =
    let here = with_key q k in
    rise-claimed (dotted here k v) (key_claims here (l ∷ more) v inside) i k.span.end j (keyed (dotted here k v) refl (λ e. cc)) h.0 h.1 (key-rises here (l ∷ more) v inside k.span.end a j h.2 r)

mutual
  unfolding value_claims inner_claims item_claims pair_claims

  -- the claims in a value: from m to before n; its bracket, if it has one, starts before m
  inner-rises : (x : ParsedInner) (s : Span) (q : Path) (text : List ℕ) (limit d i j m n : ℕ) → m ≤ n → j ≤ n → (s ≡ from_to i j → m ≤ i + 1) → InnerWith SpellsScalar x s text limit d i j
      → Rise (inner_claims x q) m n
  inner-rises (scalar y) s q text limit d i j m n l w f h = rise-none m n l
  inner-rises (array vs) s q text limit d i j m n l w f (here, e, k, gap, h) =
      grind (arith, nat_tests, common_steps, items-rise vs 0 q text limit (d + 1) k j h, rise-scope, rising-wide)
  inner-rises (inline ps) s q text limit d i j m n l w f (here, e, k, gap, h) =
      grind (arith, nat_tests, common_steps, pairs-rise ps [] q text limit (d + 1) k j h, rise-scope, rising-wide)

  value-rises : (v : ParsedValue) (q : Path) (text : List ℕ) (limit d i j : ℕ) → Spells v text limit d i j → Rise (value_claims v q) i j
  value-rises (parsed x s) q text limit d i j h =
      inner-rises x s q text limit d i j i j (value_lies (parsed x s) text limit d i j h).1 (omega arith) (λ e. omega arith) h.1

  -- an element, before the comma after it or the closing bracket
  element-rises : (v : ParsedValue) (q : Path) (rest : Claims) (text : List ℕ) (limit d i m j : ℕ) → Spells v text limit d i m → Rise rest (m + 1) j
      → Rise (claimed (element q v) (followed (value_claims v q) rest)) i j
  element-rises (parsed x s) q rest text limit d i m j h r =
      let a = value_lies (parsed x s) text limit d i m h in
      rise-claimed (element q (parsed x s)) (followed (inner_claims x q) rest) i (s.start + 1) j (unkeyed (element q (parsed x s)) refl) a.0.0 (omega arith)
      (rise-followed (inner_claims x q) rest (s.start + 1) (m + 1) j
      (inner-rises x s q text limit d i m (s.start + 1) (m + 1) (omega (arith, a.0.1, a.0.2)) (omega arith) (λ e. omega (arith, ap (λ t. t.start) e)) h.1) r)

  items-rise : (vs : ParsedItems) (n : ℕ) (q : Path) (text : List ℕ) (limit d i j : ℕ) → ItemsWith SpellsScalar vs text limit d i j → Rise (item_claims vs n q) i j
  items-rise no_items n q text limit d i j h = rise-none i j (omega (arith, h.1))
  items-rise (item v vs) n q text limit d i j (m, h, then) =
      element-rises v (with_position q n) (item_claims vs (suc n) q) text limit d i m j h
      (grind (arith, nat_tests, common_steps, rise-none (m + 1) j, rising-wide (all_claims (item_claims vs (suc n) q)) (m + 1), items-rise vs (suc n) q text limit d))

  pairs-rise : (ps : ParsedPairs) (es : List ParsedAssignment) (q : Path) (text : List ℕ) (limit d i j : ℕ) → PairsWith SpellsScalar ps es text limit d i j → Rise (pair_claims ps q) i j
  pairs-rise no_pairs es q text limit d i j h = rise-none i j (omega (arith, h.1))
  pairs-rise (pair ss v x ps) es q text limit d i j (m, (a, b, key, few, sign, h, extent), clear, then) =
      rise-followed (key_claims q ss v (value_claims v)) (pair_claims ps q) i m j
      (key-rises q ss v (value_claims v) i a m (dotted_ascend ss text i a key).0
      (λ r. rising-wide (all_claims (value_claims v r)) a b m m (omega (arith, sign.before.forward, sign.after.forward)) (omega arith) (value-rises v r text limit (d + length ss) b m h)))
      (elim then [
        | inl (e, close) ↦ rw e (rise-none m j (omega (arith, close.before.forward, close.ends)))
        | inr (p, comma, rest) ↦
            rising-wide (all_claims (pair_claims ps q)) m p j j (omega (arith, comma.before.forward, comma.after.forward)) (omega arith)
            (pairs-rise ps (es ++ (record { parts = ss; value = v; extent = x } ∷ [])) q text limit d p j rest)
      ])

assignments-rise : (es before : List ParsedAssignment) (q : Path) (text : List ℕ) (limit i j : ℕ) → AssignmentsWith SpellsScalar es before text limit i j → Rise (assignments_claims es q) i j
unfolding assignments_claims
assignments-rise [] before q text limit i j h = rise-none i j (omega (arith, h))
assignments-rise (e ∷ es) before q text limit i j (m, n, k, h, tail, clear, gap, rest) =
    rise-followed (assignment_claims e q) (assignments_claims es q) i m j
    (key-rises q e.parts e.value (value_claims e.value) i h.key_end m (dotted_ascend e.parts text i h.key_end h.key).0
    (λ r. rising-wide (all_claims (value_claims e.value r)) h.key_end h.from m m (omega (arith, h.sign.before.forward, h.sign.after.forward)) (omega arith)
    (value-rises e.value r text limit (length e.parts) h.from m h.spelled)))
    (rising-wide (all_claims (assignments_claims es q)) m k j j (omega (arith, (tail_inside text m n tail).0, gap.forward)) (omega arith) (assignments-rise es (before ++ (e ∷ [])) q text limit k j rest))

-- ---- sections

end-rises : (h : HeaderInfo) (q : Path) (k : SimpleKey) (n i j : ℕ) → i ≤ k.span.start → k.span.start < j → Rise (end_claims h q k n) i j
unfolding end_claims all_claims
end-rises h q k n i j a b = grind (arith, nat_tests, common_steps)

header-rises : (e : Path → ℕ) (h : HeaderInfo) (q : Path) (parts : List SimpleKey) (i j : ℕ) → Ascend parts i j → Rise (header_claims e h q parts) i j
unfolding header_claims
header-rises e h q [] i j a = rise-none i j a
header-rises e h q (k ∷ []) i j a = end-rises h (with_key q k) k (e (with_key q k)) i j a.0 (omega (arith, a.1, a.2))
header-rises e h q (k ∷ l ∷ more) i j a =
    let next = enter (e (with_key q k)) (with_key q k) in
    rise-claimed (header_claim h Passed next k) (header_claims e h next (l ∷ more)) i k.span.end j (keyed (header_claim h Passed next k) refl (λ e. cc)) a.0 a.1 (header-rises e h next (l ∷ more) k.span.end j a.2)

sections-rise : (earlier bs : List ParsedSection) (text : List ℕ) (limit i : ℕ) → AreParsedSections bs text limit i (length text) → Rise (claims_after earlier bs) i (length text)
unfolding claims_after section_claims
sections-rise earlier [] text limit i h = rise-none i (length text) h
sections-rise earlier (b ∷ bs) text limit i (s, k, j, header, few, plain, on, lines, rest) =
    let e = elements_added (opened_by earlier) in
    let q = section_path e b in
    rise-followed (section_claims e b) (claims_after (b ∷ earlier) bs) i j (length text)
    (rise-followed (header_claims e (header_info b) [] b.header) (assignments_claims b.assignments q) i s j (header-rises e (header_info b) [] b.header i s (header_from b i s header))
    (rising-wide (all_claims (assignments_claims b.assignments q)) s k j j on (omega arith) (assignments-rise b.assignments [] q text limit k j lines)))
    (sections-rise (b ∷ earlier) bs text limit j rest)

pub document-rises : (bs : List ParsedSection) (text : List ℕ) (limit : ℕ) → SpellsDocument bs text limit → Rise (claims bs) 0 (length text)
document-rises bs text limit x = sections-rise [] bs text limit 0 (document_sections bs text limit x)

pub document-ascends : (bs : List ParsedSection) (text : List ℕ) (limit : ℕ) → SpellsDocument bs text limit → Ascends (all_claims (claims bs))
document-ascends bs text limit x = rising-ascends (all_claims (claims bs)) 0 (length text) (document-rises bs text limit x)
