-- No two scalars of a document start at the same offset.
use Rattle.toml_span_lex.proofs.Common.{◌≡◌, ℕ, suc, ◌+◌, ◌≤◌, List, [], ◌∷◌, ◌++◌, Some, length, arith, refl, sym, ap, ◌∙◌, append_assoc, append-nil, subst, inl, inr, nat_tests, common_steps}
use Rattle.toml_span_lex.specs.declared.span.Span.{Span}
use Rattle.toml_span_tree.specs.Node.{Scalar}
use Rattle.toml_span_tree.specs.Path.{Path, Place, Shape, shape_taken, shape_scalar, shape_array, shape_table, place_at}
use Rattle.toml_span_tree.specs.Value.{view}
use Rattle.toml_span_tree.specs.declared.value.Value.{Value}
use Rattle.toml_span_read.specs.Data.{SimpleKey, ParsedValue, parsed, scalar, array, inline, ParsedItems, no_items, item, ParsedPairs, no_pairs, pair, ParsedAssignment, ParsedSection, parsed_span}
use Rattle.toml_span_read.specs.Grammar.{Spells, SpellsScalar, ItemsWith, PairsWith, AssignmentsWith}
use Rattle.toml_span_read.proofs.InsideLemmas.{ascend_forward, tail_inside}
use Rattle.toml_span_read.proofs.KeyOrder.{dotted_ascend}
use Rattle.toml_span_read.proofs.ReadSound.{document_sound}
use Rattle.toml_span_read.proofs.SpanLaws.{value_lies}
use Rattle.toml_span.specs.declared.claims.ClaimKind.{ClaimKind}
use Rattle.toml_span.specs.declared.claims.ClaimKind.TheVariants.{Passed, StandardTable, ArrayOfTables, TableElement, Dotted, Assigned}
use Rattle.toml_span.specs.Claims.{shape_claimed, Claim, Claims, no_claims, claimed, scope, followed, key_claims, value_claims, inner_claims, item_claims, pair_claims, assignments_claims, header_info, header_claims, section_claims, claims_after, claims, value_shape}
use Rattle.toml_span.specs.Flat.{all_claims, flat}
use Rattle.toml_span.specs.Parsing.{IsTree}
use Rattle.toml_span_read.specs.Paths.{with_key, with_position, elements_added, opened_by, section_path}
use Rattle.toml_span.proofs.EachClaim.{flat-decides}
use Rattle.toml_span_laws.specs.Clashing.{IsIn}
use Rattle.toml_span_laws.proofs.Apart.{each-in}
use Rattle.toml_span_laws.proofs.AscendLaws.{AreParsedSections, document_sections, header_from, Rising, rising_wide, rising_on}
use Rattle.toml_span_laws.proofs.Order.{all_claims-followed}
use Rattle.toml_span_laws.proofs.ScalarEnds.{scalar_some}
use Rattle.toml_span_laws.proofs.SpelledClaims.{Headed, header-headed, some-part}

-- ---- where scalars start

-- the start of a scalar
abbrev spot : Shape → Span → List ℕ
spot (shape_scalar s) span = span.start ∷ []
spot shape_taken span = []
spot shape_array span = []
spot shape_table span = []

abbrev spot_of : Claim → List ℕ
spot_of c = spot c.place.shape c.place.span

abbrev value_spot : ParsedValue → List ℕ
value_spot v = spot (value_shape v) (parsed_span v)

abbrev spots : List Claim → List ℕ
spots [] = []
spots (c ∷ cs) = spot_of c ++ spots cs

spots_append : (cs ds : List Claim) → spots (cs ++ ds) ≡ spots cs ++ spots ds
spots_append [] ds = refl
spots_append (c ∷ cs) ds = ap (λ l. spot_of c ++ l) (spots_append cs ds) ∙ sym (append_assoc (spot_of c) (spots cs) (spots ds))

abbrev starts : Claims → List ℕ
starts cs = spots (all_claims cs)

starts_followed : (xs ys : Claims) → starts (followed xs ys) ≡ starts xs ++ starts ys
starts_followed xs ys = ap (λ l. spots l) (all_claims-followed xs ys) ∙ spots_append (all_claims xs) (all_claims ys)

-- ---- the claims of a header are of no scalars

no_spot : (kind : ClaimKind) (span : Span) → spot (shape_claimed kind) span ≡ []
no_spot Passed span = refl
no_spot StandardTable span = refl
no_spot ArrayOfTables span = refl
no_spot TableElement span = refl
no_spot Dotted span = refl
no_spot Assigned span = refl

headed_spots : (cs : Claims) → Headed (λ c. spot_of c ≡ []) cs → starts cs ≡ []
unfolding all_claims
headed_spots no_claims h = refl
headed_spots (claimed c cs) h = rw (h.0) (headed_spots cs h.1)
headed_spots (scope inner cs) h = absurd h

-- ---- values

-- the claims of a key rise, if its value and the claims in it do
key_rises : (q : Path) (parts : List SimpleKey) (v : ParsedValue) (i j : ℕ) → 1 ≤ length parts → ((r : Path) → Rising (value_spot v ++ starts (value_claims v r)) i j) → Rising (starts (key_claims q parts v (value_claims v))) i j
unfolding key_claims all_claims
key_rises q [] v i j some h = absurd (omega arith)
key_rises q (k ∷ []) v i j some h = h (with_key q k)
key_rises q (k ∷ l ∷ more) v i j some h = key_rises (with_key q k) (l ∷ more) v i j (omega arith) h

-- a list after another one
after : (xs ys zs : List ℕ) (i m j : ℕ) → zs ≡ xs ++ ys → Rising xs i m → Rising ys m j → Rising zs i j
after xs ys zs i m j e h g = rw e (rising_on xs ys i m j h g)

mutual
  unfolding value_claims inner_claims item_claims pair_claims all_claims

  value_rises : (v : ParsedValue) (q : Path) (text : List ℕ) (limit d i j : ℕ) → Spells v text limit d i j → Rising (value_spot v ++ starts (value_claims v q)) i j
  value_rises (parsed (scalar s) span) q text limit d i j h =
      let l = value_lies (parsed (scalar s) span) text limit d i j h in (l.0.0, omega (arith, scalar_some s span text i j h.1))
  value_rises (parsed (array vs) span) q text limit d i j (few, (here, e, k, gap, h)) =
      rw (append-nil (all_claims (item_claims vs 0 q))) (rising_wide (starts (item_claims vs 0 q)) i k j j (omega (arith, gap.forward)) (omega arith) (items_rise vs 0 q text limit (d + 1) k j h))
  value_rises (parsed (inline ps) span) q text limit d i j (few, (here, e, k, gap, h)) =
      rw (append-nil (all_claims (pair_claims ps q))) (rising_wide (starts (pair_claims ps q)) i k j j (omega (arith, gap.forward)) (omega arith) (pairs_rise ps [] q text limit (d + 1) k j h))

  items_rise : (vs : ParsedItems) (n : ℕ) (q : Path) (text : List ℕ) (limit d i j : ℕ) → ItemsWith SpellsScalar vs text limit d i j → Rising (starts (item_claims vs n q)) i j
  items_rise no_items n q text limit d i j h = omega (arith, h.1)
  items_rise (item v vs) n q text limit d i j (m, h, then) =
      let r = with_position q n in
      let e : starts (item_claims (item v vs) n q) ≡ (value_spot v ++ starts (value_claims v r)) ++ starts (item_claims vs (suc n) q) =
      ap (λ l. value_spot v ++ l) (starts_followed (value_claims v r) (item_claims vs (suc n) q)) ∙ sym (append_assoc (value_spot v) (starts (value_claims v r)) (starts (item_claims vs (suc n) q))) in
      after (value_spot v ++ starts (value_claims v r)) (starts (item_claims vs (suc n) q)) (starts (item_claims (item v vs) n q)) i m j e (value_rises v r text limit d i m h)
      (elim then [
        | inl (none, c) ↦ rw none (omega (arith, c.before.forward, c.ends))
        | inr (p, c, rest) ↦ rising_wide (starts (item_claims vs (suc n) q)) m p j j (omega (arith, c.before.forward, c.after.forward)) (omega arith) (items_rise vs (suc n) q text limit d p j rest)
      ])

  pairs_rise : (ps : ParsedPairs) (es : List ParsedAssignment) (q : Path) (text : List ℕ) (limit d i j : ℕ) → PairsWith SpellsScalar ps es text limit d i j → Rising (starts (pair_claims ps q)) i j
  pairs_rise no_pairs es q text limit d i j h = omega (arith, h.1)
  pairs_rise (pair ss v x ps) es q text limit d i j (m, (a, b, key, few, sign, h, extent), clear, then) =
      let on = ascend_forward ss i a (dotted_ascend ss text i a key).0 in
      after (starts (key_claims q ss v (value_claims v))) (starts (pair_claims ps q)) (starts (pair_claims (pair ss v x ps) q)) i m j (starts_followed (key_claims q ss v (value_claims v)) (pair_claims ps q))
      (key_rises q ss v i m (some-part ss text i a key) (λ r. rising_wide (value_spot v ++ starts (value_claims v r)) i b m m (omega (arith, on, sign.before.forward, sign.after.forward)) (omega arith) (value_rises v r text limit (d + length ss) b m h)))
      (elim then [
        | inl (none, c) ↦ rw none (omega (arith, c.before.forward, c.ends))
        | inr (p, c, rest) ↦
            rising_wide (starts (pair_claims ps q)) m p j j (omega (arith, c.before.forward, c.after.forward)) (omega arith)
            (pairs_rise ps (es ++ (record { parts = ss; value = v; extent = x } ∷ [])) q text limit d p j rest)
      ])

-- ---- sections

lines_rise : (es before : List ParsedAssignment) (q : Path) (text : List ℕ) (limit i j : ℕ) → AssignmentsWith SpellsScalar es before text limit i j → Rising (starts (assignments_claims es q)) i j
unfolding assignments_claims all_claims
lines_rise [] before q text limit i j h = omega (arith, h)
lines_rise (e ∷ es) before q text limit i j (m, n, k, h, tail, clear, gap, rest) =
    let on = ascend_forward e.parts i h.key_end (dotted_ascend e.parts text i h.key_end h.key).0 in
    let v = e.value in
    after (starts (key_claims q e.parts v (value_claims v))) (starts (assignments_claims es q)) (starts (followed (key_claims q e.parts v (value_claims v)) (assignments_claims es q))) i m j (starts_followed (key_claims q e.parts v (value_claims v)) (assignments_claims es q))
    (key_rises q e.parts v i m (some-part e.parts text i h.key_end h.key)
    (λ r. rising_wide (value_spot v ++ starts (value_claims v r)) i h.from m m (omega (arith, on, h.sign.before.forward, h.sign.after.forward)) (omega arith) (value_rises v r text limit (length e.parts) h.from m h.spelled)))
    (rising_wide (starts (assignments_claims es q)) m k j j (omega (arith, (tail_inside text m n tail).0, gap.forward)) (omega arith) (lines_rise es (before ++ (e ∷ [])) q text limit k j rest))

sections_rise : (earlier xs : List ParsedSection) (text : List ℕ) (limit i : ℕ) → AreParsedSections xs text limit i (length text) → Rising (starts (claims_after earlier xs)) i (length text)
unfolding claims_after section_claims all_claims
sections_rise earlier [] text limit i h = h
sections_rise earlier (b ∷ xs) text limit i (s, k, j, header, few, plain, on, lines, rest) =
    let e = elements_added (opened_by earlier) in
    let q = section_path e b in
    let head = header_claims e (header_info b) [] b.header in
    let body = assignments_claims b.assignments q in
    let more = claims_after (b ∷ earlier) xs in
    let none : starts head ≡ [] = headed_spots head (header-headed (λ c. spot_of c ≡ []) (header_info b) (λ kind r key h. no_spot kind b.extent) e [] b.header) in
    let f : starts (followed (followed head body) more) ≡ starts body ++ starts more = starts_followed (followed head body) more ∙ ap (λ l. l ++ starts more) (starts_followed head body ∙ ap (λ l. l ++ starts body) none) in
    let wide = ascend_forward b.header i s (header_from b i s header) in
    after (starts body) (starts more) (starts (followed (followed head body) more)) i j (length text) f (rising_wide (starts body) i k j j (omega (arith, wide, on)) (omega arith) (lines_rise b.assignments [] q text limit k j lines))
    (sections_rise (b ∷ earlier) xs text limit j rest)

-- ---- one place

rising_rest : (c : Claim) (cs : List Claim) (i j : ℕ) → Rising (spot_of c ++ spots cs) i j → Rising (spots cs) i j
rising_rest c cs i j h = rest_of (spot_of c) (spots cs) i j h
  where
    rest_of : (ns ms : List ℕ) (i j : ℕ) → Rising (ns ++ ms) i j → Rising ms i j
    rest_of [] ms i j h = h
    rest_of (n ∷ ns) ms i j h = rising_wide ms i (n + 1) j j (omega (arith, h.0)) (omega arith) (rest_of ns ms (n + 1) j h.1)

-- the claim is of a scalar that starts there
abbrev StartsAt : ℕ → Claim → Type 0
StartsAt n c = (s : Scalar) × (c.place.shape ≡ shape_scalar s) × (c.place.span.start ≡ n)

first_spot : (n : ℕ) (c : Claim) (ms : List ℕ) (i j : ℕ) → StartsAt n c → Rising (spot_of c ++ ms) i j → (i ≤ n) × Rising ms (n + 1) j
first_spot n c ms i j (s, shape, at) h = let g = rw (shape, at) at h in (g.0, g.1)

later_spot : (n : ℕ) (c : Claim) (cs : List Claim) (i j : ℕ) → StartsAt n c → IsIn c cs → Rising (spots cs) i j → i ≤ n
later_spot n c [] i j s h r = absurd h
later_spot n c (d ∷ cs) i j s (inl e) r = (first_spot n d (spots cs) i j (rw e at s) r).0
later_spot n c (d ∷ cs) i j s (inr h) r = later_spot n c cs i j s h (rising_rest d cs i j r)

one_spot : (n : ℕ) (c d : Claim) (cs : List Claim) (i j : ℕ) → StartsAt n c → StartsAt n d → IsIn c cs → IsIn d cs → Rising (spots cs) i j → c ≡ d
one_spot n c d [] i j s t h g r = absurd h
one_spot n c d (e ∷ cs) i j s t (inl f) (inl g) r = f ∙ sym g
one_spot n c d (e ∷ cs) i j s t (inl f) (inr g) r = let more = first_spot n e (spots cs) i j (rw f at s) r in absurd (omega (arith, later_spot n d cs (n + 1) j t g more.1))
one_spot n c d (e ∷ cs) i j s t (inr f) (inl g) r = let more = first_spot n e (spots cs) i j (rw g at t) r in absurd (omega (arith, later_spot n c cs (n + 1) j s f more.1))
one_spot n c d (e ∷ cs) i j s t (inr f) (inr g) r = one_spot n c d cs i j s t f g (rising_rest e cs i j r)

-- the claim that determines a scalar's place
record ScalarAt (cs : List Claim) (p : Path) (n : ℕ) : Type 0 where
  claim : Claim
  on : claim.path ≡ p
  among : IsIn claim cs
  at : StartsAt n claim

scalar_at : (n : ℕ) (cs : Claims) (p : Path) (x : Place) (s : Scalar) → flat n cs p ≡ Some x → x.shape ≡ shape_scalar s → ScalarAt (all_claims cs) p x.span.start
unfolding flat
scalar_at n cs [] x s h is = grind (arith, nat_tests, common_steps)
scalar_at n cs (t ∷ p) x s h is =
    let d = flat-decides (λ c. IsIn c (all_claims cs)) n cs t p x (each-in cs (all_claims cs) (λ c i. i)) h in
    record { claim = d.claim; on = d.on; among = d.holds; at = (s, ap (λ y. y.shape) d.place ∙ is, ap (λ y. y.span.start) d.place) }

pub tree_scalars_apart : (text : List ℕ) (limit : ℕ) (root : Value) (p q : Path) (x y : Place) (s t : Scalar) → IsTree text limit root → place_at p (view root) ≡ Some x → place_at q (view root) ≡ Some y
    → x.shape ≡ shape_scalar s → y.shape ≡ shape_scalar t → x.span.start ≡ y.span.start → p ≡ q
tree_scalars_apart text limit root p q x y s t (bs, has, tree) there here is that e =
    let a = scalar_at (length text) (claims bs) p x s (sym (tree.shows p) ∙ there) is in
    let b = scalar_at (length text) (claims bs) q y t (sym (tree.shows q) ∙ here) that in
    let r = sections_rise [] bs text limit 0 (document_sections bs text limit (document_sound bs text limit has.0)) in
    let one = one_spot x.span.start a.claim b.claim (all_claims (claims bs)) 0 (length text) a.at (subst (λ (n : ℕ). StartsAt n b.claim) (sym e) b.at) a.among b.among r in
    sym a.on ∙ (ap (λ c. c.path) one ∙ b.on)
