-- The claims seen from the root are those with absolute paths.
use Rattle.toml_span_lex.proofs.Common.{◌≡◌, ℕ, zero, suc, false, cond, List, [], ◌∷◌, ◌++◌, refl, sym, ap, ◌∙◌, inl, inr, if◌then◌else◌, append_assoc, cases_Bool, arith, nat_tests, common_steps}
use Rattle.toml_span_tree.specs.Path.{Path, Step, key, position}
use Rattle.toml_span_read.specs.Data.{ParsedValue as Read, parsed, ParsedInner, scalar, array, inline, ParsedItems, no_items, item, ParsedPairs, no_pairs, pair, ParsedAssignment, pairs_onto, ParsedSection, SimpleKey}
use Rattle.toml_span.specs.declared.claims.ClaimKind.{ClaimKind}
use Rattle.toml_span.specs.declared.claims.ClaimKind.TheVariants.{Passed, StandardTable, ArrayOfTables, TableElement}
use Rattle.toml_span.specs.declared.claims.HeaderInfo.{HeaderInfo}
use Rattle.toml_span_read.specs.Paths.{same_path, with_key, with_position, enter, target, elements_added, opened_by}
use Rattle.toml_span.specs.Claims.{Claims, no_claims, claimed, scope, followed, key_claims, value_claims, inner_claims, item_claims, pair_claims, assignments_claims, section_claims, element, assigned, dotted, header_info, header_claim, array_claims, end_claims, header_claims}
use Rattle.toml_span.specs.code.Placing.{assignment_claims}
use Rattle.toml_span.specs.code.Machine.{graft}
use Rattle.toml_span.specs.code.Relative.{under, pair_at, passing, opening, adding, ending, entered, through, section_at, counts_after_adding, counts_after_end, counts_after_entered, counts_after_through, counts_after}
use Rattle.toml_span_read.proofs.PathLemmas.{same_step-self}
use Rattle.toml_span.proofs.Grafts.{fun_ext, graft-is, graft-itself, path_ext, under-followed}

-- claims that move with their path
abbrev pub Moves : (Path → Claims) → Type 0
Moves inside = (s : Step) (p : Path) → inside (s ∷ p) ≡ under s (inside p)

-- ---- values and assignments move with their path

-- a key, where the claims inside its value move
pub key_claims-under : (s : Step) (p : Path) (parts : List SimpleKey) (v : Read) (inside : Path → Claims) → Moves inside
    → key_claims (s ∷ p) parts v inside ≡ under s (key_claims p parts v inside)
unfolding key_claims under
key_claims-under s p [] v inside moves = refl
key_claims-under s p (k ∷ []) v inside moves = ap (claimed (assigned (s ∷ with_key p k) k v)) (moves s (with_key p k))
key_claims-under s p (k ∷ l ∷ more) v inside moves = grind (arith, nat_tests, common_steps, key_claims-under s (with_key p k) (l ∷ more) v inside moves)

-- two parts that move, one after the other
followed-under : (s : Step) (xs ys as' bs : Claims) → xs ≡ under s as' → ys ≡ under s bs → followed xs ys ≡ under s (followed as' bs)
followed-under s xs ys as' bs a b = ap (λ t. followed t ys) a ∙ ap (followed (under s as')) b ∙ sym (under-followed s as' bs)

mutual
  unfolding value_claims inner_claims item_claims pair_claims under

  pub value_claims-under : (v : Read) (s : Step) (p : Path) → value_claims v (s ∷ p) ≡ under s (value_claims v p)
  value_claims-under (parsed k span) s p = inner_claims-under k s p

  pub inner_claims-under : (k : ParsedInner) (s : Step) (p : Path) → inner_claims k (s ∷ p) ≡ under s (inner_claims k p)
  inner_claims-under (scalar x) s p = refl
  inner_claims-under (array vs) s p = ap (λ t. scope t no_claims) (item_claims-under vs 0 s p)
  inner_claims-under (inline ps) s p = ap (λ t. scope t no_claims) (pair_claims-under ps s p)

  pub item_claims-under : (vs : ParsedItems) (i : ℕ) (s : Step) (p : Path) → item_claims vs i (s ∷ p) ≡ under s (item_claims vs i p)
  item_claims-under no_items i s p = refl
  item_claims-under (item v vs) i s p =
      ap (claimed (element (s ∷ with_position p i) v))
      (followed-under s (value_claims v (s ∷ with_position p i)) (item_claims vs (suc i) (s ∷ p)) (value_claims v (with_position p i)) (item_claims vs (suc i) p)
      (value_claims-under v s (with_position p i)) (item_claims-under vs (suc i) s p))

  pub pair_claims-under : (ps : ParsedPairs) (s : Step) (p : Path) → pair_claims ps (s ∷ p) ≡ under s (pair_claims ps p)
  pair_claims-under no_pairs s p = refl
  pair_claims-under (pair parts v extent rest) s p =
      followed-under s (key_claims (s ∷ p) parts v (value_claims v)) (pair_claims rest (s ∷ p)) (key_claims p parts v (value_claims v)) (pair_claims rest p)
      (key_claims-under s p parts v (value_claims v) (λ t q. value_claims-under v t q)) (pair_claims-under rest s p)

pub assignment_claims-under : (e : ParsedAssignment) (s : Step) (p : Path) → assignment_claims e (s ∷ p) ≡ under s (assignment_claims e p)
assignment_claims-under e s p = key_claims-under s p e.parts e.value (value_claims e.value) (value_claims-under e.value)

pub assignments_claims-under : (es : List ParsedAssignment) (s : Step) (p : Path) → assignments_claims es (s ∷ p) ≡ under s (assignments_claims es p)
unfolding assignments_claims under
assignments_claims-under [] s p = refl
assignments_claims-under (e ∷ es) s p = grind (arith, nat_tests, common_steps, assignment_claims-under, followed-under, assignments_claims-under es s p)

-- an inner part of a key, and those after it
pub key_claims-more : (p : Path) (k : SimpleKey) (inner : List SimpleKey) (last : SimpleKey) (v : Read) (inside : Path → Claims)
    → key_claims p (k ∷ (inner ++ (last ∷ []))) v inside ≡ claimed (dotted (with_key p k) k v) (key_claims (with_key p k) (inner ++ (last ∷ [])) v inside)
unfolding key_claims
key_claims-more p k inner last v inside = grind (arith, nat_tests, common_steps)

-- a key, seen from the node at which it begins
pub pair_at-is : (inner : List SimpleKey) (last : SimpleKey) (v : Read) → pair_at inner last v ≡ key_claims [] (inner ++ (last ∷ [])) v (value_claims v)
unfolding pair_at key_claims under
pair_at-is [] last v = ap (claimed (assigned (key last.name ∷ []) last v)) (sym (value_claims-under v (key last.name) []))
pair_at-is (k ∷ inner) last v = grind (arith, nat_tests, common_steps, key_claims-more, key_claims-under, value_claims-under, pair_at-is inner last v)

-- the pairs of an inline table have the same claims as assignments
pub pairs-assignments : (es : List ParsedAssignment) (p : Path) → pair_claims (pairs_onto es no_pairs) p ≡ assignments_claims es p
unfolding pair_claims assignments_claims
pairs-assignments [] p = refl
pairs-assignments (e ∷ es) p = ap (followed (assignment_claims e p)) (pairs-assignments es p)

-- ---- claims below a path

below : Path → Claims → Claims
below [] cs = cs
below (s ∷ p) cs = under s (below p cs)

below-under : (p : Path) (s : Step) (cs : Claims) → below p (under s cs) ≡ below (p ++ (s ∷ [])) cs
unfolding below
below-under [] s cs = refl
below-under (t ∷ p) s cs = ap (under t) (below-under p s cs)

-- the counts below a path and a step
onward : (e : Path → ℕ) (p : Path) (s : Step) → ◌≡◌ {A = Path → ℕ} (λ q. e (p ++ (s ∷ q))) (λ q. e ((p ++ (s ∷ [])) ++ q))
onward e p s = fun_ext (λ q. ap e (sym (append_assoc p (s ∷ []) q)))

-- ---- sections

-- the part k of a header, and those after it
pub section_at-through : (e : Path → ℕ) (h : HeaderInfo) (k : SimpleKey) (rest : List SimpleKey) (tail : Claims)
    → section_at e h (k ∷ rest) tail ≡ under (key k.name) (through (λ q. e (key k.name ∷ q)) h k rest tail)
unfolding section_at
section_at-through e h k rest tail = grind (arith, nat_tests, common_steps)

-- the path below which a section assigns, beginning at the path p
abbrev path_from : (Path → ℕ) → HeaderInfo → Path → List SimpleKey → Path
path_from e h p parts = if h.array then with_position (target e p parts) (e (target e p parts)) else target e p parts

module _ (h : HeaderInfo) (tail : Path → Claims) (moves : Moves tail) (e : Path → ℕ) where
  below-tail : (p : Path) → below p (tail []) ≡ tail p
  unfolding below
  below-tail [] = refl
  below-tail (s ∷ p) = ap (under s) (below-tail p) ∙ sym (moves s p)

  below-opening : (p : Path) (kind : ClaimKind) (k : SimpleKey) (cs : Claims) → below p (opening h kind k cs) ≡ claimed (header_claim h kind p k) (below p cs)
  unfolding below under
  below-opening [] kind k cs = refl
  below-opening (s ∷ p) kind k cs = ap (under s) (below-opening p kind k cs)

  -- the table that a header opens
  below-opened : (p : Path) (kind : ClaimKind) (k : SimpleKey) → below p (opening h kind k (tail [])) ≡ claimed (header_claim h kind p k) (tail p)
  below-opened p kind k = below-opening p kind k (tail []) ∙ ap (claimed (header_claim h kind p k)) (below-tail p)

  -- at the last part of a header
  below-ending : (p : Path) (k : SimpleKey) (n : ℕ) → below p (ending h k (tail []) n) ≡ followed (end_claims h p k n) (tail (if h.array then with_position p n else p))
  unfolding end_claims followed
  below-ending p k n =
      elim (cases_Bool h.array) [
        | inl arr ↦ rw arr (arrays n)
        | inr tab ↦ rw tab (below-opened p StandardTable k)
      ]
    where
      added : (n : ℕ) → below p (adding h k (tail []) n) ≡ claimed (header_claim h TableElement (with_position p n) k) (tail (with_position p n))
      added n = below-under p (position n) (opening h TableElement k (tail [])) ∙ below-opened (with_position p n) TableElement k

      arrays : (n : ℕ) → below p (array_claims h [] k n (adding h k (tail []) n))
          ≡ followed (array_claims h p k n (claimed (header_claim h TableElement (with_position p n) k) no_claims)) (tail (with_position p n))
      arrays zero = below-opening p ArrayOfTables k (adding h k (tail []) 0) ∙ ap (claimed (header_claim h ArrayOfTables p k)) (added 0)
      arrays (suc n) = added (suc n)

  -- the claims of a section, beginning at the path p
  abbrev from : Path → List SimpleKey → Claims
  from p parts = followed (header_claims e h p parts) (tail (path_from e h p parts))

  -- through the latest of n entries
  below-entered : (p : Path) (k : SimpleKey) (ps : List SimpleKey) (n : ℕ) → ((q : Path) → below q (section_at (λ r. e (q ++ r)) h ps (tail [])) ≡ from q ps)
      → below p (entered n (λ r. e (p ++ r)) (passing h k ps (tail []))) ≡ claimed (header_claim h Passed (enter n p) k) (from (enter n p) ps)
  unfolding enter
  below-entered p k ps zero ih = below-opening p Passed k (section_at (λ r. e (p ++ r)) h ps (tail [])) ∙ ap (claimed (header_claim h Passed p k)) (ih p)
  below-entered p k ps (suc n) ih =
      let q = with_position p n in
      below-under p (position n) (passing h k ps (tail []) (λ r. e (p ++ (position n ∷ r)))) ∙ ap (λ f. below q (passing h k ps (tail []) f)) (onward e p (position n))
      ∙ below-opening q Passed k (section_at (λ r. e (q ++ r)) h ps (tail [])) ∙ ap (claimed (header_claim h Passed q k)) (ih q)

  section_more : (k : SimpleKey) (rest : List SimpleKey) (p : Path) → below p (section_at (λ q. e (p ++ q)) h (k ∷ rest) (tail [])) ≡ from p (k ∷ rest)
  unfolding section_at header_claims target followed
  section_more k [] p = let q = with_key p k in below-under p (key k.name) (ending h k (tail []) (e q)) ∙ below-ending q k (e q)
  section_more k (l ∷ more) p =
      let q = with_key p k in
      below-under p (key k.name) (entered (e q) (λ r. e (p ++ (key k.name ∷ r))) (passing h k (l ∷ more) (tail [])))
      ∙ ap (λ f. below q (entered (e q) f (passing h k (l ∷ more) (tail [])))) (onward e p (key k.name))
      ∙ below-entered q k (l ∷ more) (e q) (λ r. section_more l more r)

  section_at-from : (parts : List SimpleKey) → (parts ≡ [] → h.array ≡ false) → section_at e h parts (tail []) ≡ from [] parts
  unfolding section_at header_claims target followed below
  section_at-from [] header = rw (header refl)
  section_at-from (k ∷ rest) header = section_more k rest []

-- the claims of a section, seen from the root
pub section_at-is : (e : Path → ℕ) (b : ParsedSection) → (b.header ≡ [] → b.array ≡ false)
    → section_at e (header_info b) b.header (assignments_claims b.assignments []) ≡ section_claims e b
unfolding section_claims
section_at-is e b header = section_at-from (header_info b) (assignments_claims b.assignments) (assignments_claims-under b.assignments) e b.header header

-- ---- the number of entries afterwards

-- the number below the part k and after it
pub counts_after-through : (e : Path → ℕ) (h : HeaderInfo) (k : SimpleKey) (rest : List SimpleKey)
    → counts_after e h (k ∷ rest) ≡ graft (key k.name) e (counts_after_through (λ q. e (key k.name ∷ q)) h rest)
unfolding counts_after
counts_after-through e h k rest = grind (arith, nat_tests, common_steps)

-- the counts e, with others below a path
grafted : Path → (Path → ℕ) → (Path → ℕ) → Path → ℕ
grafted [] e f = f
grafted (s ∷ p) e f = graft s e (grafted p (λ q. e (s ∷ q)) f)

grafted-graft : (p : Path) (s : Step) (e f : Path → ℕ) → grafted p e (graft s (λ q. e (p ++ q)) f) ≡ grafted (p ++ (s ∷ [])) e f
unfolding grafted
grafted-graft [] s e f = refl
grafted-graft (t ∷ p) s e f = ap (graft t e) (grafted-graft p s (λ q. e (t ∷ q)) f)

grafted-itself : (p : Path) (e : Path → ℕ) → grafted p e (λ q. e (p ++ q)) ≡ e
unfolding grafted
grafted-itself [] e = refl
grafted-itself (s ∷ p) e = ap (graft s e) (grafted-itself p (λ q. e (s ∷ q))) ∙ graft-itself s e

-- one more entry at a path
abbrev bump : Path → (Path → ℕ) → Path → ℕ
bump t e p = if same_path t p then suc (e p) else e p

grafted-more : (p : Path) (e : Path → ℕ) → grafted p e (counts_after_adding (λ q. e (p ++ q))) ≡ bump p e
unfolding grafted same_path
grafted-more [] e = path_ext refl (λ t q. refl)
grafted-more (s ∷ p) e =
    ap (graft s e) (grafted-more p (λ q. e (s ∷ q)))
    ∙ sym (graft-is s e (bump p (λ q. e (s ∷ q))) (bump (s ∷ p) e) refl (fun_ext (λ q. rw (same_step-self s))) (λ t q off. rw off))

module _ (h : HeaderInfo) (e : Path → ℕ) where
  -- how a header changes the counts
  abbrev assembles : Path → List SimpleKey → Path → ℕ
  assembles p parts = cond h.array (bump (target e p parts) e) e

  grafted-here : (p : Path) → grafted p e (counts_after_end (λ q. e (p ++ q)) h) ≡ cond h.array (bump p e) e
  grafted-here p =
      elim (cases_Bool h.array) [
        | inl arr ↦ rw arr (grafted-more p e)
        | inr tab ↦ rw tab (grafted-itself p e)
      ]

  -- through the latest of n entries
  grafted-below : (p : Path) (ps : List SimpleKey) (n : ℕ) → ((q : Path) → grafted q e (counts_after (λ r. e (q ++ r)) h ps) ≡ assembles q ps)
      → grafted p e (counts_after_entered n (λ r. e (p ++ r)) (λ f. counts_after f h ps)) ≡ assembles (enter n p) ps
  unfolding enter
  grafted-below p ps zero ih = ih p
  grafted-below p ps (suc n) ih = grind (arith, nat_tests, common_steps, grafted-graft, onward)

  counts_after-more : (k : SimpleKey) (rest : List SimpleKey) (p : Path) → grafted p e (counts_after (λ q. e (p ++ q)) h (k ∷ rest)) ≡ assembles p (k ∷ rest)
  unfolding counts_after target
  counts_after-more k [] p =
      grafted-graft p (key k.name) e (counts_after_end (λ r. e (p ++ (key k.name ∷ r))) h)
      ∙ ap (λ f. grafted (with_key p k) e (counts_after_end f h)) (onward e p (key k.name)) ∙ grafted-here (with_key p k)
  counts_after-more k (l ∷ more) p =
      let q = with_key p k in
      grafted-graft p (key k.name) e (counts_after_entered (e q) (λ r. e (p ++ (key k.name ∷ r))) (λ f. counts_after f h (l ∷ more)))
      ∙ ap (λ f. grafted q e (counts_after_entered (e q) f (λ g. counts_after g h (l ∷ more)))) (onward e p (key k.name))
      ∙ grafted-below q (l ∷ more) (e q) (λ r. counts_after-more l more r)

  counts_after-assembles : (parts : List SimpleKey) → (parts ≡ [] → h.array ≡ false) → counts_after e h parts ≡ assembles [] parts
  unfolding counts_after grafted
  counts_after-assembles [] header = rw (header refl)
  counts_after-assembles (k ∷ rest) header = counts_after-more k rest []

-- one more path among the opened ones
bump-entries : (t : Path) (before : List Path) → bump t (elements_added before) ≡ elements_added (t ∷ before)
bump-entries t before = fun_ext (λ p. elim (cases_Bool (same_path t p)) [ inl here ↦ rw here | inr off ↦ rw off ])

-- the number of entries after a section
pub counts_after-is : (earlier : List ParsedSection) (b : ParsedSection) → (b.header ≡ [] → b.array ≡ false)
    → counts_after (elements_added (opened_by earlier)) (header_info b) b.header ≡ elements_added (opened_by (b ∷ earlier))
unfolding opened_by
counts_after-is earlier b header = grind (arith, nat_tests, common_steps, bump-entries, counts_after-assembles)
