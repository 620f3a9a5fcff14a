-- An array in brackets or an inline table is a document of its own, which has the same places below its only key as the
-- value has below its path.
use Rattle.std.specs.Option.{option_or}
use Rattle.std.proofs.lemmas.List.Elements.{filter-append}
use Rattle.toml_span_lex.proofs.Common.{◌≡◌, ℕ, List, [], ◌∷◌, ◌++◌, Option, Some, None, refl, sym, ap, ◌∙◌, subst, append-nil, inl, inr, cases_Bool, arith, nat_tests, common_steps, suc, option_map, append_assoc, append_cancel_left, length, codes, find, slice_get}
use Rattle.toml_span_tree.specs.Node.{Scalar}
use Rattle.toml_span_tree.specs.Path.{Path, shape_scalar, Step, key, position, Place, place_at}
use Rattle.toml_span_read.specs.Data.{ParsedValue, parsed, scalar, array, inline, parsed_span, ParsedSection, ParsedItems, no_items, item, ParsedPairs, no_pairs, pair, headerless_section, SimpleKey}
use Rattle.toml_span_read.specs.Grammar.{SpellsDocument}
use Rattle.toml_span.specs.declared.claims.ClaimKind.TheVariants.{Assigned}
use Rattle.toml_span.specs.Claims.{Claim, Claims, no_claims, claimed, scope, followed, value_claims, inner_claims, item_claims, pair_claims, value_shape, claims, key_claims, element, assigned, dotted, assignments_claims, header_claims, section_claims, claims_after}
use Rattle.toml_span.specs.Clashes.{Resolves, clash_kind}
use Rattle.toml_span.specs.Flat.{by_header, all_claims, deciding_claim, flat}
use Rattle.toml_span_read.specs.Paths.{same_path, with_key, with_position, target, opened_by}
use Rattle.toml_span_read.proofs.PathLemmas.{same_path-eq, same_step-self}
use Rattle.toml_span.proofs.EachClaim.{claims_at}
use Rattle.toml_span_read.proofs.ReadSound.{document_sound}
use Rattle.toml_span_laws.proofs.Complete.{document_complete}
use Rattle.toml_span_laws.specs.Clashing.{IsIn, DoClash}
use Rattle.toml_span_laws.specs.Laws.{AssignsAgain, ValueReadsAgain}
use Rattle.toml_span_laws.proofs.FirstClash.{AreFree, none-after}
use Rattle.toml_span_laws.proofs.Apart.{in-cases}
use Rattle.toml_span_laws.proofs.ReadAgain.{document-again}
use Rattle.toml_span_laws.proofs.OneScope.{path-self, Scene, claim-before, document-scene, outside, scene-after, scene-claimed, scene-inside, scope-before, scoped-under, do-clash}
use Rattle.toml_span_laws.proofs.Order.{all_claims-followed}
use Rattle.toml_span_laws.proofs.Scoped.{IsUnder, under-from, longer}
use Rattle.toml_span_laws.specs.Again.{moved, moved_items, moved_pairs, moved_parts, moved_span, ReadsAgain, assignment_again}
use Rattle.toml_span_laws.specs.Moved.{moved_place, HasMovedPlaces, AssignsBrackets, text_again, at_x}
use Rattle.toml_span_laws.proofs.FirstPair.{clash-blames, free-clash, free-of}
use Rattle.toml_span_lex.specs.declared.span.Span.{Span}
use Rattle.toml_span_tree.specs.Value.{view}
use Rattle.toml_span_tree.specs.declared.value.Value.{Value}
use Rattle.toml_span.specs.Parsing.{IsTree}
use Rattle.toml_span_laws.specs.Outcomes.{HasOutcome, resolved}
use Rattle.toml_span_laws.proofs.Pointed.{tree-value}
use Rattle.toml_span_laws.specs.Document.{subtree, without_key}
use Rattle.toml_span_laws.proofs.OneSpelled.{document_unique}
use Rattle.toml_span.proofs.Grafts.{followed-none}

-- ---- if no two claims clash, a claim that assigns in brackets is alone on its path, with its value's claims below it

-- ---- claims at a path

pub at-none : (q : Path) (l : List Claim) → ((d : Claim) → IsIn d l → d.path ≡ q → ⊥) → claims_at q l ≡ []
at-none q [] h = refl
at-none q (c ∷ l) h = elim (cases_Bool (same_path c.path q)) [
  | inl here ↦ absurd (h c (inl refl) (same_path-eq c.path q here))
  | inr off ↦ rw off (at-none q l (λ d there. h d (inr there)))
]

at-left : (q : Path) (xs ys : List Claim) → ((d : Claim) → IsIn d ys → d.path ≡ q → ⊥) → claims_at q (xs ++ ys) ≡ claims_at q xs
at-left q xs ys h = filter-append (λ c. same_path c.path q) xs ys ∙ ap (λ l. claims_at q xs ++ l) (at-none q ys h) ∙ append-nil (claims_at q xs)

at-right : (q : Path) (xs ys : List Claim) → ((d : Claim) → IsIn d xs → d.path ≡ q → ⊥) → claims_at q (xs ++ ys) ≡ claims_at q ys
at-right q xs ys h = filter-append (λ c. same_path c.path q) xs ys ∙ ap (λ l. l ++ claims_at q ys) (at-none q xs h)

-- ---- the claim and its value

-- The claim's value is read again, without clashes, all its claims are below the claim, and there is nothing else on
-- the claim's path or below it.
pub record Alone (text : List ℕ) (limit : ℕ) (c : Claim) (cs : Claims) : Type 0 where
  pub value : ParsedValue
  pub again : ValueReadsAgain text limit value
  pub shape : c.place.shape ≡ value_shape value
  pub span : c.place.span ≡ parsed_span value
  pub brackets : (s : Scalar) → value_shape value ≡ shape_scalar s → ⊥
  pub resolves : AreFree [] (value_claims value c.path)
  pub below : (d : Claim) → IsIn d (all_claims (value_claims value c.path)) → IsUnder c.path d.path
  pub only : (r : Path) → claims_at (c.path ++ r) (all_claims cs) ≡ claims_at (c.path ++ r) (c ∷ all_claims (value_claims value c.path))

-- the same among other claims
among-more : (text : List ℕ) (limit : ℕ) (c : Claim) (cs more : Claims) → Alone text limit c cs → ((r : Path) → claims_at (c.path ++ r) (all_claims more) ≡ claims_at (c.path ++ r) (all_claims cs)) → Alone text limit c more
among-more text limit c cs more a same = grind (arith, nat_tests, common_steps)

bracket-scope : (v : ParsedValue) (p : Path) → ((s : Scalar) → value_shape v ≡ shape_scalar s → ⊥) → (inner : Claims) × (value_claims v p ≡ scope inner no_claims)
unfolding value_claims inner_claims
bracket-scope (parsed (scalar s) span) p brackets = absurd (brackets s refl)
bracket-scope (parsed (array vs) span) p brackets = (item_claims vs 0 p, refl)
bracket-scope (parsed (inline ps) span) p brackets = (pair_claims ps p, refl)

alone-here : (text : List ℕ) (limit : ℕ) (base : Path) (earlier : List Claim) (x : Claim) (v : ParsedValue) (rest : Claims) → Scene base earlier (Some x) (followed (value_claims v x.path) rest)
    → ValueReadsAgain text limit v → x.place.shape ≡ value_shape v → x.place.span ≡ parsed_span v → ((s : Scalar) → value_shape v ≡ shape_scalar s → ⊥)
    → Alone text limit x (claimed x (followed (value_claims v x.path) rest))
unfolding followed all_claims
alone-here text limit base earlier x v rest h again shape span brackets =
    let (inner, is) = bracket-scope v x.path brackets in
    let scene : Scene base earlier (Some x) (scope inner rest) = subst (λ c. Scene base earlier (Some x) (followed c rest)) is h in
    let mine = all_claims (value_claims v x.path) in
    record {
      value = v;
      again = again;
      shape = shape;
      span = span;
      brackets = brackets;
      resolves = subst (λ c. AreFree [] c) (sym is) (scene.resolves.0, tt);
      below = λ d here. scoped-under x.path [] None inner d scene.scoped.2 (subst (λ l. IsIn d l) (ap all_claims is ∙ append-nil (all_claims inner)) here);
      only = λ r.
          ap (λ l. claims_at (x.path ++ r) (x ∷ l)) (all_claims-followed (value_claims v x.path) rest)
          ∙ at-left (x.path ++ r) (x ∷ mine) (all_claims rest) (λ d more on. outside base earlier x inner rest d scene more (r, on));
    }

alone : (text : List ℕ) (limit : ℕ) (base : Path) (earlier : List Claim) (last : Option Claim) (cs : Claims) (c : Claim) → Scene base earlier last cs → AssignsAgain text limit cs → IsIn c (all_claims cs)
    → c.info.kind ≡ Assigned → ((s : Scalar) → c.place.shape ≡ shape_scalar s → ⊥) → Alone text limit c cs
unfolding all_claims
alone text limit base earlier last no_claims c h again here value brackets = absurd here
alone text limit base earlier last (claimed x cs) c h again (inl same) value brackets =
    grind (arith, nat_tests, common_steps, alone-here text limit base (earlier ++ (x ∷ [])) x, scene-claimed base earlier last x cs h)
alone text limit base earlier last (claimed x cs) c h again (inr more) value brackets =
    among-more text limit c cs (claimed x cs) (alone text limit base (earlier ++ (x ∷ [])) (Some x) cs c (scene-claimed base earlier last x cs h) again.1 more value brackets)
    (λ r. at-right (c.path ++ r) (x ∷ []) (all_claims cs) (λ d here on. grind (arith, nat_tests, common_steps, claim-before base earlier last x cs c h more value)))
alone text limit base earlier None (scope inner cs) c h again here value brackets = absurd h.scoped
alone text limit base earlier (Some a) (scope inner cs) c h again here value brackets = elim (in-cases c (all_claims inner) (all_claims cs) here) [
  | inl inside ↦
      among-more text limit c inner (scope inner cs) (alone text limit a.path [] None inner c (scene-inside base earlier a inner cs h) again.0 inside value brackets)
      (λ r. at-left (c.path ++ r) (all_claims inner) (all_claims cs) (λ d more on.
      let under = scoped-under a.path [] None inner c h.scoped.2 inside in
      let (s, t, is) = under-from a.path c.path d.path under (r, on) in
      outside base earlier a inner cs d h more (s ∷ t, is)))
  | inr more ↦
      among-more text limit c cs (scope inner cs) (alone text limit base earlier None cs c (scene-after base earlier a inner cs h) again.1 more value brackets)
      (λ r. at-right (c.path ++ r) (all_claims inner) (all_claims cs) (λ d inside on. scope-before base earlier a inner cs c d h more inside value (r, on)))
]

-- ---- documents

pub document-alone : (text : List ℕ) (limit : ℕ) (bs : List ParsedSection) (c : Claim) → SpellsDocument bs text limit → Resolves (claims bs) → IsIn c (all_claims (claims bs)) → c.info.kind ≡ Assigned
    → ((s : Scalar) → c.place.shape ≡ shape_scalar s → ⊥) → Alone text limit c (claims bs) × IsUnder [] c.path
document-alone text limit bs c h ok here value brackets =
    let scene = document-scene text limit bs h ok in
    (alone text limit [] [] None (claims bs) c scene (document-again bs text limit h) here value brackets, scoped-under [] [] None (claims bs) c scene.scoped here)

-- ---- the claims of a moved value are those of the value, moved

-- ---- claims

-- two paths with the same end, one after each start
abbrev pub Beside : Path → Path → Path → Path → Type 0
Beside p r q s = (tail : Path) × (q ≡ p ++ tail) × (s ≡ r ++ tail)

-- the other claim is this one, moved
pub record Moves (from to : ℕ) (p r : Path) (x y : Claim) : Type 0 where
  pub beside : Beside p r x.path y.path
  pub kind : y.info.kind ≡ x.info.kind
  pub place : y.place ≡ moved_place from to x.place

pub data AreMoved (from to : ℕ) (p r : Path) : Claims → Claims → Type 0 where
  none_moved : AreMoved from to p r no_claims no_claims
  claim_moved : (x y : Claim) (xs ys : Claims) → Moves from to p r x y → AreMoved from to p r xs ys → AreMoved from to p r (claimed x xs) (claimed y ys)
  scope_moved : (a b xs ys : Claims) → AreMoved from to p r a b → AreMoved from to p r xs ys → AreMoved from to p r (scope a xs) (scope b ys)

followed-moved : (from to : ℕ) (p r : Path) (xs ys us vs : Claims) → AreMoved from to p r xs ys → AreMoved from to p r us vs → AreMoved from to p r (followed xs us) (followed ys vs)
unfolding followed
followed-moved from to p r _ _ us vs none_moved g = g
followed-moved from to p r _ _ us vs (claim_moved x y xs ys m h) g = claim_moved x y (followed xs us) (followed ys vs) m (followed-moved from to p r xs ys us vs h g)
followed-moved from to p r _ _ us vs (scope_moved a b xs ys i h) g = scope_moved a b (followed xs us) (followed ys vs) i (followed-moved from to p r xs ys us vs h g)

beside-step : (p r q s : Path) (x : Step) → Beside p r q s → Beside p r (q ++ (x ∷ [])) (s ++ (x ∷ []))
beside-step p r q s x (tail, is, on) =
    (tail ++ (x ∷ []), ap (λ l. l ++ (x ∷ [])) is ∙ append_assoc p tail (x ∷ []), ap (λ l. l ++ (x ∷ [])) on ∙ append_assoc r tail (x ∷ []))

-- ---- values

dotted-moved : (from to : ℕ) (v : ParsedValue) (k : SimpleKey) (p r q s : Path) → Beside p r q s → Moves from to p r (dotted q k v) (dotted s (record { name = k.name; span = moved_span from to k.span }) (moved from to v))
dotted-moved from to (parsed i span) k p r q s b = record { beside = b; kind = refl; place = refl }

key-moved : (from to : ℕ) (parts : List SimpleKey) (v : ParsedValue) (p r q s : Path) (inside other : Path → Claims) → Beside p r q s → ((t u : Path) → Beside p r t u → AreMoved from to p r (inside t) (other u))
    → AreMoved from to p r (key_claims q parts v inside) (key_claims s (moved_parts from to parts) (moved from to v) other)
unfolding key_claims
key-moved from to [] v p r q s inside other b h = none_moved
key-moved from to (k ∷ []) v p r q s inside other b h =
    let n = beside-step p r q s (key k.name) b in
    claim_moved (assigned (with_key q k) k v) _ (inside (with_key q k)) _ (grind (arith, nat_tests, common_steps)) (h (with_key q k) (with_key s k) n)
key-moved from to (k ∷ l ∷ more) v p r q s inside other b h =
    let n = beside-step p r q s (key k.name) b in
    claim_moved (dotted (with_key q k) k v) _ (key_claims (with_key q k) (l ∷ more) v inside) _ (dotted-moved from to v k p r (with_key q k) (with_key s k) n)
    (key-moved from to (l ∷ more) v p r (with_key q k) (with_key s k) inside other n h)

mutual
  unfolding value_claims inner_claims item_claims pair_claims

  pub value-moved : (v : ParsedValue) (from to : ℕ) (p r q s : Path) → Beside p r q s → AreMoved from to p r (value_claims v q) (value_claims (moved from to v) s)
  value-moved (parsed (scalar x) span) from to p r q s b = none_moved
  value-moved (parsed (array vs) span) from to p r q s b = scope_moved (item_claims vs 0 q) (item_claims (moved_items from to vs) 0 s) no_claims no_claims (items-moved vs 0 from to p r q s b) none_moved
  value-moved (parsed (inline ps) span) from to p r q s b = scope_moved (pair_claims ps q) (pair_claims (moved_pairs from to ps) s) no_claims no_claims (pairs-moved ps from to p r q s b) none_moved

  items-moved : (vs : ParsedItems) (n : ℕ) (from to : ℕ) (p r q s : Path) → Beside p r q s → AreMoved from to p r (item_claims vs n q) (item_claims (moved_items from to vs) n s)
  items-moved no_items n from to p r q s b = none_moved
  items-moved (item v vs) n from to p r q s b =
      let m = beside-step p r q s (position n) b in
      claim_moved (element (with_position q n) v) (element (with_position s n) (moved from to v)) _ _ (grind (arith, nat_tests, common_steps))
      (followed-moved from to p r (value_claims v (with_position q n)) (value_claims (moved from to v) (with_position s n)) (item_claims vs (suc n) q) (item_claims (moved_items from to vs) (suc n) s)
      (value-moved v from to p r (with_position q n) (with_position s n) m) (items-moved vs (suc n) from to p r q s b))

  pairs-moved : (ps : ParsedPairs) (from to : ℕ) (p r q s : Path) → Beside p r q s → AreMoved from to p r (pair_claims ps q) (pair_claims (moved_pairs from to ps) s)
  pairs-moved no_pairs from to p r q s b = none_moved
  pairs-moved (pair parts v x ps) from to p r q s b = grind (arith, nat_tests, common_steps, pairs-moved ps, value-moved v, followed-moved, key-moved)

-- ---- lists

pub data AllMoved (from to : ℕ) (p r : Path) : List Claim → List Claim → Type 0 where
  no_more : AllMoved from to p r [] []
  one_more : (x y : Claim) (xs ys : List Claim) → Moves from to p r x y → AllMoved from to p r xs ys → AllMoved from to p r (x ∷ xs) (y ∷ ys)

append-moved : (from to : ℕ) (p r : Path) (xs ys us vs : List Claim) → AllMoved from to p r xs ys → AllMoved from to p r us vs → AllMoved from to p r (xs ++ us) (ys ++ vs)
append-moved from to p r _ _ us vs no_more g = g
append-moved from to p r _ _ us vs (one_more x y xs ys m h) g = one_more x y (xs ++ us) (ys ++ vs) m (append-moved from to p r xs ys us vs h g)

pub all-moved : (from to : ℕ) (p r : Path) (xs ys : Claims) → AreMoved from to p r xs ys → AllMoved from to p r (all_claims xs) (all_claims ys)
unfolding all_claims
all-moved from to p r _ _ none_moved = no_more
all-moved from to p r _ _ (claim_moved x y xs ys m h) = one_more x y (all_claims xs) (all_claims ys) m (all-moved from to p r xs ys h)
all-moved from to p r _ _ (scope_moved a b xs ys i h) = append-moved from to p r (all_claims a) (all_claims b) (all_claims xs) (all_claims ys) (all-moved from to p r a b i) (all-moved from to p r xs ys h)

-- the claim from which a claim was moved
pub source : (from to : ℕ) (p r : Path) (xs ys : List Claim) (y : Claim) → AllMoved from to p r xs ys → IsIn y ys → (x : Claim) × IsIn x xs × Moves from to p r x y
source from to p r _ _ y no_more here = absurd here
source from to p r _ _ y (one_more x z xs ys m h) (inl same) = (x, inl refl, subst (λ w. Moves from to p r x w) (sym same) m)
source from to p r _ _ y (one_more x z xs ys m h) (inr more) = let (w, among, moves) = source from to p r xs ys y h more in (w, inr among, moves)

same-front : (p t q : Path) → same_path (p ++ t) (p ++ q) ≡ same_path t q
unfolding same_path
same-front [] t q = refl
same-front (s ∷ p) t q = rw (same_step-self s) (same-front p t q)

-- the claims at one path, and the moved ones at the other
pub at-moved : (from to : ℕ) (p r : Path) (xs ys : List Claim) (q : Path) → AllMoved from to p r xs ys → AllMoved from to p r (claims_at (p ++ q) xs) (claims_at (r ++ q) ys)
at-moved from to p r _ _ q no_more = no_more
at-moved from to p r _ _ q (one_more x y xs ys m h) =
    let (t, is, on) = m.beside in
    let here : same_path x.path (p ++ q) ≡ same_path t q = ap (λ l. same_path l (p ++ q)) is ∙ same-front p t q in
    let there : same_path y.path (r ++ q) ≡ same_path t q = ap (λ l. same_path l (r ++ q)) on ∙ same-front r t q in
    let rest = at-moved from to p r xs ys q h in
    elim (cases_Bool (same_path t q)) [
      | inl on_it ↦ rw (here, there, on_it) (one_more x y (claims_at (p ++ q) xs) (claims_at (r ++ q) ys) m rest)
      | inr off ↦ rw (here, there, off) rest
    ]

-- ---- what decides

-- the place of one claim is that of the other, moved
abbrev IsMoved : ℕ → ℕ → Option Claim → Option Claim → Type 0
IsMoved from to o p = option_map (λ c. c.place) p ≡ option_map (moved_place from to) (option_map (λ c. c.place) o)

first-moved : (from to : ℕ) (p r : Path) (xs ys : List Claim) → AllMoved from to p r xs ys → IsMoved from to (slice_get xs 0) (slice_get ys 0)
first-moved from to p r _ _ no_more = refl
first-moved from to p r _ _ (one_more x y xs ys m h) = ap Some m.place

header-moved : (from to : ℕ) (p r : Path) (xs ys : List Claim) → AllMoved from to p r xs ys → IsMoved from to (find (λ c. by_header c.info.kind) xs) (find (λ c. by_header c.info.kind) ys)
header-moved from to p r _ _ no_more = refl
header-moved from to p r _ _ (one_more x y xs ys m h) = grind (arith, nat_tests, common_steps, header-moved from to p r xs ys h)

or-moved : (from to : ℕ) (a b c d : Option Claim) → IsMoved from to a b → IsMoved from to c d → IsMoved from to (option_or a c) (option_or b d)
or-moved from to a b c d h g = grind (arith, nat_tests, common_steps)

pub decides-moved : (from to : ℕ) (p r : Path) (xs ys : List Claim) → AllMoved from to p r xs ys
    → option_map (λ c. c.place) (deciding_claim ys) ≡ option_map (moved_place from to) (option_map (λ c. c.place) (deciding_claim xs))
decides-moved from to p r xs ys h = grind (arith, nat_tests, common_steps, first-moved, header-moved, or-moved)

-- ---- clashes

clash-moved : (from to : ℕ) (p r : Path) (c x d y : Claim) → Moves from to p r c d → Moves from to p r x y → DoClash d y → DoClash c x
clash-moved from to p r c x d y m n clashes =
    let (same, (b, blames)) = clash-blames d y clashes in
    let (t, c_is, d_is) = m.beside in
    let (u, x_is, y_is) = n.beside in
    let tails = append_cancel_left r t u (sym d_is ∙ same ∙ y_is) in
    do-clash c x b (c_is ∙ ap (λ l. p ++ l) tails ∙ sym x_is) (ap (λ s. clash_kind s x.info.kind) (sym m.kind) ∙ ap (clash_kind d.info.kind) (sym n.kind) ∙ blames)

pub resolves-moved : (from to : ℕ) (p r : Path) (xs ys : Claims) (e f : List Claim) → AreMoved from to p r xs ys → AllMoved from to p r e f → AreFree e xs → AreFree f ys
resolves-moved from to p r _ _ e f none_moved g ok = tt
resolves-moved from to p r _ _ e f (claim_moved x y xs ys m h) g ok = (
  free-of f y (λ d here clashes.
      let (c, among, moves) = source from to p r e f d g here in
      free-clash e c x ok.0 among (clash-moved from to p r c x d y moves m clashes)),
  resolves-moved from to p r xs ys (e ++ (x ∷ [])) (f ++ (y ∷ [])) h (append-moved from to p r e f (x ∷ []) (y ∷ []) g (one_more x y [] [] m no_more)) ok.1,
)
resolves-moved from to p r _ _ e f (scope_moved a b xs ys i h) g ok = (resolves-moved from to p r a b [] [] i no_more ok.0, resolves-moved from to p r xs ys e f h g ok.1)

-- ---- the other document

-- the only assignment of the value that is read again
abbrev again_section : ParsedValue → List ParsedSection
again_section v = headerless_section (assignment_again v (parsed_span v).start (parsed_span v).end ∷ [])

abbrev x_part : SimpleKey
x_part = record { name = codes "x"; span = record { start = 0; end = 1 } }

abbrev x_claim : ParsedValue → Claim
x_claim v = assigned at_x x_part (moved (parsed_span v).start 4 v)

abbrev x_inside : ParsedValue → Claims
x_inside v = value_claims (moved (parsed_span v).start 4 v) at_x

again-claims : (v : ParsedValue) → claims (again_section v) ≡ claimed (x_claim v) (x_inside v)
unfolding claims_after section_claims header_claims assignments_claims key_claims followed target opened_by
again-claims v = grind (arith, nat_tests, common_steps, followed-none)

-- ---- the place at a path

flat-at : (n : ℕ) (cs : Claims) (s : Step) (p q : Path) → q ≡ s ∷ p → flat n cs q ≡ option_map (λ c. c.place) (deciding_claim (claims_at q (all_claims cs)))
unfolding flat
flat-at n cs s p q is = rw is refl

-- a value, and claims below it: the value decides on its path, and these claims below it
value-decides : (c : Claim) (l : List Claim) → c.info.kind ≡ Assigned → ((d : Claim) → IsIn d l → IsUnder c.path d.path) → deciding_claim (claims_at c.path (c ∷ l)) ≡ Some c
value-decides c l value under = grind (arith, nat_tests, common_steps, at-none, longer, path-self)

below-decides : (c : Claim) (l : List Claim) (s : Step) (r : Path) → claims_at (c.path ++ (s ∷ r)) (c ∷ l) ≡ claims_at (c.path ++ (s ∷ r)) l
below-decides c l s r =
    let q = c.path ++ (s ∷ r) in
    filter-append (λ d. same_path d.path q) (c ∷ []) l ∙ ap (λ x. x ++ claims_at q l) (at-none q (c ∷ []) (λ d here on. grind (arith, nat_tests, common_steps, longer)))

-- ---- the value at its path

bracket-reads : (text : List ℕ) (limit : ℕ) (v : ParsedValue) → ((s : Scalar) → value_shape v ≡ shape_scalar s → ⊥) → ValueReadsAgain text limit v → ReadsAgain text limit v
bracket-reads text limit (parsed (scalar s) span) brackets h = absurd (brackets s refl)
bracket-reads text limit v brackets h = h

any-earlier : (v : ParsedValue) (p : Path) (e f : List Claim) → AreFree e (value_claims v p) → AreFree f (value_claims v p)
unfolding value_claims inner_claims
any-earlier (parsed (scalar s) span) p e f h = tt
any-earlier v p e f h = h

x_moved : (c : Claim) (v : ParsedValue) → AreMoved (parsed_span v).start 4 c.path at_x (value_claims v c.path) (x_inside v)
x_moved c v = value-moved v (parsed_span v).start 4 c.path at_x c.path at_x ([], sym (append-nil c.path), refl)

x_all : (c : Claim) (v : ParsedValue) → AllMoved (parsed_span v).start 4 c.path at_x (all_claims (value_claims v c.path)) (all_claims (x_inside v))
x_all c v = all-moved (parsed_span v).start 4 c.path at_x (value_claims v c.path) (x_inside v) (x_moved c v)

x_below : (c : Claim) (v : ParsedValue) → ((d : Claim) → IsIn d (all_claims (value_claims v c.path)) → IsUnder c.path d.path) → (y : Claim) → IsIn y (all_claims (x_inside v)) → IsUnder at_x y.path
x_below c v below y here =
    let (x, among, moves) = source (parsed_span v).start 4 c.path at_x (all_claims (value_claims v c.path)) (all_claims (x_inside v)) y (x_all c v) here in
    let (t, is, on) = moves.beside in
    let (s, r, under) = below x among in
    (s, r, on ∙ ap (λ l. at_x ++ l) (append_cancel_left c.path t (s ∷ r) (sym is ∙ under)))

x_at : (v : ParsedValue) (q : Path) → claims_at q (all_claims (claims (again_section v))) ≡ claims_at q (x_claim v ∷ all_claims (x_inside v))
unfolding all_claims
x_at v q = ap (λ cs. claims_at q (all_claims cs)) (again-claims v)

x_resolves : (c : Claim) (v : ParsedValue) → AreFree [] (value_claims v c.path) → Resolves (claims (again_section v))
x_resolves c v ok =
    let inside = resolves-moved (parsed_span v).start 4 c.path at_x (value_claims v c.path) (x_inside v) [] [] (x_moved c v) no_more ok in
    none-after [] (claims (again_section v)) (subst (λ cs. AreFree [] cs) (sym (again-claims v)) (free-of [] (x_claim v) (λ c here. absurd here), any-earlier (moved (parsed_span v).start 4 v) at_x [] (x_claim v ∷ []) inside))

-- the claim's own place is at its path
alone-place : (text : List ℕ) (limit : ℕ) (c : Claim) (cs : Claims) (s : Step) (p : Path) (n : ℕ) → Alone text limit c cs → c.info.kind ≡ Assigned → c.path ≡ s ∷ p → flat n cs c.path ≡ Some c.place
alone-place text limit c cs s p n a value path =
    let l = c ∷ all_claims (value_claims a.value c.path) in
    let here : claims_at c.path (all_claims cs) ≡ claims_at c.path l = subst (λ q. claims_at q (all_claims cs) ≡ claims_at q l) (append-nil c.path) (a.only []) in
    flat-at n cs s p c.path path ∙ ap (λ l. option_map (λ c. c.place) (deciding_claim l)) here
    ∙ ap (option_map (λ c. c.place)) (value-decides c (all_claims (value_claims a.value c.path)) value a.below)

stands-moved : (text : List ℕ) (limit : ℕ) (c : Claim) (cs : Claims) (s : Step) (p : Path) (m n : ℕ) (a : Alone text limit c cs) → c.info.kind ≡ Assigned → c.path ≡ s ∷ p
    → HasMovedPlaces (parsed_span a.value).start 4 (flat m cs) c.path (flat n (claims (again_section a.value))) at_x
stands-moved text limit c cs s p m n a value path [] =
    let v = a.value in
    let first = alone-place text limit c cs s p m a value path in
    let other : flat n (claims (again_section v)) at_x ≡ Some (x_claim v).place =
    flat-at n (claims (again_section v)) (key (codes "x")) [] at_x refl ∙ ap (λ l. option_map (λ c. c.place) (deciding_claim l)) (x_at v at_x)
    ∙ ap (option_map (λ c. c.place)) (value-decides (x_claim v) (all_claims (x_inside v)) refl (x_below c v a.below)) in
    ap (option_map without_key) other ∙ ap Some (grind (arith, nat_tests, common_steps)) ∙ sym (ap (λ o. option_map (moved_place (parsed_span v).start 4) (option_map without_key o)) first)
stands-moved text limit c cs s p m n a value path (t ∷ r) =
    let v = a.value in
    let q = c.path ++ (t ∷ r) in
    let inside = all_claims (value_claims v c.path) in
    let first : flat m cs q ≡ option_map (λ c. c.place) (deciding_claim (claims_at q inside)) =
    flat-at m cs s (p ++ (t ∷ r)) q (ap (λ l. l ++ (t ∷ r)) path) ∙ ap (λ l. option_map (λ c. c.place) (deciding_claim l)) (a.only (t ∷ r) ∙ below-decides c inside t r) in
    let other : flat n (claims (again_section v)) (at_x ++ (t ∷ r)) ≡ option_map (λ c. c.place) (deciding_claim (claims_at (at_x ++ (t ∷ r)) (all_claims (x_inside v)))) =
    flat-at n (claims (again_section v)) (key (codes "x")) (t ∷ r) (at_x ++ (t ∷ r)) refl
    ∙ ap (λ l. option_map (λ c. c.place) (deciding_claim l)) (x_at v (at_x ++ (t ∷ r)) ∙ below-decides (x_claim v) (all_claims (x_inside v)) t r) in
    other ∙ decides-moved (parsed_span v).start 4 c.path at_x (claims_at q inside) (claims_at (at_x ++ (t ∷ r)) (all_claims (x_inside v)))
    (at-moved (parsed_span v).start 4 c.path at_x inside (all_claims (x_inside v)) (t ∷ r) (x_all c v)) ∙ sym (ap (option_map (moved_place (parsed_span v).start 4)) first)

-- ---- documents and trees

pub flat-place : (text : List ℕ) (limit n : ℕ) (bs : List ParsedSection) (c : Claim) → SpellsDocument bs text limit → Resolves (claims bs) → AssignsBrackets bs c → flat n (claims bs) c.path ≡ Some c.place
flat-place text limit n bs c h ok (here, value, brackets) =
    let (a, (s, p, path)) = document-alone text limit bs c h ok here value brackets in alone-place text limit c (claims bs) s p n a value path

-- the value of the claim is a document of its own, with the same places as in the claim's document
pub flat-again : (text : List ℕ) (limit : ℕ) (bs : List ParsedSection) (c : Claim) → SpellsDocument bs text limit → Resolves (claims bs) → AssignsBrackets bs c
    → (again : List ParsedSection) × HasOutcome (text_again text c.place.span) limit (resolved again)
    × HasMovedPlaces c.place.span.start 4 (flat (length text) (claims bs)) c.path (flat (length (text_again text c.place.span)) (claims again)) at_x
flat-again text limit bs c h ok (here, value, brackets) =
    let (a, (s, p, path)) = document-alone text limit bs c h ok here value brackets in
    let v = a.value in
    let n = length (text_again text (parsed_span v)) in
    subst (λ (x : Span). (again : List ParsedSection) × HasOutcome (text_again text x) limit (resolved again) × HasMovedPlaces x.start 4 (flat (length text) (claims bs)) c.path (flat (length (text_again text x)) (claims again)) at_x) (sym a.span)
    (again_section v, (document_complete (again_section v) (text_again text (parsed_span v)) limit (bracket-reads text limit v a.brackets a.again), x_resolves c v a.resolves), stands-moved text limit c (claims bs) s p (length text) n a value path)

part-same : (f g : Path → Option Place) (path p : Path) → ((q : Path) → f q ≡ g q) → subtree f path p ≡ subtree g path p
part-same f g path p same = grind (arith, nat_tests, common_steps)

shows-flat : (text : List ℕ) (limit : ℕ) (root : Value) (bs : List ParsedSection) (p : Path) → IsTree text limit root → SpellsDocument bs text limit → place_at p (view root) ≡ flat (length text) (claims bs) p
shows-flat text limit root bs p tree h = (tree-value text limit root bs tree h).1 p

tree-resolves : (text : List ℕ) (limit : ℕ) (root : Value) (bs : List ParsedSection) → IsTree text limit root → SpellsDocument bs text limit → Resolves (claims bs)
tree-resolves text limit root bs tree h =
    let (cs, has, shows) = tree in subst (λ l. Resolves (claims l)) (document_unique text limit cs bs (document_sound cs text limit has.0) h) has.1

pub tree-again : (text : List ℕ) (limit : ℕ) (root other : Value) (bs : List ParsedSection) (c : Claim) → SpellsDocument bs text limit → IsTree text limit root → AssignsBrackets bs c
    → IsTree (text_again text c.place.span) limit other → HasMovedPlaces c.place.span.start 4 (λ p. place_at p (view root)) c.path (λ p. place_at p (view other)) at_x
tree-again text limit root other bs c h tree is twin p =
    let b = text_again text c.place.span in
    let (again, outcome, stands) = flat-again text limit bs c h (tree-resolves text limit root bs tree h) is in
    part-same (λ q. place_at q (view other)) (flat (length b) (claims again)) at_x p (λ q. shows-flat b limit other again q twin (document_sound again b limit outcome.0)) ∙ stands p
    ∙ sym (ap (option_map (moved_place c.place.span.start 4)) (part-same (λ q. place_at q (view root)) (flat (length text) (claims bs)) c.path p (λ q. shows-flat text limit root bs q tree h)))
