-- The way of each key from the table of its section: a key of that section goes through none of its values, and a
-- dotted key that goes through a value is never the first clash.
use Rattle.toml_span_lex.proofs.Common.{◌≡◌, ℕ, suc, ◌+◌, List, [], ◌∷◌, ◌++◌, length, map, refl, sym, ap, ◌∙◌, subst, append_assoc, append-nil, inl, inr, ⊤, append_cancel_left, arith, nat_tests, common_steps, ◌<◌, ◌≤◌, ◌⊎◌, None, Bool, true, false, if◌then◌else◌}
use Rattle.toml_span_tree.specs.Path.{Path, key}
use Rattle.toml_span_read.specs.Data.{ParsedValue, parsed, scalar, array, inline, ParsedItems, no_items, item, ParsedPairs, no_pairs, pair, ParsedAssignment, ParsedSection, headerless_section, SimpleKey}
use Rattle.toml_span_read.specs.Earlier.{crossed, crossing, value_at, part_names}
use Rattle.toml_span_read.proofs.EarlierLemmas.{clear_to, crossed_clear}
use Rattle.toml_span_read.proofs.EarlierKnows.{none-before, none-last}
use Rattle.toml_span_read.specs.Grammar.{Spells, SpellsDocument, SpellsLines, ItemsWith, PairsWith, AssignmentsWith, SectionsWith, SpellsScalar}
use Rattle.toml_span_read.specs.Keys.{SpellsKey}
use Rattle.toml_span.specs.declared.claims.ClaimKind.TheVariants.{Dotted, Assigned, StandardTable}
use Rattle.toml_span.specs.Claims.{Claim, Claims, no_claims, claimed, scope, followed, key_claims, value_claims, inner_claims, item_claims, pair_claims, assignments_claims, element, assigned, dotted, header_claim, end_claims, header_claims, section_claims, claims_after, claims, header_info}
use Rattle.toml_span_read.specs.Paths.{with_key, with_position, enter, target, elements_added, opened_by, section_path}
use Rattle.toml_span_laws.specs.Clashing.{DoClash, IsIn, own, IsPair, IsFirstPair}
use Rattle.toml_span_laws.proofs.Apart.{in-cases, in-right, pairs-split, IsLater, Pairs, rising-later}
use Rattle.toml_span_laws.proofs.OneScope.{Peaceful, do-clash, peaceful-across, peaceful-push, peaceful-two, two-of, path-self}
use Rattle.toml_span_laws.proofs.Scoped.{Above, Along, Has, IsUnder, Walk, above-child, above-on, along-base, along-child, along-on, from-cases, has-on, on-one-way, walk-claimed, walk-followed, key-position, nil-under}
use Rattle.toml_span.specs.declared.claims.ClashKind.TheVariants.{DuplicateTable, DuplicateKey}
use Rattle.toml_span.specs.declared.claims.HeaderInfo.{HeaderInfo}
use Rattle.toml_span.specs.Clashes.{clash_kind}
use Rattle.toml_span.specs.Flat.{all_claims, by_header}
use Rattle.toml_span_laws.specs.Order.{claim_start}
use Rattle.toml_span_laws.proofs.FirstPair.{clash-blames, free-of, pair-late}
use Rattle.toml_span_laws.proofs.SpelledClaims.{Headed, header-headed}
use Rattle.toml_span_laws.proofs.Order.{document-rises}

-- ---- ways

-- a dotted key claims the table at the path, which ends with a key
abbrev pub IsDotted : List Claim → Path → Type 0
IsDotted l p = Has l Dotted p × (q : Path) × (k : List ℕ) × (p ≡ q ++ (key k ∷ []))

-- From a table at the base the path continues, and each table on the way is claimed by a dotted key.
abbrev pub Way : List Claim → Path → Path → Type 0
Way l base p = Above (IsDotted l) base p

dotted-on : (l more : List Claim) (p : Path) → IsDotted l p → IsDotted (l ++ more) p
dotted-on l more p (made, q, k, is) = (has-on l more Dotted p made, q, k, is)

pub way-on : (l more : List Claim) (base p : Path) → Way l base p → Way (l ++ more) base p
way-on l more base p way = above-on (IsDotted l) (IsDotted (l ++ more)) base p (dotted-on l more) way

-- Tables at which sections begin: none is below another one and claimed by a dotted key.
pub record Bases (R : List Claim → Path → Type 0) : Type 0 where
  pub more : (l m : List Claim) (p : Path) → R l p → R (l ++ m) p
  pub apart : (l : List Claim) (a b : Path) → R l a → R l b → IsUnder a b → IsDotted l b → Peaceful l → ⊥

-- two ways to the same path begin at the same table
one-base : (R : List Claim → Path → Type 0) (laws : Bases R) (l : List Claim) (a b p : Path) → R l a → R l b → Peaceful l → Way l a p → Way l b p → a ≡ b
one-base R laws l a b p ra rb peace (above, way) (below, other) =
    elim (on-one-way a b (above.0 ∷ above.1) (below.0 ∷ below.1) (sym above.2 ∙ below.2)) [
      | inl from ↦ elim (from-cases a b from) [ inl same ↦ same | inr under ↦ absurd (laws.apart l a b ra rb under (way b under below) peace) ]
      | inr from ↦ elim (from-cases b a from) [ inl same ↦ sym same | inr under ↦ absurd (laws.apart l b a rb ra under (other a under above) peace) ]
    ]

-- ---- the values of a section

-- the path of these parts
abbrev keys : List SimpleKey → Path
keys parts = map key (part_names parts)

-- The path is not that of an assignment, except for these.
abbrev pub Bars : Path → List ParsedAssignment → Path → Type 0
Bars base es p = (names : List (List ℕ)) → value_at es names ≡ None → p ≡ base ++ map key names → ⊥

-- a way to the path from a table at which a section begins
pub record Traced (R : List Claim → Path → Type 0) (l : List Claim) (p : Path) : Type 0 where
  pub base : Path
  pub root : R l base
  pub way : Way l base p

-- Each value has such a way, and if it begins at this base, the value's path is that of one of these assignments.
abbrev pub Known : (List Claim → Path → Type 0) → Path → List ParsedAssignment → List Claim → Type 0
Known R base es l =
    (c : Claim) → IsIn c l → c.info.kind ≡ Assigned → (t : Traced R l c.path) × (t.base ≡ base → Peaceful l → Bars base es c.path)

traced-on : (R : List Claim → Path → Type 0) (laws : Bases R) (l more : List Claim) (p : Path) → Traced R l p → Traced R (l ++ more) p
traced-on R laws l more p t = record { base = t.base; root = laws.more l more t.base t.root; way = way-on l more t.base p t.way }

-- after claims that do not assign, except for one that assigns this
known-on : (R : List Claim → Path → Type 0) (laws : Bases R) (base : Path) (es fs : List ParsedAssignment) (l more : List Claim) → Known R base es l → ((names : List (List ℕ)) → value_at fs names ≡ None → value_at es names ≡ None)
    → ((c : Claim) → IsIn c more → c.info.kind ≡ Assigned → Traced R (l ++ more) c.path × Bars base fs c.path) → Known R base fs (l ++ more)
unfolding traced-on
known-on R laws base es fs l more known wide new c here is = elim (in-cases c l more here) [
  | inl before ↦
      let (t, from) = known c before is in
      (traced-on R laws l more c.path t, λ same peace names none. from same (pairs-split (λ x y. DoClash x y → ⊥) l more peace).0 names (wide names none))
  | inr beyond ↦ let (t, there) = new c beyond is in (t, λ same peace. there)
]

-- ---- a key that goes through no value

not-clear : (base : Path) (es : List ParsedAssignment) (next : ParsedAssignment) (outer : List SimpleKey) (k m : SimpleKey) (more : List SimpleKey) (p : Path) → crossing es next ≡ None → next.parts ≡ outer ++ (k ∷ m ∷ more)
    → Bars base es p → p ≡ base ++ keys (outer ++ (k ∷ [])) → ⊥
not-clear base es next outer k m more p clear is bars on =
    bars (part_names (outer ++ (k ∷ []))) (crossed_clear (value_at es) outer k m more (ap (crossed (value_at es)) (sym is) ∙ clear_to es next clear)) on

key-names : (xs ys : List (List ℕ)) → map key xs ≡ map key ys → xs ≡ ys
key-names [] [] h = refl
key-names [] (y ∷ ys) h = cc
key-names (x ∷ xs) [] h = cc
key-names (x ∷ xs) (y ∷ ys) h = grind (arith, nat_tests, common_steps, key-names xs)

-- ---- claims

-- A dotted key's claim is never on the path of an earlier value of its scope, if the earlier claims do not clash.
abbrev pub Guarded : List Claim → Claims → Type 0
Guarded earlier no_claims = ⊤
Guarded earlier (claimed c cs) =
    (c.info.kind ≡ Dotted → Peaceful earlier → (e : Claim) → IsIn e earlier → e.info.kind ≡ Assigned → e.path ≡ c.path → ⊥) × Guarded (earlier ++ (c ∷ [])) cs
Guarded earlier (scope inner cs) = Guarded [] inner × Guarded earlier cs

pub guarded-followed : (earlier : List Claim) (xs ys : Claims) → Guarded earlier xs → Guarded (earlier ++ own xs) ys → Guarded earlier (followed xs ys)
unfolding followed
guarded-followed earlier no_claims ys h g = subst (λ l. Guarded l ys) (append-nil earlier) g
guarded-followed earlier (claimed c xs) ys h g = grind (arith, nat_tests, common_steps, guarded-followed (earlier ++ (c ∷ [])) xs)
guarded-followed earlier (scope inner xs) ys h g = (h.0, guarded-followed earlier xs ys h.1 g)

-- claims after these earlier ones, with the values of these assignments
abbrev pub Walked : (List Claim → Path → Type 0) → Path → List ParsedAssignment → List Claim → Claims → Type 0
Walked R base es l cs = Walk Guarded (Known R base es) l cs

-- the path of a part after outer ones
part-at : (base p : Path) (outer : List SimpleKey) (k : SimpleKey) → p ≡ base ++ keys outer → with_key p k ≡ base ++ keys (outer ++ (k ∷ []))
part-at base p outer k on = grind (arith, nat_tests, common_steps)

key-walk : (R : List Claim → Path → Type 0) (laws : Bases R) (base : Path) (es : List ParsedAssignment) (next : ParsedAssignment) (outer parts : List SimpleKey) (v : ParsedValue) (inside : Path → Claims) (l : List Claim) (p : Path)
    → crossing es next ≡ None → R l base → next.parts ≡ outer ++ parts → p ≡ base ++ keys outer → Along (IsDotted l) base p → Known R base es l
    → ((q : Path) → own (inside q) ≡ []) → ((q : Path) (m : List Claim) → Guarded m (inside q)) → Walked R base (es ++ (next ∷ [])) l (key_claims p parts v inside)
unfolding key_claims
key-walk R laws base es next outer [] v inside l p clear root is on way known none inner = record {
  tree = tt;
  all = known-on R laws base es (es ++ (next ∷ [])) l [] known (λ names. none-before names es next) (λ c here kind. absurd here);
}
key-walk R laws base es next outer (k ∷ []) v inside l p clear root is on way known none inner =
    let q = with_key p k in
    let a = assigned q k v in
    let at : q ≡ base ++ keys next.parts = part-at base p outer k on ∙ ap (λ ps. base ++ keys ps) (sym is) in
    let mine : Traced R (l ++ (a ∷ [])) q = record { base = base; root = laws.more l (a ∷ []) base root; way = way-on l (a ∷ []) base q (above-child (IsDotted l) base p (key k.name) way) } in
    let found : Bars base (es ++ (next ∷ [])) q = λ names none there. none-last names es next none (key-names (part_names next.parts) names (append_cancel_left base (keys next.parts) (map key names) (sym at ∙ there))) in
    record {
      tree = ((λ dotted. absurd (let no : Assigned ≡ Dotted = dotted in cc)), inner q (l ++ (a ∷ [])));
      all = subst (λ xs. Known R base (es ++ (next ∷ [])) (l ++ (a ∷ xs))) (sym (none q))
          (known-on R laws base es (es ++ (next ∷ [])) l (a ∷ []) known (λ names. none-before names es next) (λ c here kind. grind (arith, nat_tests, common_steps)));
    }
key-walk R laws base es next outer (k ∷ m ∷ more) v inside l p clear root is on way known none inner =
    let q = with_key p k in
    let d = dotted q k v in
    let at = part-at base p outer k on in
    let there : IsDotted (l ++ (d ∷ [])) q = ((d, in-right d l (d ∷ []) (inl refl), refl, refl), p, k.name, refl) in
    let plain = known-on R laws base es es l (d ∷ []) known (λ names h. h) (λ c here kind. grind (arith, nat_tests, common_steps)) in
    walk-claimed Guarded (Known R base (es ++ (next ∷ []))) l d (key_claims q (m ∷ more) v inside)
    (λ rest. (
      (λ dotted peace e here kind same.
          let (t, from) = known e here kind in
          let one = one-base R laws l t.base base q t.root root peace (subst (Way l t.base) same t.way) (above-child (IsDotted l) base p (key k.name) way) in
          not-clear base es next outer k m more e.path clear is (from one peace) (same ∙ at)),
      rest,
    ))
    (key-walk R laws base es next (outer ++ (k ∷ [])) (m ∷ more) v inside (l ++ (d ∷ [])) q clear (laws.more l (d ∷ []) base root) (is ∙ sym (append_assoc outer (k ∷ []) (m ∷ more))) at
    (along-child (IsDotted (l ++ (d ∷ []))) base p (key k.name) (along-on (IsDotted l) (IsDotted (l ++ (d ∷ []))) base p (dotted-on l (d ∷ [])) way) there) plain none inner)

-- ---- values

value-own : (v : ParsedValue) (p : Path) → own (value_claims v p) ≡ []
unfolding value_claims inner_claims
value-own (parsed (scalar s) span) p = refl
value-own v p = refl

-- the keys of an inline table all begin at it
abbrev IsAt : Path → List Claim → Path → Type 0
IsAt p l q = q ≡ p

-- a key with this base, whose walk begins
begun : (R : List Claim → Path → Type 0) (laws : Bases R) (base : Path) (es : List ParsedAssignment) (next : ParsedAssignment) (l : List Claim) → crossing es next ≡ None → R l base → Known R base es l
    → ((q : Path) (m : List Claim) → Guarded m (value_claims next.value q)) → Walked R base (es ++ (next ∷ [])) l (key_claims base next.parts next.value (value_claims next.value))
begun R laws base es next l clear root known inner =
    key-walk R laws base es next [] next.parts next.value (value_claims next.value) l base clear root refl (sym (append-nil base)) (along-base (IsDotted l) base) known
    (value-own next.value) inner

element-guarded : (v : ParsedValue) (q : Path) (rest : Claims) (l : List Claim) → ((m : List Claim) → Guarded m (value_claims v q)) → ((m : List Claim) → Guarded m rest)
    → Guarded l (claimed (element q v) (followed (value_claims v q) rest))
element-guarded v q rest l h g = grind (arith, nat_tests, common_steps, guarded-followed)

mutual
  unfolding value_claims inner_claims item_claims pair_claims

  value-guarded : (v : ParsedValue) (p : Path) (l : List Claim) (text : List ℕ) (limit d i j : ℕ) → Spells v text limit d i j → Guarded l (value_claims v p)
  value-guarded (parsed (scalar s) span) p l text limit d i j h = tt
  value-guarded (parsed (array vs) span) p l text limit d i j (few, (here, e, k, gap, h)) = (items-guarded vs 0 p [] text limit (d + 1) k j h, tt)
  value-guarded (parsed (inline ps) span) p l text limit d i j (few, (here, e, k, gap, h)) = (pairs-guarded ps [] p [] text limit (d + 1) k j (λ c none. absurd none) h, tt)

  items-guarded : (vs : ParsedItems) (n : ℕ) (p : Path) (l : List Claim) (text : List ℕ) (limit d i j : ℕ) → ItemsWith SpellsScalar vs text limit d i j → Guarded l (item_claims vs n p)
  items-guarded no_items n p l text limit d i j h = tt
  items-guarded (item v vs) n p l text limit d i j (m, h, beyond) =
      element-guarded v (with_position p n) (item_claims vs (suc n) p) l (λ x. value-guarded v (with_position p n) x text limit d i m h)
      (λ x. grind (arith, nat_tests, common_steps, items-guarded vs (suc n) p x text limit d))

  pairs-guarded : (ps : ParsedPairs) (es : List ParsedAssignment) (p : Path) (l : List Claim) (text : List ℕ) (limit d i j : ℕ) → Known (IsAt p) p es l → PairsWith SpellsScalar ps es text limit d i j
      → Guarded l (pair_claims ps p)
  pairs-guarded no_pairs es p l text limit d i j known h = tt
  pairs-guarded (pair ss v x ps) es p l text limit d i j known (m, (a, b, named, few, sign, h, extent), clear, beyond) =
      let front = key_claims p ss v (value_claims v) in
      let e : ParsedAssignment = record { parts = ss; value = v; extent = x } in
      let walked = begun (IsAt p) (grind (arith, nat_tests, common_steps)) p es e l clear refl known (λ q y. value-guarded v q y text limit (d + length ss) b m h) in
      guarded-followed l front (pair_claims ps p) walked.tree (grind (arith, nat_tests, common_steps, pairs-guarded ps (es ++ (e ∷ [])) p (l ++ own front) text limit d))

-- ---- the assignments of a section

pub assignments-walk : (R : List Claim → Path → Type 0) (laws : Bases R) (base : Path) (evs before : List ParsedAssignment) (l : List Claim) (text : List ℕ) (limit i j : ℕ) → AssignmentsWith SpellsScalar evs before text limit i j
    → R l base → Known R base before l → (es : List ParsedAssignment) × Walked R base es l (assignments_claims evs base)
unfolding assignments_claims
assignments-walk R laws base [] before l text limit i j h root known =
    (before, record { tree = tt; all = known-on R laws base before before l [] known (λ names h. h) (λ c here kind. absurd here) })
assignments-walk R laws base (e ∷ evs) before l text limit i j (m, n, k, h, tail, clear, gap, rest) root known =
    let front = key_claims base e.parts e.value (value_claims e.value) in
    let walked = begun R laws base before e l clear root known (λ q x. value-guarded e.value q x text limit (length e.parts) h.from m h.spelled) in
    let (es, more) = assignments-walk R laws base evs (before ++ (e ∷ [])) (l ++ own front) text limit k j rest (laws.more l (own front) base root) walked.all in
    (es, walk-followed Guarded (Known R base (before ++ (e ∷ []))) (Known R base es) guarded-followed l front (assignments_claims evs base) walked (λ all. more))

-- ---- tables at which sections begin

-- the root, a table that a header opens, or an entry that has been counted
abbrev Opened : (Path → ℕ) → List Claim → Path → Type 0
Opened e l p =
    (p ≡ []) ⊎ ((q : Path) × (k : List ℕ) × (p ≡ q ++ (key k ∷ [])) × Has l StandardTable p) ⊎ ((q : Path) × (n : ℕ) × (p ≡ with_position q n) × (n < e q))

-- a table that is both opened and created by a dotted key
twice-made : (l : List Claim) (p : Path) → Peaceful l → Has l StandardTable p → Has l Dotted p → ⊥
twice-made l p peace (c, here, is, on) (d, there, made, at) =
    peaceful-two l c d peace (two-of l c d here there (λ same. let no : StandardTable ≡ Dotted = sym is ∙ same ∙ made in cc))
    (do-clash c d DuplicateKey (on ∙ sym at) (ap (λ s. clash_kind s d.info.kind) is ∙ ap (clash_kind StandardTable) made))
    (do-clash d c DuplicateKey (at ∙ sym on) (ap (λ s. clash_kind s c.info.kind) made ∙ ap (clash_kind Dotted) is))

opened-apart : (e : Path → ℕ) (l : List Claim) (a b : Path) → Opened e l b → IsUnder a b → IsDotted l b → Peaceful l → ⊥
opened-apart e l a b (inl none) (s, r, is) made peace = nil-under a s r (sym none ∙ is)
opened-apart e l a b (inr (inl (q, k, is, found))) under made peace = twice-made l b peace found made.0
opened-apart e l a b (inr (inr (q, n, is, few))) under (made, r, k, on) peace = key-position r q k n (sym on ∙ is)

opened-more : (e f : Path → ℕ) (l more : List Claim) (p : Path) → ((q : Path) → e q ≤ f q) → Opened e l p → Opened f (l ++ more) p
opened-more e f l more p assembles h = grind (arith, nat_tests, common_steps, has-on)

opened-bases : (e : Path → ℕ) → Bases (Opened e)
opened-bases e = record {
  more = λ l m p h. opened-more e e l m p (λ q. omega arith) h;
  apart = λ l a b ra rb. opened-apart e l a b rb;
}

-- ---- headers

abbrev OfHeader : Claim → Type 0
OfHeader c = by_header c.info.kind ≡ true

headed-guarded : (l : List Claim) (cs : Claims) → Headed OfHeader cs → Guarded l cs
headed-guarded l no_claims h = tt
headed-guarded l (claimed c cs) h = (λ is. absurd (let no : false ≡ true = sym (ap by_header is) ∙ h.0 in cc), headed-guarded (l ++ (c ∷ [])) cs h.1)
headed-guarded l (scope inner cs) h = absurd h

headed-plain : (cs : Claims) (c : Claim) → Headed OfHeader cs → IsIn c (own cs) → c.info.kind ≡ Assigned → ⊥
headed-plain no_claims c h here is = here
headed-plain (claimed x cs) c h (inl same) is = let no : false ≡ true = sym (ap by_header (ap (λ y. y.info.kind) (sym same) ∙ is)) ∙ h.0 in cc
headed-plain (claimed x cs) c h (inr more) is = headed-plain cs c h.1 more is
headed-plain (scope inner cs) c h here is = h

-- what a header in single brackets opens
section-there : (e : Path → ℕ) (h : HeaderInfo) (p : Path) (k : SimpleKey) (parts : List SimpleKey) → h.array ≡ false
    → ((q : Path) × (n : List ℕ) × (target e p (k ∷ parts) ≡ q ++ (key n ∷ []))) × Has (own (header_claims e h p (k ∷ parts))) StandardTable (target e p (k ∷ parts))
unfolding header_claims target end_claims
section-there e h p k [] single = ((p, k.name, refl), rw single (header_claim h StandardTable (with_key p k) k, inl refl, refl, refl))
section-there e h p k (l ∷ more) single = grind (arith, nat_tests, common_steps, section-there e h (enter (e (with_key p k)) (with_key p k)) l more single)

-- ---- sections

-- the table of a section that begins: it is open, and no earlier section began there, if no claims clash
record Begins (before after : List Path) (l all : List Claim) (base : Path) : Type 0 where
  root : Opened (elements_added after) all base
  assembles : (q : Path) → elements_added before q ≤ elements_added after q
  new : (p : Path) → Opened (elements_added before) l p → p ≡ base → Peaceful all → ⊥

one-more : (before : List Path) (t q : Path) → elements_added before q ≤ elements_added (t ∷ before) q
one-more before t q = grind (arith, nat_tests, common_steps)

counted-here : (before : List Path) (t : Path) → elements_added before t < elements_added (t ∷ before) t
counted-here before t = rw (path-self t) (omega arith)

new-entry : (before : List Path) (l all : List Claim) (t p : Path) → Opened (elements_added before) l p → p ≡ with_position t (elements_added before t) → Peaceful all → ⊥
new-entry before l all t p h same peace = grind (arith, nat_tests, common_steps)

new-table : (before : List Path) (l more : List Claim) (t : Path) (q : Path) (k : List ℕ) (p : Path) → t ≡ q ++ (key k ∷ []) → Has more StandardTable t → Opened (elements_added before) l p → p ≡ t → Peaceful (l ++ more) → ⊥
new-table before l more t q k p is found (inl none) same peace = nil-under q (key k) [] (sym none ∙ same ∙ is)
new-table before l more t q k p is (d, there, later, at) (inr (inl (r, n, on, (c, here, earlier, first)))) same peace =
    peaceful-across l more c d peace here there (do-clash c d DuplicateTable (first ∙ same ∙ sym at) (ap (λ s. clash_kind s d.info.kind) earlier ∙ ap (clash_kind StandardTable) later))
new-table before l more t q k p is found (inr (inr (r, n, on, few))) same peace = key-position q r k n (sym is ∙ sym same ∙ on)

begins : (array : Bool) (before : List Path) (e : Path → ℕ) (l : List Claim) (h : HeaderInfo) (k : SimpleKey) (parts : List SimpleKey) → h.array ≡ array → e ≡ elements_added before
    → Begins before (if array then target e [] (k ∷ parts) ∷ before else before) l (l ++ own (header_claims e h [] (k ∷ parts)))
    (if array then with_position (target e [] (k ∷ parts)) (e (target e [] (k ∷ parts))) else target e [] (k ∷ parts))
begins true before e l h k parts double same = grind (arith, nat_tests, common_steps, counted-here, new-entry, one-more)
begins false before e l h k parts single same =
    let t = target e [] (k ∷ parts) in
    let more = own (header_claims e h [] (k ∷ parts)) in
    let ((q, n, is), (c, here, kind, on)) = section-there e h [] k parts single in
    record {
      root = inr (inl (q, n, is, (c, in-right c l more here, kind, on)));
      assembles = λ r. omega arith;
      new = λ p found at peace. new-table before l more t q n p is (c, here, kind, on) found at peace;
    }

-- each value has a way from a table at which a section begins
abbrev AllTraced : (Path → ℕ) → List Claim → Type 0
AllTraced e l = (c : Claim) → IsIn c l → c.info.kind ≡ Assigned → Traced (Opened e) l c.path

assigned-walk : (e : Path → ℕ) (base : Path) (evs : List ParsedAssignment) (l : List Claim) (text : List ℕ) (limit i j : ℕ) → SpellsLines evs text limit i j → Opened e l base
    → Known (Opened e) base [] l → Walk Guarded (AllTraced e) l (assignments_claims evs base)
assigned-walk e base evs l text limit i j (k, gap, h) root known =
    let (es, w) = assignments-walk (Opened e) (opened-bases e) base evs [] l text limit k j h root known in
    record { tree = w.tree; all = λ c here kind. (w.all c here kind).0 }

section-walk : (earlier : List ParsedSection) (b : ParsedSection) (l : List Claim) (text : List ℕ) (limit i j : ℕ) (k : SimpleKey) (parts : List SimpleKey) → b.header ≡ k ∷ parts → SpellsLines b.assignments text limit i j
    → AllTraced (elements_added (opened_by earlier)) l → Walk Guarded (AllTraced (elements_added (opened_by (b ∷ earlier)))) l (section_claims (elements_added (opened_by earlier)) b)
unfolding section_claims opened_by
section-walk earlier b l text limit i j k parts is lines traced =
    let e = elements_added (opened_by earlier) in
    let f = elements_added (opened_by (b ∷ earlier)) in
    let head = header_claims e (header_info b) [] b.header in
    let headed : Headed OfHeader head = header-headed OfHeader (header_info b) (λ s q k header. header) e [] b.header in
    let all = l ++ own head in
    let base = section_path e b in
    let start : Begins (opened_by earlier) (opened_by (b ∷ earlier)) l all base = rw is (begins b.array (opened_by earlier) e l (header_info b) k parts refl refl) in
    let known : Known (Opened f) base [] all = (λ c here kind. elim (in-cases c l (own head) here) [
      | inl before ↦
          let t = traced c before kind in (
            record { base = t.base; root = opened-more e f l (own head) t.base start.assembles t.root; way = way-on l (own head) t.base c.path t.way },
            λ same peace. absurd (start.new t.base t.root same peace),
          )
      | inr new ↦ absurd (headed-plain head c headed new kind)
    ]) in
    walk-followed Guarded (Known (Opened f) base []) (AllTraced f) guarded-followed l head (assignments_claims b.assignments base) (record { tree = headed-guarded l head headed; all = known })
    (assigned-walk f base b.assignments all text limit i j lines start.root)

some-parts : (parts : List SimpleKey) (text : List ℕ) (i j : ℕ) → SpellsKey parts text i j → (k : SimpleKey) × (more : List SimpleKey) × (parts ≡ k ∷ more)
some-parts parts text i j h = grind (arith, nat_tests, common_steps)

sections-walk : (earlier bs : List ParsedSection) (l : List Claim) (text : List ℕ) (limit i : ℕ) → SectionsWith SpellsScalar bs text limit i → AllTraced (elements_added (opened_by earlier)) l → Guarded l (claims_after earlier bs)
unfolding claims_after
sections-walk earlier [] l text limit i h traced = tt
sections-walk earlier (b ∷ bs) l text limit i (j, s, rest) traced =
    grind (arith, nat_tests, common_steps, sections-walk (b ∷ earlier) bs, guarded-followed l, section-walk earlier b l text limit s.end j, some-parts b.header text)

document-walk : (first : List ParsedAssignment) (rest : List ParsedSection) (text : List ℕ) (limit i j : ℕ) → SpellsLines first text limit i j → SectionsWith SpellsScalar rest text limit j → Guarded [] (claims (headerless_section first ++ rest))
unfolding claims_after section_claims header_claims followed target opened_by
document-walk [] rest text limit i j lines sections = sections-walk [] rest [] text limit j sections (λ c here kind. absurd here)
document-walk (ev ∷ evs) rest text limit i j lines sections =
    let placed = assigned-walk (elements_added []) [] (ev ∷ evs) [] text limit i j lines (inl refl) (λ c here kind. absurd here) in
    let front = assignments_claims (ev ∷ evs) [] in
    let parsed_section = headerless_section (ev ∷ evs) in
    guarded-followed [] front (claims_after parsed_section rest) placed.tree (sections-walk parsed_section rest (own front) text limit j sections placed.all)

document-guarded : (bs : List ParsedSection) (text : List ℕ) (limit : ℕ) → SpellsDocument bs text limit → Guarded [] (claims bs)
document-guarded bs text limit h = rw h.all (document-walk h.first h.rest text limit h.start h.end h.lines h.sections)

-- ---- the first pair

pair-guarded : (earlier : List Claim) (cs : Claims) (c d : Claim) → Guarded earlier cs → Peaceful earlier → Pairs IsLater (all_claims cs) → IsPair earlier cs c d
    → ((e f : Claim) → IsPair earlier cs e f → (f ≡ d) ⊎ (claim_start d < claim_start f)) → c.info.kind ≡ Assigned → d.info.kind ≡ Dotted → ⊥
unfolding all_claims
pair-guarded earlier no_claims c d g peace r h first value through = h
pair-guarded earlier (claimed x cs) c d g peace r (inl (same, here, clashes)) first value through = grind (arith, nat_tests, common_steps, clash-blames c d clashes)
pair-guarded earlier (claimed x cs) c d g peace r (inr more) first value through =
    let late = pair-late (earlier ++ (x ∷ [])) cs x c d r.0 more in
    let free = free-of earlier x (λ e here clashes. elim (first e x (inl (refl, here, clashes))) [
      | inl same ↦ let at = ap claim_start same in omega (arith, late, at)
      | inr early ↦ omega (arith, late, early)
    ]) in
    pair-guarded (earlier ++ (x ∷ [])) cs c d g.1 (peaceful-push earlier x peace free) r.1 more (λ e f h. first e f (inr h)) value through
pair-guarded earlier (scope inner cs) c d g peace r (inl inside) first value through =
    pair-guarded [] inner c d g.0 tt (pairs-split IsLater (all_claims inner) (all_claims cs) r).0 inside (λ e f h. first e f (inl h)) value through
pair-guarded earlier (scope inner cs) c d g peace r (inr more) first value through =
    pair-guarded earlier cs c d g.1 peace (pairs-split IsLater (all_claims inner) (all_claims cs) r).1 more (λ e f h. first e f (inr h)) value through

pub never-through : (text : List ℕ) (limit : ℕ) (bs : List ParsedSection) (c d : Claim) → SpellsDocument bs text limit → IsFirstPair [] (claims bs) c d → c.info.kind ≡ Assigned → d.info.kind ≡ Dotted → ⊥
never-through text limit bs c d h is value through =
    pair-guarded [] (claims bs) c d (document-guarded bs text limit h) tt (rising-later (all_claims (claims bs)) 0 (length text) (document-rises bs text limit h)) is.pair is.first value through
