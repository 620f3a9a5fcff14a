-- The text of a document has room for the cost of its claims.
use Rattle.toml_span_lex.proofs.Common.{◌≡◌, ◌≤◌, ◌<◌, ◌+◌, ◌-◌, ℕ, suc, Bool, List, [], ◌∷◌, ◌++◌, length, refl, ap, inl, inr, arith, cases_lt, nat_tests, common_steps}
use Rattle.toml_span_lex.specs.declared.span.Span.{Span}
use Rattle.toml_span_tree.specs.Node.{Scalar}
use Rattle.toml_span_tree.specs.Path.{Path, Step, key, position, shape_scalar, shape_array, shape_table, Place}
use Rattle.toml_span_read.specs.Data.{ParsedValue, parsed, scalar, array, inline, ParsedItems, no_items, item, ParsedPairs, no_pairs, pair, ParsedAssignment, ParsedSection, headerless_section, SimpleKey}
use Rattle.toml_span_read.specs.Grammar.{SpellsScalar, Spells, OpensHeader, ClosesHeader, SpellsHeader, SpellsDocument, ItemsWith, PairsWith, AssignmentsWith, SectionsWith}
use Rattle.toml_span_read.specs.Keys.{SpellsSimpleKey, Onward, SpellsKey}
use Rattle.toml_span_read.proofs.InsideLemmas.{tail_inside}
use Rattle.toml_span_read.proofs.SpanLaws.{value_lies}
use Rattle.toml_span.specs.declared.claims.HeaderInfo.{HeaderInfo}
use Rattle.toml_span.specs.declared.claims.ClaimKind.TheVariants.{Passed, TableElement}
use Rattle.toml_span.specs.Claims.{Claim, Claims, no_claims, claimed, scope, followed, value_shape, key_claims, value_claims, inner_claims, item_claims, pair_claims, assignments_claims, element, assigned, dotted, header_claim, array_claims, end_claims, header_claims, section_claims, claims_after, claims}
use Rattle.toml_span.specs.Flat.{all_claims}
use Rattle.toml_span_read.specs.Paths.{with_key, with_position, enter, elements_added, opened_by}
use Rattle.toml_span_c.proofs.Paths.{total}
use Rattle.toml_span_c.proofs.Costs.{Cost, place_cost, prices, claims_cost}

-- ---- fair costs

-- A cost for which each text has room. The first n bytes have room for `room n`, and each further byte for `byte`. A
-- spelled key has room for its name and for one byte besides, which is what a table and an array cost together. A
-- spelled scalar and one more byte have room for the scalar.
pub record Fair : Type 0 where
  pub cost : Cost
  pub room : ℕ → ℕ
  pub byte : ℕ
  pub grows : (i j : ℕ) → i < j → room i + byte ≤ room j
  pub names : (k : SimpleKey) (text : List ℕ) (i j : ℕ) → SpellsSimpleKey k text i j → room i + (cost.name k.name + byte) ≤ room j
  pub scalars : (x : Scalar) (s : Span) (text : List ℕ) (i j : ℕ) → i ≤ j → SpellsScalar x s text i j → room i + cost.shape (shape_scalar x) ≤ room j + byte
  pub tables : cost.shape shape_array + cost.shape shape_table ≤ byte

prices-append : (c : Cost) (xs ys : List Claim) → total (prices c (xs ++ ys)) ≡ total (prices c xs) + total (prices c ys)
prices-append c [] ys = omega arith
prices-append c (x ∷ xs) ys = omega (arith, prices-append c xs ys)

last-cost : (c : Cost) (e : ℕ) (q : Path) (s : Step) (x : Place) → place_cost c e (q ++ (s ∷ [])) x ≡ place_cost c 0 (s ∷ []) x
last-cost c e [] (key name) x = refl
last-cost c e [] (position n) x = refl
last-cost c e (key other ∷ q) s x = last-cost c (c.name other) q s x
last-cost c e (position i ∷ q) s x = last-cost c 0 q s x

enter-cost : (c : Cost) (n : ℕ) (q : Path) (k : SimpleKey) (x : Place) → place_cost c 0 (enter n (with_key q k)) x ≤ c.name k.name + c.shape x.shape
unfolding enter
enter-cost c n q k x = grind (arith, nat_tests, common_steps, last-cost)

opens-forward : (a : Bool) (text : List ℕ) (i j : ℕ) → OpensHeader a text i j → i ≤ j
opens-forward a text i j h = grind (arith, nat_tests, common_steps)

closes-forward : (a : Bool) (text : List ℕ) (i j : ℕ) → ClosesHeader a text i j → i ≤ j
closes-forward a text i j h = grind (arith, nat_tests, common_steps)

module _ (f : Fair) where
  abbrev spent : Claims → ℕ
  spent cs = claims_cost f.cost cs

  abbrev value_cost : ParsedValue → ℕ
  value_cost v = f.cost.shape (value_shape v)

  -- the cost of the parts of a key, with a byte for each
  abbrev key_cost : List SimpleKey → ℕ
  key_cost [] = 0
  key_cost (k ∷ ks) = (f.cost.name k.name + f.byte) + key_cost ks

  forth : (i j : ℕ) → i ≤ j → f.room i ≤ f.room j
  forth i j l = elim (cases_lt i j) [
    | inl before ↦ omega (arith, f.grows i j before)
    | inr beyond ↦ let same : i ≡ j = omega (arith, l, beyond) in rw same (omega arith)
  ]

  -- ---- keys

  onward-fits : (ks : List SimpleKey) (text : List ℕ) (m j : ℕ) → Onward ks text m j → f.room m + key_cost ks ≤ f.room j
  onward-fits [] text m j h = rw h.0 (omega arith)
  onward-fits (k ∷ ks) text m j (a, b, d, here, rest) =
      omega (arith, forth m a (omega (arith, d.before.forward, d.after.forward)), f.names k text a b here, onward-fits ks text b j rest)

  key-fits : (ks : List SimpleKey) (text : List ℕ) (i j : ℕ) → SpellsKey ks text i j → f.room i + key_cost ks ≤ f.room j
  key-fits [] text i j h = absurd h
  key-fits (k ∷ ks) text i j (m, here, rest) = omega (arith, f.names k text i m here, onward-fits ks text m j rest)

  -- ---- claims

  spent-claimed : (c : Claim) (cs : Claims) → spent (claimed c cs) ≡ place_cost f.cost 0 c.path c.place + spent cs
  unfolding all_claims
  spent-claimed c cs = refl

  spent-none : spent no_claims ≡ 0
  unfolding all_claims
  spent-none = refl

  spent-followed : (xs ys : Claims) → spent (followed xs ys) ≡ spent xs + spent ys
  unfolding followed all_claims
  spent-followed no_claims ys = omega arith
  spent-followed (claimed c xs) ys = omega (arith, spent-followed xs ys)
  spent-followed (scope inner xs) ys =
      omega (arith, prices-append f.cost (all_claims inner) (all_claims xs), prices-append f.cost (all_claims inner) (all_claims (followed xs ys)), spent-followed xs ys)

  spent-scope : (xs : Claims) → spent (scope xs no_claims) ≡ spent xs
  unfolding all_claims
  spent-scope xs = omega (arith, prices-append f.cost (all_claims xs) [])

  key-spends : (q : Path) (ks : List SimpleKey) (v : ParsedValue) (inside : Path → Claims) (b : ℕ) → ((r : Path) → spent (inside r) ≤ b)
      → spent (key_claims q ks v inside) ≤ key_cost ks + (value_cost v + b)
  unfolding key_claims
  key-spends q [] v inside b each = omega (arith, spent-none)
  key-spends q (k ∷ []) v inside b each =
      let here = with_key q k in
      let own = assigned here k v in
      omega (arith, spent-claimed own (inside here), last-cost f.cost 0 q (key k.name) own.place, each here)
  key-spends q (k ∷ l ∷ more) v inside b each =
      let here = with_key q k in
      let own = dotted here k v in
      omega (arith, f.tables, spent-claimed own (key_claims here (l ∷ more) v inside), last-cost f.cost 0 q (key k.name) own.place, key-spends here (l ∷ more) v inside b each)

  -- ---- values

  -- an element, before what follows it
  element-spends : (v : ParsedValue) (n : ℕ) (q : Path) (rest : Claims)
      → spent (claimed (element (with_position q n) v) (followed (value_claims v (with_position q n)) rest)) ≡ value_cost v + (spent (value_claims v (with_position q n)) + spent rest)
  element-spends v n q rest = grind (arith, nat_tests, common_steps, spent-claimed, spent-followed, last-cost)

  -- a key and its value, for which the equals sign pays
  own-fits : (q : Path) (ks : List SimpleKey) (v : ParsedValue) (text : List ℕ) (i a b j : ℕ) → SpellsKey ks text i a → a < b
      → ((r : Path) → f.room b + (value_cost v + spent (value_claims v r)) ≤ f.room j + f.byte) → f.room i + spent (key_claims q ks v (value_claims v)) ≤ f.room j
  own-fits q ks v text i a b j spelled sign fits =
      omega (arith, key-spends q ks v (value_claims v) ((f.room j + f.byte) - f.room b - value_cost v) (λ r. omega (arith, fits r)), key-fits ks text i a spelled, f.grows a b sign, fits q)

  mutual
    unfolding value_claims inner_claims item_claims pair_claims

    value-fits : (v : ParsedValue) (q : Path) (text : List ℕ) (limit d i j : ℕ) → Spells v text limit d i j → f.room i + (value_cost v + spent (value_claims v q)) ≤ f.room j + f.byte
    value-fits (parsed (scalar x) s) q text limit d i j h =
        omega (arith, spent-none, f.scalars x s text i j (value_lies (parsed (scalar x) s) text limit d i j h).1 h.1)
    value-fits (parsed (array vs) s) q text limit d i j (deep, (here, e, k, gap, h)) =
        omega (arith, f.tables, spent-scope (item_claims vs 0 q), f.grows i k (omega (arith, gap.forward)), items-fit vs 0 q text limit (d + 1) k j h)
    value-fits (parsed (inline ps) s) q text limit d i j (deep, (here, e, k, gap, h)) =
        omega (arith, f.tables, spent-scope (pair_claims ps q), f.grows i k (omega (arith, gap.forward)), pairs-fit ps [] q text limit (d + 1) k j h)

    items-fit : (vs : ParsedItems) (n : ℕ) (q : Path) (text : List ℕ) (limit d i j : ℕ) → ItemsWith SpellsScalar vs text limit d i j → f.room i + spent (item_claims vs n q) ≤ f.room j
    items-fit no_items n q text limit d i j h = omega (arith, forth i j (omega (arith, h.1)), spent-none)
    items-fit (item v vs) n q text limit d i j (m, h, tail) =
        let beyond : (f.room m + f.byte) + spent (item_claims vs (suc n) q) ≤ f.room j = elim tail [
          | inl (e, close) ↦ omega (arith, ap (λ l. spent (item_claims l (suc n) q)) e, spent-none, f.grows m j (omega (arith, close.before.forward, close.ends)))
          | inr (p, sign, rest) ↦ omega (arith, f.grows m p (omega (arith, sign.before.forward, sign.after.forward)), items-fit vs (suc n) q text limit d p j rest)
        ] in
        omega (arith, element-spends v n q (item_claims vs (suc n) q), value-fits v (with_position q n) text limit d i m h, beyond)

    pairs-fit : (ps : ParsedPairs) (es : List ParsedAssignment) (q : Path) (text : List ℕ) (limit d i j : ℕ) → PairsWith SpellsScalar ps es text limit d i j → f.room i + spent (pair_claims ps q) ≤ f.room j
    pairs-fit no_pairs es q text limit d i j h = omega (arith, forth i j (omega (arith, h.1)), spent-none)
    pairs-fit (pair ss v x ps) es q text limit d i j (m, (a, b, own_key, few, sign, h, extent), clear, tail) =
        let beyond : f.room m + spent (pair_claims ps q) ≤ f.room j = elim tail [
          | inl (e, close) ↦ omega (arith, ap (λ l. spent (pair_claims l q)) e, spent-none, forth m j (omega (arith, close.before.forward, close.ends)))
          | inr (p, comma, rest) ↦
              omega (
                arith,
                forth m p (omega (arith, comma.before.forward, comma.after.forward)),
                pairs-fit ps (es ++ (record { parts = ss; value = v; extent = x } ∷ [])) q text limit d p j rest,
              )
        ] in
        let own = own-fits q ss v text i a b m own_key (omega (arith, sign.before.forward, sign.after.forward)) (λ r. value-fits v r text limit (d + length ss) b m h) in
        omega (arith, spent-followed (key_claims q ss v (value_claims v)) (pair_claims ps q), own, beyond)

  -- ---- lines

  assignments-fit : (es before : List ParsedAssignment) (q : Path) (text : List ℕ) (limit i j : ℕ) → AssignmentsWith SpellsScalar es before text limit i j → f.room i + spent (assignments_claims es q) ≤ f.room j
  unfolding assignments_claims
  assignments-fit [] before q text limit i j h = omega (arith, forth i j (omega (arith, h)), spent-none)
  assignments-fit (e ∷ es) before q text limit i j (m, n, k, h, tail, clear, gap, rest) =
      let v = e.value in
      let sign : h.key_end < h.from = omega (arith, h.sign.before.forward, h.sign.after.forward) in
      let own = own-fits q e.parts v text i h.key_end h.from m h.key sign (λ r. value-fits v r text limit (length e.parts) h.from m h.spelled) in
      let on = forth m k (omega (arith, (tail_inside text m n tail).0, gap.forward)) in
      omega (arith, spent-followed (key_claims q e.parts v (value_claims v)) (assignments_claims es q), own, on, assignments-fit es (before ++ (e ∷ [])) q text limit k j rest)

  -- ---- sections

  array-spends : (h : HeaderInfo) (q : Path) (k : SimpleKey) (n : ℕ)
      → spent (array_claims h (with_key q k) k n (claimed (header_claim h TableElement (with_position (with_key q k) n) k) no_claims)) ≤ f.cost.name k.name + f.byte
  array-spends h q k n = grind (arith, nat_tests, common_steps, f.tables, last-cost, spent-claimed, spent-none)

  end-spends : (h : HeaderInfo) (q : Path) (k : SimpleKey) (n : ℕ) → spent (end_claims h (with_key q k) k n) ≤ f.cost.name k.name + f.byte
  unfolding end_claims
  end-spends h q k n = grind (arith, nat_tests, common_steps, f.tables, array-spends, last-cost, spent-claimed, spent-none)

  header-spends : (e : Path → ℕ) (h : HeaderInfo) (q : Path) (ks : List SimpleKey) → spent (header_claims e h q ks) ≤ key_cost ks
  unfolding header_claims
  header-spends e h q [] = omega (arith, spent-none)
  header-spends e h q (k ∷ []) = omega (arith, end-spends h q k (e (with_key q k)))
  header-spends e h q (k ∷ l ∷ more) =
      let n = e (with_key q k) in
      let next = enter n (with_key q k) in
      let own = header_claim h Passed next k in
      omega (arith, f.tables, spent-claimed own (header_claims e h next (l ∷ more)), enter-cost f.cost n q k own.place, header-spends e h next (l ∷ more))

  header-fits : (ks : List SimpleKey) (a : Bool) (text : List ℕ) (limit i j : ℕ) → SpellsHeader ks a text limit i j → f.room i + key_cost ks ≤ f.room j
  header-fits ks a text limit i j h =
      let front = h.front in
      omega (
        arith,
        forth i front.start (omega (arith, opens-forward a text i front.inside front.opens, front.before.forward)),
        key-fits ks text front.start front.end front.key,
        forth front.end j (omega (arith, front.after.forward, closes-forward a text h.close h.end h.shuts, (tail_inside text h.end j h.rest).0)),
      )

  section-fits : (e : Path → ℕ) (b : ParsedSection) (text : List ℕ) (limit k j : ℕ) → AssignmentsWith SpellsScalar b.assignments [] text limit k j → f.room k + spent (section_claims e b) ≤ f.room j + key_cost b.header
  unfolding section_claims
  section-fits e b text limit k j h = grind (arith, nat_tests, common_steps, header-spends, assignments-fit, spent-followed)

  sections-fit : (earlier bs : List ParsedSection) (text : List ℕ) (limit i : ℕ) → SectionsWith SpellsScalar bs text limit i → f.room i + spent (claims_after earlier bs) ≤ f.room (length text)
  unfolding claims_after
  sections-fit earlier [] text limit i h = omega (arith, forth i (length text) (omega (arith, h)), spent-none)
  sections-fit earlier (b ∷ bs) text limit i (j, s, rest) =
      let e = elements_added (opened_by earlier) in
      omega (
        arith,
        spent-followed (section_claims e b) (claims_after (b ∷ earlier) bs),
        header-fits b.header b.array text limit i s.end s.header,
        forth s.end s.lines.0 s.lines.1.forward,
        section-fits e b text limit s.lines.0 j s.lines.2,
        sections-fit (b ∷ earlier) bs text limit j rest,
      )

  -- a first section without a header, and those after it
  headless-fit : (b : ParsedSection) (bs : List ParsedSection) (text : List ℕ) (limit i j : ℕ) → b.header ≡ [] → AssignmentsWith SpellsScalar b.assignments [] text limit i j → SectionsWith SpellsScalar bs text limit j
      → f.room i + spent (claims (b ∷ bs)) ≤ f.room (length text)
  unfolding claims_after
  headless-fit b bs text limit i j none h rest =
      let e = elements_added (opened_by []) in
      omega (arith, ap key_cost none, spent-followed (section_claims e b) (claims_after (b ∷ []) bs), section-fits e b text limit i j h, sections-fit (b ∷ []) bs text limit j rest)

  first-fits : (es : List ParsedAssignment) (bs : List ParsedSection) (text : List ℕ) (limit i j : ℕ) → AssignmentsWith SpellsScalar es [] text limit i j → SectionsWith SpellsScalar bs text limit j
      → f.room i + spent (claims (headerless_section es ++ bs)) ≤ f.room (length text)
  first-fits [] bs text limit i j h rest = omega (arith, forth i j (omega (arith, h)), sections-fit [] bs text limit j rest)
  first-fits (e ∷ es) bs text limit i j h rest = headless-fit _ bs text limit i j refl h rest

  pub claims-fit : (bs : List ParsedSection) (text : List ℕ) (limit : ℕ) → SpellsDocument bs text limit → claims_cost f.cost (claims bs) ≤ f.room (length text)
  claims-fit bs text limit x = rw x.all (omega (arith, first-fits x.first x.rest text limit x.lines.0 x.end x.lines.2 x.sections))
