-- Numbers, dates and values in a part of a text are also in its copy.
use Rattle.toml_span_lex.proofs.Common.{◌≡◌, ℕ, ◌+◌, ◌-◌, ◌<◌, ◌≤◌, Bool, true, false, List, length, get_or, arith, inl, inr, sym, ◌∙◌, refl, ◌==◌, ◌&&◌, false≢true, and_parts, and_from, false_from_ne_true, nat_tests, common_steps, [], ◌∷◌, ◌++◌, map, ap, map-append, length-map, Option, None}
use Rattle.toml_span_lex.specs.declared.span.Span.{Span}
use Rattle.toml_span_lex.specs.Bytes.{is_keylike, MaximalRun}
use Rattle.toml_span_tree.specs.Node.{Scalar, text as text_scalar, integer, float, boolean, datetime}
use Rattle.toml_span_read.specs.Dates.{is_date_byte, begins_date, continues_date, IsCandidate}
use Rattle.toml_span_read.specs.Numbers.{IsNumber}
use Rattle.toml_span_read.specs.Grammar.{SpellsScalar, truth_text, Spells, InnerWith, ItemsWith, PairsWith}
use Rattle.toml_span_read.proofs.Moves.{Moves, also, Copied, At, further, same_range, either, said, given, in_sequence, nothing, first}
use Rattle.toml_span_read.proofs.NumbersMove.{number}
use Rattle.toml_span_read.proofs.DatesMove.{date_carried}
use Rattle.toml_span_laws.specs.Again.{moved_span, moved_parts, moved, moved_inner, moved_items, moved_pairs}
use Rattle.toml_span_laws.proofs.AgainStrings.{runs, worded, gap, sign, closes, dot, no_dot, string, string_on, spans, equal_moved}
use Rattle.toml_span_read.specs.Gaps.{Separator, MaximalGap}
use Rattle.toml_span_read.specs.Keys.{SpellsSimpleKey, Onward, SpellsKey}
use Rattle.toml_span_read.specs.Data.{SimpleKey, ParsedValue, parsed, ParsedInner, scalar, array, inline, ParsedItems, no_items, item, ParsedPairs, no_pairs, pair, ParsedAssignment, from_to}
use Rattle.toml_span_read.specs.Earlier.{part_names, value_at, crossed, crossing}
use Rattle.toml_span_read.proofs.EarlierLemmas.{clear_from, clear_to}

-- ---- numbers, booleans and dates

-- a run extends over a byte that passes
covers : (p : ℕ → Bool) (a : List ℕ) (i j x : ℕ) → p 0 ≡ false → MaximalRun p a i j → x ≤ j → p (get_or a x 0) ≡ true → x < j
covers p a i j x z r l h = grind (arith, nat_tests, common_steps)

-- after a space the run of a date continues
second_run : (a : List ℕ) (i j : ℕ) → continues_date a (i + 10) ≡ true → MaximalRun is_date_byte a (i + 11) j → i + 11 < j
second_run a i j h r = grind (arith, nat_tests, common_steps)

-- the first run of a date
first_run : (a : List ℕ) (i j : ℕ) → IsCandidate a i j → (n : ℕ) × MaximalRun is_date_byte a i n × (n ≤ j)
first_run a i j (inl (r, n)) = let z : j ≤ j = omega arith in (j, r, z)
first_run a i j (inr (r, c, more)) = (i + 10, r, omega (arith, second_run a i j c more))

module _ {a b : List ℕ} {s t : ℕ} (w : Copied a b s t (length b) 0) where
  date_on : (i j k : ℕ) → At s t (length b) 0 i k → j + t ≤ length b + s → MaximalRun is_date_byte a i j → begins_date a i ≡ true → begins_date b k ≡ true
  date_on i j k u e r h = date_carried a b i k (j - i) (λ m o d. (
      let on = r.forward in
      let less = covers is_date_byte a i j (i + m) refl r (omega arith) d in
      let l : m < j - i = omega arith in
      (l, w.same (i + m) (k + m) (omega arith) (omega arith) (omega arith)))) h

  no_date : (i k : ℕ) → At s t (length b) 0 i k → begins_date a i ≡ false → begins_date b k ≡ false
  no_date i k u h = grind (arith, nat_tests, common_steps)

  continues_back : (i k : ℕ) → At s t (length b) 0 i k → continues_date b k ≡ true → continues_date a i ≡ true
  continues_back i k u h = grind (arith, nat_tests, common_steps)

  continues_on : (i k : ℕ) → At s t (length b) 0 i k → k + 1 < length b → continues_date a i ≡ true → continues_date b k ≡ true
  continues_on i k u l h = rw (w.same i k u.after u.moved (omega arith), w.same (i + 1) (k + 1) (omega arith) (omega arith) l) at h

  candidate : (i j k l : ℕ) → At s t (length b) 0 i k → At s t (length b) 0 j l → IsCandidate a i j → IsCandidate b k l
  candidate i j k l u v (inl (r, n)) =
      let on = r.forward in
      inl (
        (runs w is_date_byte).to i j k l u v r,
        false_from_ne_true ((l == k + 10) && continues_date b l) (λ y. (
            let z = and_parts (l == k + 10) _ y in false≢true (sym n ∙ and_from (j == i + 10) _ (equal_moved s t j (i + 10) l (k + 10) v.moved (omega arith) ∙ z.0) (continues_back j l v z.1)))),
      )
  candidate i j k l u v (inr (r, c, more)) =
      let some = second_run a i j c more in
      let x : At s t (length b) 0 (i + 10) (k + 10) = further 10 (omega arith) u in
      inr ((runs w is_date_byte).to i (i + 10) k (k + 10) u x r, continues_on (i + 10) (k + 10) x (omega arith) c, (runs w is_date_byte).to (i + 11) j (k + 11) l (further 11 (omega arith) u) v more)

  -- ---- scalars

  numbered : (x : Scalar) (span : Span) → Moves (At s t (length b) 0) (λ i j. (begins_date a i ≡ false) × IsNumber x a i j × (span ≡ from_to i j)) (λ k l. (begins_date b k ≡ false) × IsNumber x b k l × (moved_span s t span ≡ from_to k l))
  numbered x span = grind (arith, nat_tests, common_steps, no_date, number w refl x, spans w)

  pub scalar_copied : (x : Scalar) (span : Span) → Moves (At s t (length b) 0) (SpellsScalar x span a) (SpellsScalar x (moved_span s t span) b)
  scalar_copied (text_scalar v) span = record {
    on = λ i j h. omega (arith, string_on a i j span h.0 v h.1 h.2);
    to = λ i j k l x y h. (h.0, h.1, (string w span h.0 v h.1).to i j k l x y h.2);
  }
  scalar_copied (boolean c) span = also (worded w is_keylike (truth_text c)) (λ i j k l o u v h z. spans w u v z)
  scalar_copied (integer n) span = numbered (integer n) span
  scalar_copied (float n) span = numbered (float n) span
  scalar_copied (datetime d) span = record {
    on = λ i j h. (let r = first_run a i j h.1 in omega (arith, r.1.forward, r.2));
    to = λ i j k l u v h. (
        let r = first_run a i j h.1 in
        let on = r.1.forward in
        let less = r.2 in
        (date_on i r.0 k u (omega arith) r.1 h.0, candidate i j k l u v h.1, h.2, h.3 ∙ same_range w i j k l (omega arith) u v, spans w u v h.4));
  }

abbrev pub moved_part : ℕ → ℕ → SimpleKey → SimpleKey
moved_part s t p = record { name = p.name; span = moved_span s t p.span }

-- ---- keys that go through earlier values

abbrev pub moved_assignment : ℕ → ℕ → ParsedAssignment → ParsedAssignment
moved_assignment s t e = record { parts = moved_parts s t e.parts; value = moved s t e.value; extent = moved_span s t e.extent }

pub path_moved : (s t : ℕ) (ps : List SimpleKey) → part_names (moved_parts s t ps) ≡ part_names ps
path_moved s t [] = refl
path_moved s t (p ∷ ps) = ap (λ (ns : List (List ℕ)). p.name ∷ ns) (path_moved s t ps)

-- the names of the parts of each key
abbrev pub paths : List ParsedAssignment → List (List (List ℕ))
paths es = map (λ e. part_names e.parts) es

none_same : (names : List (List ℕ)) (es fs : List ParsedAssignment) → paths es ≡ paths fs → value_at es names ≡ None → value_at fs names ≡ None
unfolding value_at
none_same names [] [] same h = refl
none_same names [] (f ∷ fs) same h = absurd (cc)
none_same names (e ∷ es) [] same h = absurd (cc)
none_same names (e ∷ es) (f ∷ fs) same h = grind (arith, nat_tests, common_steps, none_same names es fs)

pub paths_more : (es fs : List ParsedAssignment) (e f : ParsedAssignment) → paths es ≡ paths fs → part_names f.parts ≡ part_names e.parts → paths (es ++ (e ∷ [])) ≡ paths (fs ++ (f ∷ []))
paths_more es fs e f same names = cc (map-append (λ g. part_names g.parts) es (e ∷ []), map-append (λ g. part_names g.parts) fs (f ∷ []))

crossed_same : (f g : List (List ℕ) → Option Span) (ps qs : List SimpleKey) → ((names : List (List ℕ)) → f names ≡ None → g names ≡ None) → part_names qs ≡ part_names ps → crossed f ps ≡ None → crossed g qs ≡ None
unfolding crossed
crossed_same f g ps [] none same h = refl
crossed_same f g ps (q ∷ []) none same h = refl
crossed_same f g [] (q ∷ r ∷ rest) none same h = absurd (cc)
crossed_same f g (p ∷ []) (q ∷ r ∷ rest) none same h = absurd (cc)
crossed_same f g (p ∷ o ∷ more) (q ∷ r ∷ rest) none same h =
    let e : q.name ≡ p.name = cc in
    let below : (names : List (List ℕ)) → f (p.name ∷ names) ≡ None → g (q.name ∷ names) ≡ None = λ names n. none (q.name ∷ names) (rw e n) in
    grind (arith, nat_tests, common_steps, below [], crossed_same (λ names. f (p.name ∷ names)) (λ names. g (q.name ∷ names)) (o ∷ more) (r ∷ rest) below)

pub clear_same : (es fs : List ParsedAssignment) (e f : ParsedAssignment) → paths es ≡ paths fs → part_names f.parts ≡ part_names e.parts → crossing es e ≡ None → crossing fs f ≡ None
clear_same es fs e f same names h = clear_from _ _ (crossed_same (value_at es) (value_at fs) e.parts f.parts (λ ns. none_same ns es fs same) names (clear_to es e h))

pub length_moved : (s t : ℕ) (ss : List SimpleKey) → length (moved_parts s t ss) ≡ length ss
length_moved s t ss = length-map ss _

-- ---- keys and values

module _ {a b : List ℕ} {s t : ℕ} (w : Copied a b s t (length b) 0) where
  abbrev To : (ℕ → ℕ → Type 0) → (ℕ → ℕ → Type 0) → Type 0
  To R S = Moves (At s t (length b) 0) R S

  pub key : (p : SimpleKey) → To (SpellsSimpleKey p a) (SpellsSimpleKey (moved_part s t p) b)
  key p = either (also (worded w is_keylike p.name) (λ i j k l o u v h z. spans w u v z)) (record {
    on = λ i j h. (string w p.span h.0 p.name _).on i j h.1;
    to = λ i j k l u v h. (h.0, (string w p.span h.0 p.name _).to i j k l u v h.1);
  })

  onward : (ps : List SimpleKey) → To (Onward ps a) (Onward (moved_parts s t ps) b)
  onward [] = also nothing (λ i j k l o u v e h. no_dot w u h)
  onward (p ∷ ps) = said (λ i j h. (h.0, h.2, (h.1, h.3, h.4))) (λ k l h. (h.0, h.2.0, h.1, h.2.1, h.2.2)) (in_sequence (dot w) (in_sequence (key p) (onward ps)))

  pub dotted : (ps : List SimpleKey) → To (SpellsKey ps a) (SpellsKey (moved_parts s t ps) b)
  dotted [] = record { on = λ i j h. absurd h; to = λ i j k l u v h. absurd h }
  dotted (p ∷ ps) = in_sequence (key p) (onward ps)

  -- a key, an equals sign and a value
  front : (ss : List SimpleKey) (v : ParsedValue) (x : Span) (limit c d : ℕ) → To (Spells v a limit (d + length ss)) (Spells (moved s t v) b limit (c + length (moved_parts s t ss)))
      → To (λ i m. (y z : ℕ) × SpellsKey ss a i y × (length ss ≤ limit) × Separator 61 a y z × Spells v a limit (d + length ss) z m × (x ≡ from_to i m))
      (λ k m. (y z : ℕ) × SpellsKey (moved_parts s t ss) b k y × (length (moved_parts s t ss) ≤ limit) × Separator 61 b y z × Spells (moved s t v) b limit (c + length (moved_parts s t ss)) z m × (moved_span s t x ≡ from_to k m))
  front ss v x limit c d again = said (λ i j h. ((h.0, h.2, (h.1, h.4, h.5)), (h.3, h.6))) (λ k l h. (h.0.0, h.0.2.0, h.0.1, h.1.0, h.0.2.1, h.0.2.2, h.1.1))
      (also {P = λ i j. (length ss ≤ limit) × (x ≡ from_to i j)} {Q = λ k l. (length (moved_parts s t ss) ≤ limit) × (moved_span s t x ≡ from_to k l)} (in_sequence (dotted ss) (in_sequence (sign w 61) again)) (λ i j k l o u v h z. (omega (arith, length_moved s t ss, z.0), spans w u v z.1)))

  -- a bracket, and what follows it
  opened : (c : ℕ) (span : Span) {R S : ℕ → ℕ → Type 0} → To R S
      → To (λ i j. (get_or a i 0 ≡ c) × (span ≡ from_to i j) × (k : ℕ) × MaximalGap a (i + 1) k × R k j) (λ i j. (get_or b i 0 ≡ c) × (moved_span s t span ≡ from_to i j) × (k : ℕ) × MaximalGap b (i + 1) k × S k j)
  opened c span x = said (λ i j h. ((h.0, (h.2, h.3, h.4)), h.1)) (λ k l h. (h.0.0, h.1, h.0.1.0, h.0.1.1, h.0.1.2)) (also (first w (λ x. x) c (in_sequence (gap w) x)) (λ i j k l o u v h z. spans w u v z))

  mutual
    pub value_copied : (v : ParsedValue) (limit c d : ℕ) → c ≤ d → To (Spells v a limit d) (Spells (moved s t v) b limit c)
    value_copied (parsed x span) limit c d q = said (λ i j h. (h.1, h.0)) (λ k l h. (h.1, h.0)) (also (inner_copied x span limit c d q) (λ i j k l o u v h few. omega arith))

    inner_copied : (x : ParsedInner) (span : Span) (limit c d : ℕ) → c ≤ d → To (InnerWith SpellsScalar x span a limit d) (InnerWith SpellsScalar (moved_inner s t x) (moved_span s t span) b limit c)
    inner_copied (scalar x) span limit c d q = scalar_copied w x span
    inner_copied (array vs) span limit c d q = opened 91 span (items_copied vs limit (c + 1) (d + 1) (omega arith))
    inner_copied (inline ps) span limit c d q = opened 123 span (pairs_copied ps [] [] limit (c + 1) (d + 1) (omega arith) refl)

    pub items_copied : (vs : ParsedItems) (limit c d : ℕ) → c ≤ d → To (ItemsWith SpellsScalar vs a limit d) (ItemsWith SpellsScalar (moved_items s t vs) b limit c)
    items_copied no_items limit c d q = first w (λ x. x) 93 nothing
    items_copied (item v vs) limit c d q =
        in_sequence (value_copied v limit c d q) (either (given (λ z. ap (λ (r : ParsedItems). moved_items s t r) z) (closes w 93)) (in_sequence (sign w 44) (items_copied vs limit c d q)))

    pub pairs_copied : (ps : ParsedPairs) (es fs : List ParsedAssignment) (limit c d : ℕ) → c ≤ d → paths es ≡ paths fs → To (PairsWith SpellsScalar ps es a limit d) (PairsWith SpellsScalar (moved_pairs s t ps) fs b limit c)
    pairs_copied no_pairs es fs limit c d q same = first w (λ x. x) 125 nothing
    pairs_copied (pair ss v x ps) es fs limit c d q same =
        let e : ParsedAssignment = record { parts = ss; value = v; extent = x } in
        let f = moved_assignment s t e in
        let names = path_moved s t ss in
        said (λ i j h. (h.0, h.1, (h.2, h.3))) (λ k l h. (h.0, h.1, h.2.0, h.2.1))
        (in_sequence (front ss v x limit c d (value_copied v limit (c + length (moved_parts s t ss)) (d + length ss) (omega (arith, length_moved s t ss))))
        (given (λ z. clear_same es fs e f same names z)
        (either (given (λ z. ap (λ (r : ParsedPairs). moved_pairs s t r) z) (closes w 125)) (in_sequence (sign w 44) (pairs_copied ps (es ++ (e ∷ [])) (fs ++ (f ∷ [])) limit c d q (paths_more es fs e f same names))))))
