-- The spelling of a value is read again.
use Rattle.toml_span_lex.proofs.Common.{◌≡◌, ℕ, ◌+◌, ◌<◌, ◌≤◌, ◌⊎◌, Bool, true, false, Result, Ok, Err, IfOk, OnOk, String, string_bytes, List, Option, None, [], ◌∷◌, ◌++◌, length, get_or, arith, inl, inr, sym, ◌∙◌, refl, ap, subst, append_assoc, codes, IsUtf8, slice_range, Global, list_all, false≢true, and_parts, nat_tests, common_steps}
use Rattle.toml_span_lex.specs.Bytes.{is_keylike}
use Rattle.toml_span_lex.specs.declared.span.Span.{Span}
use Rattle.toml_span_tree.specs.Float.{float_text}
use Rattle.toml_span_tree.specs.Node.{Scalar, text as text_scalar, integer, float, boolean, datetime, FloatValue, finite, infinite, not_a_number, Node, node, Inner, taken, Items, no_items, item, Members, no_members, member, scalar as scalar_node, array as array_node, table as table_node}
use Rattle.toml_span_tree.specs.Value.{is_whole, holds_whole, all_whole, all_members_whole}
use Rattle.toml_span_read.specs.Data.{ParsedValue, parsed, ParsedInner, scalar, array, inline, ParsedItems, no_items as none_read, item as item_read, ParsedPairs, no_pairs, pair, ParsedAssignment, from_to, SimpleKey}
use Rattle.toml_span_read.specs.Earlier.{crossed, crossing, value_at}
use Rattle.toml_span_read.specs.Dates.{begins_date, is_date_byte}
use Rattle.toml_span_read.specs.Gaps.{begins_gap, MaximalGap, Separator, Closes}
use Rattle.toml_span_read.specs.Grammar.{truth_text, SpellsScalar, Spells, InnerWith, ItemsWith, PairsWith}
use Rattle.toml_span_read.specs.Keys.{SpellsSimpleKey, SpellsKey}
use Rattle.toml_span_read.specs.Numbers.{SpecialFloat, FloatLiteral}
use Rattle.toml_span_read.specs.Numerals.{after_sign, is_negative, cleaned}
use Rattle.toml_span_read.proofs.NumberLemmas.{stands_alone}
use Rattle.toml_span_read.specs.Again.{may_follow, HasValue, HoldsValue, HaveValues, HaveEntries, IsFloatText, IsScalarText, HasFloatTexts, InnerHasFloatTexts, ItemsHaveFloatTexts, MembersHaveFloatTexts, IsWithin, InnerIsWithin, ItemsAreWithin, MembersAreWithin, ReadsAsValue}
use Rattle.toml_span_places.specs.Quoted.{key_text}
use Rattle.toml_span_places.specs.Spelled.{scalar_text, value_text, inner_text, items_text, members_text}
use Rattle.toml_span_places.specs.code.Spelled.{IsHeldScalar, IsHeld, IsHeldInner, AreHeld, MembersHeld}
use Rattle.toml_span_read.proofs.EarlierLemmas.{clear_from}
use Rattle.toml_span_read.proofs.Parts.{Part, between, same_part, front, back, tail, here, next, range, within, whole}
use Rattle.toml_span_places.proofs.QuotedAgain.{off_parts, run_again, string_again, key_again}
use Rattle.toml_span_read.proofs.GapStarts.{NoGap, no_gap, no_gap_is, value_starts, key_starts, nothing, blank_run}
use Rattle.toml_span_places.proofs.NumbersAgain.{integer_again}
use Rattle.toml_span_places.proofs.DatesAgain.{date_again}
use Rattle.toml_span_read.proofs.Moves.{Copied}
use Rattle.toml_span_read.proofs.NumbersMove.{off_bytes, literal}
use Rattle.toml_span_read.proofs.Undated.{no_date}

-- ---- what can be spelled

-- the value is whole and within the limit, and the text of each float in it is itself a spelling of that float
abbrev CanBeSpelled : ℕ → ℕ → Node → Type 0
CanBeSpelled limit d n = (is_whole n ≡ true) × IsWithin limit d n × HasFloatTexts n

abbrev InnerCanBeSpelled : ℕ → ℕ → Inner → Type 0
InnerCanBeSpelled limit d k = (holds_whole k ≡ true) × InnerIsWithin limit d k × InnerHasFloatTexts k

abbrev ItemsCanBeSpelled : ℕ → ℕ → Items → Type 0
ItemsCanBeSpelled limit d ns = (all_whole ns ≡ true) × ItemsAreWithin limit d ns × ItemsHaveFloatTexts ns

abbrev MembersCanBeSpelled : ℕ → ℕ → Members → Type 0
MembersCanBeSpelled limit d ms = (all_members_whole ms ≡ true) × MembersAreWithin limit d ms × MembersHaveFloatTexts ms

-- ---- gaps

one_space : (text : List ℕ) (i : ℕ) → get_or text i 0 ≡ 32 → begins_gap text (i + 1) ≡ false → MaximalGap text i (i + 1)
one_space text i e h = record { ends = (i + 1) ∷ []; pieces = (inl (rw e refl, refl), refl); forward = omega arith; stops = h }

-- ---- floats

copied : {text part rest : List ℕ} {i j : ℕ} → Part text part rest i j → Copied part text 0 i j (get_or rest 0 0)
copied {text} {part} {rest} {i} {j} p = grind (arith, nat_tests, common_steps)

pub literal_again : {text rest : List ℕ} {i j : ℕ} (digits : List ℕ) → IsFloatText (finite digits) → is_date_byte (get_or rest 0 0) ≡ false → Part text digits rest i j → SpellsScalar (float (finite digits)) (from_to i j) text i j
literal_again {text} {rest} {i} {j} digits (none, h, is) off p =
    let clean : digits ≡ cleaned (slice_range text i j) = rw (range p) (rw (range (whole digits)) at h.1) in
    let on = p.on in
    let here : FloatLiteral text i j = (literal (copied p) off).to 0 (length digits) i j (record { after = omega arith; moved = omega arith; inside = omega arith }) (record { after = omega arith; moved = omega arith; inside = omega arith }) h.0 in
    (no_date (float (finite digits)) text i j (here, clean) (rw (next p) (off_bytes (get_or rest 0 0) off).1), (here, clean), refl)

-- ---- scalars

abbrev ScalarAt : List ℕ → Scalar → ℕ → ℕ → Type 0
ScalarAt text s i j = (span : Span) × SpellsScalar s span text i j

special : {text rest : List ℕ} {k j : ℕ} (word : List ℕ) (i : ℕ) → length word ≡ 3 → is_date_byte (get_or rest 0 0) ≡ false → after_sign text i ≡ k → Part text word rest k j → SpecialFloat word text i j
special {text} {rest} {k} {j} word i some off e p = grind (arith, nat_tests, common_steps, next, off_bytes, range, stands_alone, within)

-- a word, after a dash or without one
minus_word : {text rest : List ℕ} {i j : ℕ} (word : List ℕ) → length word ≡ 3 → is_date_byte (get_or rest 0 0) ≡ false → Part text (45 ∷ word) rest i j → (begins_date text i ≡ false) × SpecialFloat word text i j × (true ≡ is_negative text i)
minus_word {i = i} word some off p = let first = here 45 word p in (rw first refl, special word i some off (rw first refl) (tail 45 word p), rw first refl)

float_again : {text rest : List ℕ} {i j : ℕ} (x : FloatValue) → IsFloatText x → is_date_byte (get_or rest 0 0) ≡ false → Part text (float_text x) rest i j → ScalarAt text (float x) i j
float_again {i = i} {j} (finite digits) is off p = (from_to i j, literal_again digits is off p)
float_again {i = i} {j} (infinite true) is off p = let (none, h, minus) = minus_word (codes "inf") refl off p in (from_to i j, (none, (h, minus), refl))
float_again {i = i} {j} (infinite false) is off p = let first = here 105 (110 ∷ 102 ∷ []) p in (from_to i j, (rw first refl, (special (codes "inf") i refl off (rw first refl) p, rw first refl), refl))
float_again {i = i} {j} (not_a_number true) is off p = let (none, h, minus) = minus_word (codes "nan") refl off p in (from_to i j, (none, (h, minus), refl))
float_again {i = i} {j} (not_a_number false) is off p = let first = here 110 (97 ∷ 110 ∷ []) p in (from_to i j, (rw first refl, (special (codes "nan") i refl off (rw first refl) p, rw first refl), refl))

word : (b : Bool) → (0 < length (truth_text b)) × (list_all is_keylike (truth_text b) ≡ true)
word b = grind (arith, nat_tests, common_steps)

scalar_again : {text rest : List ℕ} {i j : ℕ} (s : Scalar) → IsHeldScalar s → IsScalarText s → may_follow rest ≡ true → Part text (scalar_text s) rest i j → ScalarAt text s i j
scalar_again {text} {rest} {i} {j} (text_scalar v) held is off p =
    let (span, h) = string_again v text rest i j held (off_parts rest off).1 p in (span, (slice_range text i j, false, h))
scalar_again {text} {rest} {i} {j} (integer z) held is off p = (from_to i j, integer_again z held.sfits (off_parts rest off).0 p)
scalar_again {text} {rest} {i} {j} (float x) held is off p = float_again x is (off_parts rest off).0 p
scalar_again {text} {rest} {i} {j} (boolean b) held is off p =
    let w = word b in (from_to i j, (run_again (truth_text b) text rest i j w.0 w.1 (off_parts rest off).0 (same_part (truth_text b) (grind (arith, nat_tests, common_steps)) p), refl))
scalar_again {text} {rest} {i} {j} (datetime d) held is off p = let o = off_parts rest off in (from_to i j, date_again d held o.0 o.2 p)

-- ---- arrays and tables

-- the elements after the opening bracket, or after a comma and a space
abbrev Inside : Items → Type 0
Inside ns =
    (text rest : List ℕ) (limit d i j : ℕ) → AreHeld ns → ItemsCanBeSpelled limit d ns → Part text (items_text true ns ++ (93 ∷ [])) rest i j
    → (vs : ParsedItems) × ItemsWith SpellsScalar vs text limit d i j × HaveValues vs ns × (begins_gap text i ≡ false)

-- the elements after another one
abbrev After : Items → Type 0
After ns =
    (text rest : List ℕ) (limit d i j : ℕ) → AreHeld ns → ItemsCanBeSpelled limit d ns → Part text (items_text false ns ++ (93 ∷ [])) rest i j
    → (vs : ParsedItems) × HaveValues vs ns × (((vs ≡ none_read) × Closes 93 text i j) ⊎ ((p : ℕ) × Separator 44 text i p × ItemsWith SpellsScalar vs text limit d p j))

closes : {text rest : List ℕ} {i j : ℕ} (c : ℕ) → NoGap c → Part text (c ∷ []) rest i j → Closes c text i j
closes {text} {rest} {i} {j} c h p = grind (arith, nat_tests, common_steps)

comma : {text rest : List ℕ} {i j : ℕ} (more : List ℕ) → Part text (44 ∷ 32 ∷ more) rest i j → begins_gap text ((i + 1) + 1) ≡ false → Separator 44 text i ((i + 1) + 1)
comma {text} {rest} {i} {j} more p h =
    let e = here 44 (32 ∷ more) p in
    let f = here 32 more (tail 44 (32 ∷ more) p) in
    record { at = i; before = nothing text i (no_gap_is text i 44 e (refl, refl, refl)); here = e; after = one_space text (i + 1) f h }

after_items : (ns : Items) → Inside ns → After ns
after_items no_items inside text rest limit d i j held can p = (none_read, tt, inl (refl, closes 93 (refl, refl, refl) p))
after_items (item n ns) inside text rest limit d i j held can p =
    let more = items_text true (item n ns) ++ (93 ∷ []) in
    let q = tail 32 more (tail 44 (32 ∷ more) p) in
    let (vs, h, e, starts) = inside text rest limit d ((i + 1) + 1) j held can q in
    (vs, e, inr ((i + 1) + 1, comma more p starts, h))

items_off : (ns : Items) (rest : List ℕ) → may_follow ((items_text false ns ++ (93 ∷ [])) ++ rest) ≡ true
items_off no_items rest = refl
items_off (item n ns) rest = refl

abbrev InsideBraces : Members → Type 0
InsideBraces ms =
    (text rest : List ℕ) (es : List ParsedAssignment) (limit d i j : ℕ) → MembersHeld ms → MembersCanBeSpelled limit d ms → Part text (members_text true ms ++ (125 ∷ [])) rest i j
    → (ps : ParsedPairs) × PairsWith SpellsScalar ps es text limit d i j × HaveEntries ps ms × (begins_gap text i ≡ false)

abbrev AfterPair : Members → Type 0
AfterPair ms =
    (text rest : List ℕ) (es : List ParsedAssignment) (limit d i j : ℕ) → MembersHeld ms → MembersCanBeSpelled limit d ms → Part text (members_text false ms ++ (125 ∷ [])) rest i j
    → (ps : ParsedPairs) × HaveEntries ps ms × (((ps ≡ no_pairs) × Closes 125 text i j) ⊎ ((p : ℕ) × Separator 44 text i p × PairsWith SpellsScalar ps es text limit d p j))

after_pairs : (ms : Members) → InsideBraces ms → AfterPair ms
after_pairs no_members inside text rest es limit d i j held can p = (no_pairs, tt, inl (refl, closes 125 (refl, refl, refl) p))
after_pairs (member name key n ms) inside text rest es limit d i j held can p =
    let more = members_text true (member name key n ms) ++ (125 ∷ []) in
    let q = tail 32 more (tail 44 (32 ∷ more) p) in
    let (ps, h, e, starts) = inside text rest es limit d ((i + 1) + 1) j held can q in
    (ps, e, inr ((i + 1) + 1, comma more p starts, h))

members_off : (ms : Members) (rest : List ℕ) → may_follow ((members_text false ms ++ (125 ∷ [])) ++ rest) ≡ true
members_off no_members rest = refl
members_off (member name key n ms) rest = refl

-- ---- pairs

regroup : (k v m e : List ℕ) → ((k ++ codes " = ") ++ (v ++ m)) ++ e ≡ k ++ (32 ∷ 61 ∷ 32 ∷ (v ++ (m ++ e)))
regroup k v m e = append_assoc (k ++ codes " = ") (v ++ m) e ∙ (append_assoc k (codes " = ") ((v ++ m) ++ e) ∙ ap (λ (l : List ℕ). k ++ (32 ∷ 61 ∷ 32 ∷ l)) (append_assoc v m e))

-- a key, a space, an equals sign and a space, after which a value begins
record Front (text : List ℕ) (s : SimpleKey) (i b : ℕ) : Type 0 where
  end : ℕ
  key : SpellsKey (s ∷ []) text i end
  sign : Separator 61 text end b

front_again : {text rest : List ℕ} {i j : ℕ} (name more : List ℕ) (span : Span) → (b : ℕ) → b ≡ (((i + length (key_text name)) + 1) + 1) + 1 → SpellsSimpleKey (record { name = name; span = span }) text i (i + length (key_text name))
    → Part text (key_text name ++ (32 ∷ 61 ∷ 32 ∷ more)) rest i j → begins_gap text b ≡ false → Front text (record { name = name; span = span }) i b
front_again {text} {rest} {i} {j} name more span b is h p starts =
    let a = i + length (key_text name) in
    let q = back (key_text name) (32 ∷ 61 ∷ 32 ∷ more) p in
    let r = tail 32 (61 ∷ 32 ∷ more) q in
    let s = tail 61 (32 ∷ more) r in
    let space = here 32 (61 ∷ 32 ∷ more) q in
    let sign = here 61 (32 ∷ more) r in
    let all = q.all in
    let on = q.on in
    let last : begins_gap text (((a + 1) + 1) + 1) ≡ false = rw is at starts in
    record {
      end = a;
      key = (a, h, (refl, record { at = a + 1; before = blank_run text a space (omega arith) (rw sign refl); here = rw sign refl }));
      sign = record {
        at = a + 1;
        before = one_space text a space (no_gap_is text (a + 1) 61 sign (refl, refl, refl));
        here = sign;
        after = rw is (one_space text ((a + 1) + 1) (here 32 more s) last);
      };
    }

-- ---- values

abbrev ValueAt : List ℕ → Node → ℕ → ℕ → ℕ → ℕ → Type 0
ValueAt text n limit d i j = (v : ParsedValue) × Spells v text limit d i j × HasValue v n

abbrev InnerAt : List ℕ → Inner → ℕ → ℕ → ℕ → ℕ → Type 0
InnerAt text k limit d i j = (x : ParsedInner) × (span : Span) × InnerWith SpellsScalar x span text limit d i j × HoldsValue x k

-- an element, and those after it
joined_items : (n : Node) (ns : Items) (text rest : List ℕ) (limit d i j : ℕ)
    → (Part text (value_text n) ((items_text false ns ++ (93 ∷ [])) ++ rest) i (i + length (value_text n)) → ValueAt text n limit d i (i + length (value_text n))) → After ns → AreHeld ns → ItemsCanBeSpelled limit d ns
    → Part text (items_text true (item n ns) ++ (93 ∷ [])) rest i j → (vs : ParsedItems) × ItemsWith SpellsScalar vs text limit d i j × HaveValues vs (item n ns) × (begins_gap text i ≡ false)
joined_items n ns text rest limit d i j first others held can p =
    let q = same_part (value_text n ++ (items_text false ns ++ (93 ∷ []))) (append_assoc (value_text n) (items_text false ns) (93 ∷ [])) p in
    let m = i + length (value_text n) in
    let (v, h, e) = first (front (value_text n) (items_text false ns ++ (93 ∷ [])) q) in
    let (vs, f, more) = others text rest limit d m j held can (back (value_text n) (items_text false ns ++ (93 ∷ [])) q) in
    (item_read v vs, (m, h, more), (e, f), value_starts v text limit d i m h)

crossed_alone : (f : List (List ℕ) → Option Span) (p : SimpleKey) → crossed f (p ∷ []) ≡ None
unfolding crossed
crossed_alone f p = refl

-- a key of one part goes through no value
one_part : (es : List ParsedAssignment) (e : ParsedAssignment) (p : SimpleKey) → e.parts ≡ p ∷ [] → crossing es e ≡ None
one_part es e p is = clear_from es e (subst (λ (ps : List SimpleKey). crossed (value_at es) ps ≡ None) (sym is) (crossed_alone (value_at es) p))

-- a pair, and those after it
joined_pairs : (name : List ℕ) (key : Span) (n : Node) (ms : Members) (text rest : List ℕ) (es : List ParsedAssignment) (limit d i j : ℕ) → IsUtf8 name → d + 1 ≤ limit
    → ((b : ℕ) → Part text (value_text n) ((members_text false ms ++ (125 ∷ [])) ++ rest) b (b + length (value_text n)) → ValueAt text n limit (d + 1) b (b + length (value_text n))) → AfterPair ms → MembersHeld ms → MembersCanBeSpelled limit d ms
    → Part text (members_text true (member name key n ms) ++ (125 ∷ [])) rest i j → (ps : ParsedPairs) × PairsWith SpellsScalar ps es text limit d i j × HaveEntries ps (member name key n ms) × (begins_gap text i ≡ false)
joined_pairs name key n ms text rest es limit d i j utf8 few first others held can p =
    let w = value_text n ++ (members_text false ms ++ (125 ∷ [])) in
    let q = same_part (key_text name ++ (32 ∷ 61 ∷ 32 ∷ w)) (regroup (key_text name) (value_text n) (members_text false ms) (125 ∷ [])) p in
    let a = i + length (key_text name) in
    let b = ((a + 1) + 1) + 1 in
    let (span, k) = key_again name text ((32 ∷ 61 ∷ 32 ∷ w) ++ rest) i a utf8 refl refl (front (key_text name) (32 ∷ 61 ∷ 32 ∷ w) q) in
    let r = tail 32 w (tail 61 (32 ∷ w) (tail 32 (61 ∷ 32 ∷ w) (back (key_text name) (32 ∷ 61 ∷ 32 ∷ w) q))) in
    let m = b + length (value_text n) in
    let (v, h, e) = first b (front (value_text n) (members_text false ms ++ (125 ∷ [])) r) in
    let f = front_again name w span b refl k q (value_starts v text limit (d + 1) b m h) in
    let s : SimpleKey = record { name = name; span = span } in
    let here : ParsedAssignment = record { parts = s ∷ []; value = v; extent = from_to i m } in
    let (ps, g, more) = others text rest (es ++ (here ∷ [])) limit d m j held can (back (value_text n) (members_text false ms ++ (125 ∷ [])) r) in (
      pair (s ∷ []) v (from_to i m) ps,
      (m, (f.end, b, f.key, omega arith, f.sign, h, refl), one_part es here s refl, more),
      (refl, e, g),
      no_gap text i (key_starts s text i a k),
    )

mutual
  pub value_again : (n : Node) (text rest : List ℕ) (limit d i j : ℕ) → IsHeld n → CanBeSpelled limit d n → may_follow rest ≡ true → Part text (value_text n) rest i j → ValueAt text n limit d i j
  value_again (node k at) text rest limit d i j held (w, (few, below), floats) off p =
      let (x, span, h, e) = inner_again k text rest limit d i j held (w, below, floats) off p in (parsed x span, (few, h), e)

  inner_again : (k : Inner) (text rest : List ℕ) (limit d i j : ℕ) → IsHeldInner k → InnerCanBeSpelled limit d k → may_follow rest ≡ true → Part text (inner_text k) rest i j → InnerAt text k limit d i j
  inner_again taken text rest limit d i j held (w, below, floats) off p = absurd (false≢true w)
  inner_again (scalar_node s) text rest limit d i j held (w, below, floats) off p = let (span, h) = scalar_again s held floats off p in (scalar s, span, h, refl)
  inner_again (array_node ns) text rest limit d i j held can off p =
      let q = tail 91 (items_text true ns ++ (93 ∷ [])) p in
      let (vs, h, e, starts) = items_again ns text rest limit (d + 1) (i + 1) j held can q in
      (array vs, from_to i j, (here 91 (items_text true ns ++ (93 ∷ [])) p, refl, i + 1, nothing text (i + 1) starts, h), e)
  inner_again (table_node ms) text rest limit d i j held can off p =
      let q = tail 123 (members_text true ms ++ (125 ∷ [])) p in
      let (ps, h, e, starts) = members_again ms text rest [] limit (d + 1) (i + 1) j held can q in
      (inline ps, from_to i j, (here 123 (members_text true ms ++ (125 ∷ [])) p, refl, i + 1, nothing text (i + 1) starts, h), e)

  items_again : (ns : Items) → Inside ns
  items_again no_items text rest limit d i j held can p =
      let e = here 93 [] p in
      let on = p.on in
      (none_read, (e, omega arith), tt, no_gap_is text i 93 e (refl, refl, refl))
  items_again (item n ns) text rest limit d i j (held, more) (w, (few, fewer), (text_is, texts)) p =
      let both = and_parts (is_whole n) (all_whole ns) w in
      joined_items n ns text rest limit d i j (λ q. value_again n text ((items_text false ns ++ (93 ∷ [])) ++ rest) limit d i (i + length (value_text n)) held (both.0, few, text_is) (items_off ns rest) q) (after_items ns (items_again ns)) more (both.1, fewer, texts) p

  members_again : (ms : Members) → InsideBraces ms
  members_again no_members text rest es limit d i j held can p =
      let e = here 125 [] p in
      let on = p.on in
      (no_pairs, (e, omega arith), tt, no_gap_is text i 125 e (refl, refl, refl))
  members_again (member name key (node k at) ms) text rest es limit d i j (utf8, held, more) (w, (few, fewer), (text_is, texts)) p =
      let both = and_parts (holds_whole k) (all_members_whole ms) w in
      joined_pairs name key (node k at) ms text rest es limit d i j utf8 few.0
      (λ b q. value_again (node k at) text ((members_text false ms ++ (125 ∷ [])) ++ rest) limit (d + 1) b (b + length (inner_text k)) held (both.0, few, text_is) (members_off ms rest) q) (after_pairs ms (members_again ms)) more (both.1, fewer, texts) p

-- ---- the contract

reads_value : (n : Node) → IsHeld n → ReadsAsValue n (value_text n)
reads_value n held limit depth whole few floats before rest off =
    value_again n (before ++ (value_text n ++ rest)) rest limit depth (length before) (length before + length (value_text n)) held (whole, few, floats) off (between before (value_text n) rest)

pub value_read : {E : Type 0} (r : Result (String Global) E) (n : Node) → OnOk r (IsHeld n) → IfOk r (λ text. string_bytes text ≡ value_text n) → IfOk r (λ text. ReadsAsValue n (string_bytes text))
value_read (Ok text) n held e = subst (ReadsAsValue n) (sym e) (reads_value n held)
value_read (Err error) n held e = tt
