-- What is spelled is read.
use Rattle.toml_span_lex.proofs.Common.{◌≡◌, ℕ, zero, suc, ◌+◌, ◌-◌, ◌<◌, ◌≤◌, ◌⊎◌, Bool, true, false, List, [], ◌∷◌, ◌++◌, length, get_or, append-nil, append_assoc, arith, inl, inr, sym, refl, ap, Ok, ◌==◌, ◌||◌, slice_range, codes, is_some, list_all, or_parts, nat_tests, common_steps}
use Rattle.std.proofs.lemmas.Bool.{ne_eqb}
use Rattle.toml_span_lex.specs.Bytes.{is_keylike, is_blank, MaximalRun}
use Rattle.toml_span_lex.specs.Tokens.{string, RunAt, keylike}
use Rattle.toml_span_lex.specs.declared.span.Span.{Span}
use Rattle.toml_span_lex.proofs.Unique.{or_true}
use Rattle.toml_span_tree.specs.Node.{Scalar, text as text_scalar, integer, float, boolean, datetime, finite, infinite, not_a_number}
use Rattle.toml_span_read.proofs.EarlierLemmas.{added_clear}
use Rattle.toml_span_read.specs.declared.fault.ExpectedToken.{ExpectedToken}
use Rattle.toml_span_read.specs.Data.{ParsedValue, parsed, scalar, array, inline, ParsedItems, no_items, item, onto, ParsedPairs, no_pairs, pair, pairs_onto, ParsedAssignment, ParsedSection, from_to, headerless_section, SimpleKey}
use Rattle.toml_span_read.specs.Dates.{begins_date}
use Rattle.toml_span_read.specs.Faults.{begins_bare, begins_number}
use Rattle.toml_span_read.specs.Gaps.{MaximalGap, Closes, Separator}
use Rattle.toml_span_read.specs.Grammar.{truth_text, SpellsScalar, Spells, SpellsLines, ClosesHeader, SpellsHeader, SpellsSection, SpellsDocument, ItemsWith, PairsWith, AssignmentWith, AssignmentsWith, SectionsWith}
use Rattle.toml_span_read.specs.Keys.{opens_string, SpellsKey, SpellsSimpleKey, Onward}
use Rattle.toml_span_read.specs.Numbers.{IsNumber, SpecialFloat, UnsignedDecimal}
use Rattle.toml_span_read.specs.Numerals.{after_sign}
use Rattle.toml_span_read.specs.Numerals.{special}
use Rattle.toml_span_read.specs.Read as read
use Rattle.toml_span_read.specs.Read.{Reading, token, ValueEnd, Loop, ends, goes_on, on, done, key_result, Parts, onward}
use Rattle.toml_span_read.proofs.NumberLemmas.{is_false, byte_is, same_byte, clash, here, run_is}
use Rattle.toml_span_read.proofs.NumberReads.{word_keylike, word_first, zero_first}
use Rattle.toml_span_read.proofs.NumberComplete.{number_complete}
use Rattle.toml_span_read.proofs.ReadSound.{onto_more, pairs_onto_more, SpellsPair}
use Rattle.toml_span_read.proofs.ValueRead.{levels}

-- a byte that passes differs from one that does not
not_at : (p : ℕ → Bool) (c k : ℕ) → p c ≡ true → p k ≡ false → (c == k) ≡ false
not_at p c k h n = is_false (c == k) (λ e. clash p c k h (byte_is c k e) n)

-- the text does not end at a byte that passes
not_end : (p : ℕ → Bool) (text : List ℕ) (i : ℕ) → p 0 ≡ false → p (get_or text i 0) ≡ true → (i == length text) ≡ false
not_end p text i z h = let l = here p text i z h in ne_eqb i (length text) (λ e. omega (arith, l, e))

-- ---- keys

pub simple_complete : (s : SimpleKey) (text : List ℕ) (i m : ℕ) → SpellsSimpleKey s text i m → read.simple_key_at text i (Ok (s, m))
simple_complete s text i m (inl h) = (token s.span (keylike s.name) m, h, refl)
simple_complete s text i m (inr (source, h)) = (token s.span (string source s.name false) m, h, refl)

after_complete : (ss : List SimpleKey) (header : Bool) (text : List ℕ) (left : ℕ) (ps : List SimpleKey) (m j : ℕ) → Onward ss text m j → length ss ≤ left → onward text ps m (read.key header text left ps) (Ok (ps ++ ss, j))
unfolding read.key
after_complete [] header text left ps m j (e, none) few = inl (none, rw (e, append-nil ps) refl)
after_complete (s ∷ ss) header text zero ps m j h few = absurd (omega arith)
after_complete (s ∷ ss) header text (suc n) ps m j (p, q, d, k, rest) few =
    inr (p, d, inl ((s, q), simple_complete s text p q k, (rw (append_assoc ps (s ∷ []) ss) at (after_complete ss header text n (ps ++ (s ∷ [])) q j rest (omega arith)))))

pub key_complete : (ss : List SimpleKey) (header : Bool) (text : List ℕ) (limit i j : ℕ) → SpellsKey ss text i j → length ss ≤ limit → read.key header text limit [] i (Ok (ss, j))
unfolding read.key
key_complete [] header text limit i j h few = absurd h
key_complete (s ∷ ss) header text zero i j h few = absurd (omega arith)
key_complete (s ∷ ss) header text (suc n) i j (m, k, rest) few = inl ((s, m), simple_complete s text i m k, after_complete ss header text n (s ∷ []) m j rest (omega arith))

-- ---- numbers

is_signed : (t : List ℕ) (i : ℕ) → (begins_number (get_or t i 0) ≡ true) ⊎ (after_sign t i ≡ i)
is_signed t i = grind (arith, nat_tests, common_steps)

-- a number begins here, and not another word
abbrev Begins : List ℕ → ℕ → Type 0
Begins t i = ((begins_number (get_or t i 0) || is_some (special false (read.run_at t i))) ≡ true) × (begins_bare (get_or t i 0) ≡ true)

begins_here : (t : List ℕ) (i : ℕ) → begins_number (get_or t i 0) ≡ true → Begins t i
begins_here t i b = grind (arith, nat_tests, common_steps)

unsigned_begins : (t : List ℕ) (i j : ℕ) → UnsignedDecimal t (after_sign t i) j → Begins t i
unsigned_begins t i j h = grind (arith, nat_tests, common_steps)

letters_begin : (t word : List ℕ) (i j : ℕ) → list_all is_keylike word ≡ true → is_some (special false word) ≡ true → SpecialFloat word t i j → Begins t i
letters_begin t word i j all some f = elim (is_signed t i) [
  | inl b ↦ begins_here t i b
  | inr e ↦
      let w : slice_range t i j ≡ word = rw e at f.letters in
      let l : i < j = rw e at f.some in
      let k = word_keylike t word i j w all f.within in
      let r : MaximalRun is_keylike t i j = record { forward = omega arith; within = f.within; passes = k; stops = λ x. (or_parts (is_keylike (get_or t j 0)) (get_or t j 0 == 46) f.ends).0 } in
      (rw (run_is t i j r, w, some, or_true) refl, rw (k i (omega arith) l) refl)
]

number_begins : (s : Scalar) (t : List ℕ) (i j : ℕ) → IsNumber s t i j → Begins t i
unfolding special
number_begins (integer n) t i j (inl h) = unsigned_begins t i j h.digits
number_begins (integer n) t i j (inr h) = let e : get_or t i 0 ≡ 48 = zero_first t i h.radix h.prefix in begins_here t i (rw e refl)
number_begins (float (finite digits)) t i j h = unsigned_begins t i h.0.integer_end h.0.integer_part
number_begins (float (infinite b)) t i j h = letters_begin t (codes "inf") i j refl refl h.0
number_begins (float (not_a_number b)) t i j h = letters_begin t (codes "nan") i j refl refl h.0
number_begins _ t i j h = absurd h

-- ---- scalars

-- a bare scalar is read, or a string
abbrev IsRead : Scalar → Span → List ℕ → ℕ → ℕ → Type 0
IsRead s span t i j =
    ((begins_bare (get_or t i 0) ≡ true) × read.bare t i (Ok (s, j)) × (span ≡ from_to i j))
    ⊎ ((opens_string (get_or t i 0) ≡ true) × read.string_value t i (Ok (parsed (scalar s) span, j)))

date_bare : (t : List ℕ) (i : ℕ) → begins_date t i ≡ true → begins_bare (get_or t i 0) ≡ true
date_bare t i h = grind (arith, nat_tests, common_steps)

number_read : (s : Scalar) (t : List ℕ) (i j : ℕ) → IsNumber s t i j → Ok (s, j) ≡ read.number_or_word t i
number_read s t i j h = rw (number_begins s t i j h).0 (sym (number_complete s t i j h))

truth_complete : (b : Bool) (t : List ℕ) (i j : ℕ) → RunAt is_keylike t i j (truth_text b) → (begins_bare (get_or t i 0) ≡ true) × read.bare t i (Ok (boolean b, j))
unfolding special
truth_complete true t i j r = let f : get_or t i 0 ≡ 116 = word_first t (truth_text true) i j r.0 (sym r.2) in (rw f refl, inr (rw f refl, rw (f, run_is t i j r.1, ← r.2) refl))
truth_complete false t i j r = let f : get_or t i 0 ≡ 102 = word_first t (truth_text false) i j r.0 (sym r.2) in (rw f refl, inr (rw f refl, rw (f, run_is t i j r.1, ← r.2) refl))

scalar_complete : (s : Scalar) (span : Span) (t : List ℕ) (i j : ℕ) → SpellsScalar s span t i j → IsRead s span t i j
scalar_complete (text_scalar v) span t i j (src, m, h) = inr (elim h.quote [ inl e ↦ rw e refl | inr e ↦ rw e refl ], (token span (string src v m) j, h, refl))
scalar_complete (boolean b) span t i j (r, x) = let u = truth_complete b t i j r in inl (u.0, u.1, x)
scalar_complete (datetime d) span t i j (b, c, is, same, x) = inl (date_bare t i b, inl (b, (j, c, inl ((rw same at is), (rw same refl)))), x)
scalar_complete (integer n) span t i j (b, h, x) = inl ((number_begins (integer n) t i j h).1, inr (b, number_read (integer n) t i j h), x)
scalar_complete (float y) span t i j (b, h, x) = inl ((number_begins (float y) t i j h).1, inr (b, number_read (float y) t i j h), x)

pub scalar_byte : (s : Scalar) (span : Span) (t : List ℕ) (i j : ℕ) → SpellsScalar s span t i j → (begins_bare (get_or t i 0) || opens_string (get_or t i 0)) ≡ true
scalar_byte s span t i j h = elim (scalar_complete s span t i j h) [ inl (b, r, x) ↦ rw b refl | inr (o, r) ↦ rw (o, or_true) refl ]

scalar_value : (s : Scalar) (span : Span) (t : List ℕ) (limit left i j : ℕ) → SpellsScalar s span t i j → read.value t limit (suc left) zero i (Ok (parsed (scalar s) span, j))
unfolding read.value
scalar_value s span t limit left i j h = grind (arith, nat_tests, common_steps, not_at begins_bare, not_at opens_string, scalar_complete s span t i j h)

-- ---- separators

closes : {S A : Type 0} (close : ℕ) (expected : ExpectedToken) (text : List ℕ) (m j : ℕ) (next : ℕ → S) (end : ℕ → A) → (close == 44) ≡ false → Closes close text m j → read.separator close expected text m next end (Ok (done (end j)))
closes close expected text m j next end n c = (c.at, c.before, inr (rw c.here n, inl (same_byte _ close c.here, rw c.ends refl)))

comma : {S A : Type 0} (close : ℕ) (expected : ExpectedToken) (text : List ℕ) (m p : ℕ) (next : ℕ → S) (end : ℕ → A) → Separator 44 text m p → read.separator close expected text m next end (Ok (on (next p)))
comma close expected text m p next end s = (s.at, s.before, inl (same_byte _ 44 s.here, (p, s.after, refl)))

-- ---- pairs of a key and a value

parsed_assignment_complete : (e : ParsedAssignment) (text : List ℕ) (limit left : ℕ) (skipped : ℕ → ℕ → Type 0) (i a n b j : ℕ) → SpellsKey e.parts text i a → length e.parts ≤ limit → skipped a n → get_or text n 0 ≡ 61 → skipped (n + 1) b
    → read.value text limit (left - length e.parts) zero b (Ok (e.value, j)) → e.extent ≡ from_to i j → read.keyval text limit skipped (read.value text limit left) i (Ok (e, j))
parsed_assignment_complete e text limit left skipped i a n b j k few s h t v x =
    let under = levels text limit left (length e.parts) b (Ok (e.value, j)) v in
    inl ((e.parts, a), key_complete e.parts false text limit i a k few, (n, s, inl (same_byte _ 61 h, (b, t, inl ((e.value, j), under, ap (λ z. Ok (record { parts = e.parts; value = e.value; extent = z }, j)) x)))))

-- the pair, if its value is read
pub pair_given : (e : ParsedAssignment) (text : List ℕ) (limit left d i j : ℕ) → (p : SpellsPair e text limit d i j) → read.value text limit (left - length e.parts) zero p.1 (Ok (e.value, j))
    → read.keyval text limit (MaximalGap text) (read.value text limit left) i (Ok (e, j))
pair_given e text limit left d i j (a, b, k, few, s, h, x) v = parsed_assignment_complete e text limit left (MaximalGap text) i a s.at b j k few s.before s.here s.after v x

-- ---- values

pub few : (v : ParsedValue) (text : List ℕ) (limit d i j : ℕ) → Spells v text limit d i j → d ≤ limit
few (parsed x s) text limit d i j h = h.0

no_bracket : (v : ParsedValue) (text : List ℕ) (limit d i j : ℕ) → Spells v text limit d i j → (get_or text i 0 == 93) ≡ false
no_bracket (parsed (scalar s) x) text limit d i j h = not_at (λ c. begins_bare c || opens_string c) (get_or text i 0) 93 (scalar_byte s x text i j h.1) refl
no_bracket (parsed (array vs) x) text limit d i j h = rw h.1.0 refl
no_bracket (parsed (inline ps) x) text limit d i j h = rw h.1.0 refl

no_brace : (ss : List SimpleKey) (text : List ℕ) (i j : ℕ) → SpellsKey ss text i j → (get_or text i 0 == 125) ≡ false
no_brace ss text i j k = not_at (λ c. is_keylike c || opens_string c) (get_or text i 0) 125 (grind (arith, nat_tests, common_steps)) refl

mutual
  unfolding read.value

  pub value_complete : (v : ParsedValue) (text : List ℕ) (limit left d i j : ℕ) → left ≡ limit + 1 - d → Spells v text limit d i j → read.value text limit left zero i (Ok (v, j))
  value_complete (parsed x s) text limit zero d i j e h = absurd (omega arith)
  value_complete (parsed (scalar y) s) text limit (suc left) d i j e h = scalar_value y s text limit left i j h.1
  value_complete (parsed (array vs) s) text limit (suc left) d i j e (l, (b, x, k, g, h)) =
      inl (same_byte _ 91 b, (k, g, inl ((array vs, j), items_complete vs [] text limit left (d + 1) k j (omega arith) h, rw x refl)))
  value_complete (parsed (inline ps) s) text limit (suc left) d i j e (l, (b, x, k, g, h)) =
      inr (rw b refl, inl (same_byte _ 123 b, (k, g, inl ((inline ps, j), pairs_complete ps [] text limit left (d + 1) k j (omega arith) h, rw x refl))))

  items_complete : (vs : ParsedItems) (acc : List ParsedValue) (text : List ℕ) (limit left d i j : ℕ) → left ≡ limit + 1 - d → ItemsWith SpellsScalar vs text limit d i j
      → Loop (read.next_element text (read.value text limit left zero)) (acc, i) (Ok (array (onto acc vs), j))
  items_complete no_items acc text limit left d i j e h = ends (acc, i) _ (inl (same_byte _ 93 h.0, rw h.1 refl))
  items_complete (item v vs) acc text limit left d i j e (m, a, inl (f, c)) =
      ends (acc, i) _ (inr (no_bracket v text limit d i m a, inl ((v, m), value_complete v text limit left d i m e a, rw (f, ← onto_more acc v no_items) (closes 93 _ text m j _ (read.array_end (acc ++ (v ∷ []))) refl c))))
  items_complete (item v vs) acc text limit left d i j e (m, a, inr (p, c, r)) =
      goes_on (acc, i) (acc ++ (v ∷ []), p) _ (inr (no_bracket v text limit d i m a, inl ((v, m), value_complete v text limit left d i m e a, comma 93 _ text m p _ (read.array_end (acc ++ (v ∷ []))) c)))
      (rw (onto_more acc v vs) at (items_complete vs (acc ++ (v ∷ [])) text limit left d p j e r))

  pairs_complete : (ps : ParsedPairs) (acc : List ParsedAssignment) (text : List ℕ) (limit left d i j : ℕ) → left ≡ limit + 1 - d → PairsWith SpellsScalar ps acc text limit d i j
      → Loop (read.next_pair text limit (read.value text limit left)) (acc, i) (Ok (inline (pairs_onto acc ps), j))
  pairs_complete no_pairs acc text limit left d i j e h = ends (acc, i) _ (inl (same_byte _ 125 h.0, rw h.1 refl))
  pairs_complete (pair ss v x ps) acc text limit left d i j e (m, p, clear, o) =
      let f : ParsedAssignment = record { parts = ss; value = v; extent = x } in
      let none = no_brace ss text i p.0 p.2 in
      let kv = pair_given f text limit left d i m p (value_complete v text limit (left - length ss) (d + length ss) p.1 m (omega arith) p.5) in
      elim o [
        | inl (z, c) ↦ ends (acc, i) _ (inr (none, inl ((f, m), kv, inl (acc ++ (f ∷ []), added_clear _ _ clear, rw (z, ← pairs_onto_more acc f no_pairs) (closes 125 _ text m j _ (read.table_end (acc ++ (f ∷ []))) refl c)))))
        | inr (q, c, r) ↦
            goes_on (acc, i) (acc ++ (f ∷ []), q) _ (inr (none, inl ((f, m), kv, inl (acc ++ (f ∷ []), added_clear _ _ clear, comma 125 _ text m q _ (read.table_end (acc ++ (f ∷ []))) c))))
            (rw (pairs_onto_more acc f ps) at (pairs_complete ps (acc ++ (f ∷ [])) text limit left d q j e r))
      ]

-- ---- lines

pub assignment_complete : (e : ParsedAssignment) (text : List ℕ) (limit i j : ℕ) → AssignmentWith SpellsScalar e text limit i j → read.keyval text limit (MaximalRun is_blank text) (read.value text limit (limit + 1)) i (Ok (e, j))
assignment_complete e text limit i j h =
    let n : ℕ = length e.parts in
    let v = value_complete e.value text limit (limit + 1 - n) n h.from j refl h.spelled in
    parsed_assignment_complete e text limit (limit + 1) (MaximalRun is_blank text) i h.key_end h.sign.at h.from j h.key h.few h.sign.before h.sign.here h.sign.after v h.extent

assignments_complete : (es acc : List ParsedAssignment) (text : List ℕ) (limit i j : ℕ) → AssignmentsWith SpellsScalar es acc text limit i j → read.ends_lines text j ≡ true → Loop (read.next_assignment text limit) (acc, i) (Ok (acc ++ es, j))
assignments_complete [] acc text limit i j e t = ends (acc, i) _ (inl (rw e at t, rw (e, append-nil acc) refl))
assignments_complete (e ∷ es) acc text limit i j (m, n, k, h, t, clear, g, r) s =
    goes_on (acc, i) (acc ++ (e ∷ []), k) _ (inr (grind (arith, nat_tests, common_steps), inl ((e, m), assignment_complete e text limit i m h, inl (n, inl (n, t, refl), inl (acc ++ (e ∷ []), added_clear _ _ clear, (k, g, refl))))))
    (rw (append_assoc acc (e ∷ []) es) at (assignments_complete es (acc ++ (e ∷ [])) text limit k j r s))

lines_complete : (es : List ParsedAssignment) (text : List ℕ) (limit i j : ℕ) → SpellsLines es text limit i j → read.ends_lines text j ≡ true → read.assignment_lines text limit i (Ok (es, j))
lines_complete es text limit i j (k, g, h) s = (k, g, assignments_complete es [] text limit k j h s)

-- ---- headers

closing_complete : (double : Bool) (text : List ℕ) (i j : ℕ) → ClosesHeader double text i j → read.closing double text i (Ok j)
closing_complete false text i j h = inl (same_byte _ 93 h.0, rw h.1 refl)
closing_complete true text i j (a, b, e) = let f : j ≡ i + 1 + 1 = omega arith in inl (i + 1, inl (same_byte _ 93 a, refl), inl (same_byte _ 93 b, rw f refl))

heading_complete : (ps : List SimpleKey) (double : Bool) (text : List ℕ) (limit i k j : ℕ) → (h : SpellsHeader ps double text limit i j) → h.front.inside ≡ k → read.heading double text limit k (Ok (record { parts = ps; array = double; end = j }))
heading_complete ps double text limit i k j h e =
    let f = h.front in
    (f.start, rw e at f.before, inl ((ps, f.end), key_complete ps true text limit f.start f.end f.key f.few, (h.close, f.after, inl (h.end, closing_complete double text h.close h.end h.shuts, inl (j, inl (j, h.rest, refl), refl)))))

pub header_complete : (ps : List SimpleKey) (double : Bool) (text : List ℕ) (limit i j : ℕ) → SpellsHeader ps double text limit i j → read.header text limit i (Ok (record { parts = ps; array = double; end = j }))
header_complete ps false text limit i j h = inr (h.front.opens.1, heading_complete ps false text limit i (i + 1) j h h.front.opens.2)
header_complete ps true text limit i j h = inl (same_byte _ 91 h.front.opens.1, heading_complete ps true text limit i (i + 2) j h h.front.opens.2)

pub header_byte : (ps : List SimpleKey) (double : Bool) (text : List ℕ) (limit i j : ℕ) → SpellsHeader ps double text limit i j → get_or text i 0 ≡ 91
header_byte ps double text limit i j h = grind (arith, nat_tests, common_steps)

-- ---- sections and the document

pub section_complete : (b : ParsedSection) (text : List ℕ) (limit i j : ℕ) → SpellsSection b text limit i j → read.ends_lines text j ≡ true → read.section text limit i (Ok (b, j))
section_complete b text limit i j s t =
    grind (arith, nat_tests, common_steps, header_complete b.header b.array text limit i s.end s.header, lines_complete b.assignments text limit s.end j s.lines t)

pub sections_stop : (bs : List ParsedSection) (text : List ℕ) (limit i : ℕ) → SectionsWith SpellsScalar bs text limit i → read.ends_lines text i ≡ true
sections_stop [] text limit i e = rw (same_byte i (length text) e) refl
sections_stop (b ∷ bs) text limit i (j, s, r) = rw (header_byte b.header b.array text limit i s.end s.header, or_true) refl

sections_complete : (bs acc : List ParsedSection) (text : List ℕ) (limit i : ℕ) → SectionsWith SpellsScalar bs text limit i → Loop (read.next_section text limit) (acc, i) (Ok (acc ++ bs))
sections_complete [] acc text limit i e = ends (acc, i) _ (inl (same_byte i (length text) e, rw (append-nil acc) refl))
sections_complete (b ∷ bs) acc text limit i (j, s, r) =
    let none = not_end (λ c. c == 91) text i refl (same_byte _ 91 (header_byte b.header b.array text limit i s.end s.header)) in
    goes_on (acc, i) (acc ++ (b ∷ []), j) _ (inr (none, inl ((b, j), section_complete b text limit i j s (sections_stop bs text limit j r), refl)))
    (rw (append_assoc acc (b ∷ []) bs) at (sections_complete bs (acc ++ (b ∷ [])) text limit j r))

pub document_complete : (bs : List ParsedSection) (text : List ℕ) (limit : ℕ) → SpellsDocument bs text limit → read.document text limit (Ok bs)
unfolding read.document
document_complete bs text limit h =
    let l = lines_complete h.first text limit h.start h.end h.lines (sections_stop h.rest text limit h.end h.sections) in
    inl ((headerless_section h.first, h.end), (h.start, h.begins, inl (_, l, refl)), rw h.all (sections_complete h.rest (headerless_section h.first) text limit h.end h.sections))
