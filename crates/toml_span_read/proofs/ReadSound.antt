-- What is read is spelled.
use Rattle.toml_span_lex.proofs.Common.{common_steps, ◌≡◌, ℕ, zero, suc, ◌+◌, ◌≤◌, Bool, true, false, List, [], ◌∷◌, ◌++◌, length, get_or, arith, inl, inr, sym, refl, ap, append-nil, append_assoc, Result, Ok, slice_range, if◌then◌else◌, ◌||◌, is_some, nat_tests, bytes_eq-Decides}
use Rattle.toml_span_lex.specs.Bytes.{equals, is_blank, is_keylike, MaximalRun}
use Rattle.toml_span_lex.specs.Tokens.{RunAt}
use Rattle.toml_span_lex.specs.Text.{FirstPlace}
use Rattle.toml_span_tree.specs.Node.{Scalar}
use Rattle.toml_span_read.specs.declared.fault.ExpectedToken.{ExpectedToken}
use Rattle.toml_span_read.specs.declared.fault.ExpectedToken.TheVariants as expected_tokens
use Rattle.toml_span_read.specs.declared.fault.Fault.{Fault}
use Rattle.toml_span_read.specs.Data.{ParsedValue, ParsedInner, array as array_node, inline as inline_node, ParsedItems, no_items, item, ParsedPairs, no_pairs, pair as pair_node, ParsedAssignment, onto, pairs_onto, ParsedSection, from_to, headerless_section}
use Rattle.toml_span_read.specs.Dates.{begins_date}
use Rattle.toml_span_read.proofs.EarlierLemmas.{is_added}
use Rattle.toml_span_read.specs.Faults.{begins_bare, begins_number}
use Rattle.toml_span_read.specs.Gaps.{MaximalGap, Separator, Closes, Tail}
use Rattle.toml_span_read.specs.Grammar.{SpellsScalar, Spells, SpellsLines, OpensHeader, ClosesHeader, SpellsHeader, SpellsSection, SpellsDocument, ItemsWith, PairsWith, AssignmentWith, AssignmentsWith, SectionsWith}
use Rattle.toml_span_read.specs.Keys.{SpellsKey}
use Rattle.toml_span_read.specs.Numbers.{IsNumber}
use Rattle.toml_span_read.specs.Numerals.{scalar_of, special, numeral, number, run_end}
use Rattle.toml_span_read.specs.Read as read
use Rattle.toml_span_read.specs.Read.{Reading, LoopStep, on, done, Loop, ends, stops, goes_on, ValueEnd, Elements, Pairs, ParsedSections, HeaderEnd, token, text_end, no_token}
use Rattle.toml_span_read.proofs.KeyLemmas.{after_gives, key_sound, not_missing, same_read}
use Rattle.toml_span_read.proofs.NumberLemmas.{byte_is, run_found}
use Rattle.toml_span_read.proofs.NumberReads.{Starts, Spelled, Reads, after, done as done_reading, numeral_reads}
use Rattle.toml_span_read.proofs.Places.{run_some, read_within}

-- ---- loops

-- a state for which P holds, or a result for which Q holds
abbrev Kept : {S A : Type 0} → (S → Type 0) → (A → Type 0) → LoopStep S A → Type 0
Kept P Q (on s) = P s
Kept P Q (done a) = Q a

-- what every step preserves holds at the end
loop_sound : {S A : Type 0} (step : S → Reading (LoopStep S A)) (P : S → Type 0) (Q : A → Type 0) → ((s : S) (t : LoopStep S A) → P s → step s (Ok t) → Kept P Q t) → (s : S) (r : Result A Fault) (a : A) → P s → Loop step s r → r ≡ Ok a → Q a
loop_sound step P Q keeps s r a p (ends s' b h) e = let same : b ≡ a = cc in rw same at (keeps s (done b) p h)
loop_sound step P Q keeps s r a p (stops s' x h) e = absurd cc
loop_sound step P Q keeps s r a p (goes_on s' t r' h more) e = loop_sound step P Q keeps t r a (keeps s (on t) p h) more e

-- ---- what separates elements and pairs

separated : {S A : Type 0} (close : ℕ) (expected : ExpectedToken) (text : List ℕ) (m : ℕ) (next : ℕ → S) (end : ℕ → A) (P : S → Type 0) (Q : A → Type 0) (t : LoopStep S A) → read.separator close expected text m next end (Ok t)
    → ((p : ℕ) → Separator 44 text m p → P (next p)) → ((j : ℕ) → Closes close text m j → Q (end j)) → Kept P Q t
separated close expected text m next end P Q t (k, gap, inl (comma, (p, beyond, e))) go stop =
    let is : t ≡ on (next p) = cc in rw is (go p (record { at = k; before = gap; here = byte_is _ _ comma; after = beyond }))
separated close expected text m next end P Q t (k, gap, inr (none, h)) go stop =
    let (shut, e) = not_missing h in
    let is : t ≡ done (end (k + 1)) = cc in rw is (stop (k + 1) (record { at = k; before = gap; here = byte_is _ _ shut; ends = refl }))

-- ---- values without brackets

number_reads : (text : List ℕ) (i : ℕ) → Starts text i → Reads text (number text i) (λ (s, j). IsNumber s text i j)
unfolding number
number_reads text i b = after text (numeral text i) _ (Spelled text i) _ (numeral_reads text i b) (λ (n, j) h. done_reading text (scalar_of n (slice_range text i j), j) _ h)

pub number_sound : (s : Scalar) (text : List ℕ) (i j : ℕ) → Starts text i → number text i ≡ Ok (s, j) → IsNumber s text i j
number_sound s text i j b e = (number_reads text i b).given (s, j) e

number_scalar : (s : Scalar) (text : List ℕ) (i j : ℕ) → begins_date text i ≡ false → IsNumber s text i j → SpellsScalar s (from_to i j) text i j
number_scalar s text i j b h = grind (arith)

run_from : (text : List ℕ) (i : ℕ) → is_keylike (get_or text i 0) ≡ true → MaximalRun is_keylike text i (run_end text i)
unfolding run_end
run_from text i k = grind (arith, nat_tests, run_found, read_within)

run_of : (text word : List ℕ) (i : ℕ) → is_keylike (get_or text i 0) ≡ true → read.run_at text i ≡ word → RunAt is_keylike text i (run_end text i) word
run_of text word i k e = let r = run_from text i k in (run_some is_keylike text i (run_end text i) refl k r, r, sym e)

word_sound : (s : Scalar) (text : List ℕ) (i j : ℕ) → is_keylike (get_or text i 0) ≡ true → read.word text i ≡ Ok (s, j) → SpellsScalar s (from_to i j) text i j
word_sound s text i j k h = grind (arith, bytes_eq-Decides, run_of)

-- a byte of a bare run that begins no number
letter : (c : ℕ) → begins_bare c ≡ true → begins_number c ≡ false → is_keylike c ≡ true
letter c b n = grind (arith, nat_tests)

choose : (s : Scalar) (text : List ℕ) (i j : ℕ) (n : Bool) → (begins_number (get_or text i 0) || is_some (special false (read.run_at text i))) ≡ n → begins_date text i ≡ false → begins_bare (get_or text i 0) ≡ true
    → ◌≡◌ {A = Result (Scalar × ℕ) Fault} (if n then number text i else read.word text i) (Ok (s, j)) → SpellsScalar s (from_to i j) text i j
choose s text i j n e d b h = grind (arith, number_scalar, number_sound, word_sound, letter)

pub bare_sound : (s : Scalar) (text : List ℕ) (i j : ℕ) → begins_bare (get_or text i 0) ≡ true → read.bare text i (Ok (s, j)) → SpellsScalar s (from_to i j) text i j
bare_sound s text i j b (inl (d, (k, candidate, inl (is, e)))) = same_read (λ (s, j). SpellsScalar s (from_to i j) text i j) e (d, candidate, is, refl, refl)
bare_sound s text i j b (inl (d, (k, candidate, inr (wrong, e)))) = absurd cc
bare_sound s text i j b (inr (d, e)) = choose s text i j _ refl d b (sym e)

-- ---- elements

-- any elements that follow, together with those read so far, are elements from k on
abbrev ItemsFrom : List ℕ → ℕ → ℕ → ℕ → Elements → Type 0
ItemsFrom text limit d k (vs, i) = (rest : ParsedItems) (j : ℕ) → ItemsWith SpellsScalar rest text limit d i j → ItemsWith SpellsScalar (onto vs rest) text limit d k j

abbrev IsArrayOf : List ℕ → ℕ → ℕ → ℕ → ParsedInner × ℕ → Type 0
IsArrayOf text limit d k (inner, j) = (vs : ParsedItems) × (inner ≡ array_node vs) × ItemsWith SpellsScalar vs text limit d k j

pub onto_more : (vs : List ParsedValue) (v : ParsedValue) (rest : ParsedItems) → onto (vs ++ (v ∷ [])) rest ≡ onto vs (item v rest)
onto_more [] v rest = refl
onto_more (w ∷ ws) v rest = ap (λ z. item w z) (onto_more ws v rest)

abbrev pub ValueSound : List ℕ → ℕ → ℕ → (ℕ → Reading ValueEnd) → Type 0
ValueSound text limit d value = (v : ParsedValue) (i j : ℕ) → value i (Ok (v, j)) → Spells v text limit d i j

element_kept : (text : List ℕ) (limit d k : ℕ) (value : ℕ → Reading ValueEnd) → ValueSound text limit d value → (s : Elements) (t : LoopStep Elements (ParsedInner × ℕ)) → ItemsFrom text limit d k s → read.next_element text value s (Ok t)
    → Kept (ItemsFrom text limit d k) (IsArrayOf text limit d k) t
element_kept text limit d k value sound (vs, i) t from (inl (shut, e)) =
    let is : t ≡ done (read.array_end vs (i + 1)) = cc in rw is (onto vs no_items, refl, from no_items (i + 1) (byte_is _ _ shut, refl))
element_kept text limit d k value sound (vs, i) t from (inr (other, h)) =
    let ((v, m), found, sep) = after_gives h in
    separated 93 expected_tokens.RightBracket text m (λ x. (vs ++ (v ∷ []), x)) (read.array_end (vs ++ (v ∷ []))) (ItemsFrom text limit d k) (IsArrayOf text limit d k) t sep
    (λ p comma rest j g. rw (onto_more vs v rest) (from (item v rest) j (m, sound v i m found, inr (p, comma, g))))
    (λ j closes. (onto (vs ++ (v ∷ [])) no_items, refl, rw (onto_more vs v no_items) (from (item v no_items) j (m, sound v i m found, inl (refl, closes)))))

elements_sound : (text : List ℕ) (limit d k : ℕ) (value : ℕ → Reading ValueEnd) → ValueSound text limit d value → (a : ParsedInner × ℕ) → Loop (read.next_element text value) ([], k) (Ok a) → IsArrayOf text limit d k a
elements_sound text limit d k value sound a h =
    loop_sound (read.next_element text value) (ItemsFrom text limit d k) (IsArrayOf text limit d k) (element_kept text limit d k value sound) ([], k) (Ok a) a (λ rest j g. g) h refl

-- ---- keys and their values

-- what is read as an assignment or a pair
pub record AssignmentRead (e : ParsedAssignment) (text : List ℕ) (limit : ℕ) (skipped : ℕ → ℕ → Type 0) (value : ℕ → ℕ → Reading ValueEnd) (i j : ℕ) : Type 0 where
  pub key_end : ℕ
  pub at : ℕ
  pub from : ℕ
  pub key : SpellsKey e.parts text i key_end
  pub few : length e.parts ≤ limit
  pub before : skipped key_end at
  pub here : get_or text at 0 ≡ 61
  pub after : skipped (at + 1) from
  pub given : value (length e.parts) from (Ok (e.value, j))
  pub extent : e.extent ≡ from_to i j

pub assignment_sound : (e : ParsedAssignment) (text : List ℕ) (limit : ℕ) (skipped : ℕ → ℕ → Type 0) (value : ℕ → ℕ → Reading ValueEnd) (i j : ℕ) → read.keyval text limit skipped value i (Ok (e, j)) → AssignmentRead e text limit skipped value i j
assignment_sound e text limit skipped value i j h =
    let ((ps, a), key, (n, before, sign)) = after_gives h in
    let (here, (b, beyond, more)) = not_missing sign in
    let ((v, m), found, is) = after_gives more in
    let s = key_sound false text limit i a ps key in
    same_read (λ (e, j). AssignmentRead e text limit skipped value i j) is
    (record { key_end = a; at = n; from = b; key = s.0; few = s.1; before = before; here = byte_is _ _ here; after = beyond; given = found; extent = refl })

-- ---- pairs

abbrev PairsFrom : List ℕ → ℕ → ℕ → ℕ → Pairs → Type 0
PairsFrom text limit d k (es, i) = (rest : ParsedPairs) (j : ℕ) → PairsWith SpellsScalar rest es text limit d i j → PairsWith SpellsScalar (pairs_onto es rest) [] text limit d k j

abbrev Members : List ℕ → ℕ → ℕ → ℕ → ParsedInner × ℕ → Type 0
Members text limit d k (inner, j) = (ps : ParsedPairs) × (inner ≡ inline_node ps) × PairsWith SpellsScalar ps [] text limit d k j

pub pairs_onto_more : (es : List ParsedAssignment) (p : ParsedAssignment) (rest : ParsedPairs) → pairs_onto (es ++ (p ∷ [])) rest ≡ pairs_onto es (pair_node p.parts p.value p.extent rest)
pairs_onto_more [] p rest = refl
pairs_onto_more (e ∷ es) p rest = ap (λ z. pair_node e.parts e.value e.extent z) (pairs_onto_more es p rest)

-- with any number of key parts
abbrev pub PartsSound : List ℕ → ℕ → ℕ → (ℕ → ℕ → Reading ValueEnd) → Type 0
PartsSound text limit d value = (n : ℕ) → ValueSound text limit (d + n) (value n)

-- the pair of a clause of `PairsWith`
abbrev pub SpellsPair : ParsedAssignment → List ℕ → ℕ → ℕ → ℕ → ℕ → Type 0
SpellsPair e t limit d i j =
    (a b : ℕ) × SpellsKey e.parts t i a × (length e.parts ≤ limit) × Separator equals t a b
    × Spells e.value t limit (d + length e.parts) b j × (e.extent ≡ from_to i j)

pair_spelled : (e : ParsedAssignment) (text : List ℕ) (limit d : ℕ) (value : ℕ → ℕ → Reading ValueEnd) (i j : ℕ) → PartsSound text limit d value → read.keyval text limit (MaximalGap text) value i (Ok (e, j)) → SpellsPair e text limit d i j
pair_spelled e text limit d value i j sound h =
    let r = assignment_sound e text limit (MaximalGap text) value i j h in
    (r.key_end, r.from, r.key, r.few, record { at = r.at; before = r.before; here = r.here; after = r.after }, sound (length e.parts) e.value r.from j r.given, r.extent)

pair_kept : (text : List ℕ) (limit d k : ℕ) (value : ℕ → ℕ → Reading ValueEnd) → PartsSound text limit d value → (s : Pairs) (t : LoopStep Pairs (ParsedInner × ℕ)) → PairsFrom text limit d k s → read.next_pair text limit value s (Ok t)
    → Kept (PairsFrom text limit d k) (Members text limit d k) t
pair_kept text limit d k value sound (es, i) t from (inl (shut, e)) =
    let is : t ≡ done (read.table_end es (i + 1)) = cc in rw is (pairs_onto es no_pairs, refl, from no_pairs (i + 1) (byte_is _ _ shut, refl))
pair_kept text limit d k value sound (es, i) t from (inr (other, h)) =
    let ((p, m), found, more) = after_gives h in
    let (fs, adds, sep) = after_gives more in
    let (clear, same) = is_added es fs p adds in
    let spelled = pair_spelled p text limit d value i m sound found in
    separated 125 expected_tokens.Comma text m (λ x. (es ++ (p ∷ []), x)) (read.table_end (es ++ (p ∷ []))) (PairsFrom text limit d k) (Members text limit d k) t (rw same at sep)
    (λ n comma rest j g. rw (pairs_onto_more es p rest) (from (pair_node p.parts p.value p.extent rest) j (m, spelled, clear, inr (n, comma, g))))
    (λ j closes. (pairs_onto (es ++ (p ∷ [])) no_pairs, refl, rw (pairs_onto_more es p no_pairs) (from (pair_node p.parts p.value p.extent no_pairs) j (m, spelled, clear, inl (refl, closes)))))

members_sound : (text : List ℕ) (limit d k : ℕ) (value : ℕ → ℕ → Reading ValueEnd) → PartsSound text limit d value → (a : ParsedInner × ℕ) → Loop (read.next_pair text limit value) ([], k) (Ok a) → Members text limit d k a
members_sound text limit d k value sound a h =
    loop_sound (read.next_pair text limit value) (PairsFrom text limit d k) (Members text limit d k) (pair_kept text limit d k value sound) ([], k) (Ok a) a (λ rest j g. g) h refl

-- ---- values

-- a value with this many levels left, if the values inside it are spelled
level_sound : (left : ℕ) (text : List ℕ) (limit d : ℕ) → d ≤ limit → PartsSound text limit (d + 1) (read.value text limit left) → ValueSound text limit d (read.value text limit (suc left) zero)
unfolding read.value
level_sound left text limit d l sound v i j (inl (here, (k, gap, h))) =
    let deeper : (d + 1) + zero ≡ d + 1 = omega arith in
    let ((inner, m), items, is) = after_gives h in
    let (vs, e, spelled) = elements_sound text limit (d + 1) k (read.value text limit left zero) (rw deeper at (sound zero)) (inner, m) items in
    same_read (λ (v, j). Spells v text limit d i j) is (rw e (l, (byte_is _ _ here, refl, k, gap, spelled)))
level_sound left text limit d l sound v i j (inr (none, inl (here, (k, gap, h)))) =
    let ((inner, m), pairs, is) = after_gives h in
    let (ps, e, spelled) = members_sound text limit (d + 1) k (read.value text limit left) sound (inner, m) pairs in
    same_read (λ (v, j). Spells v text limit d i j) is (rw e (l, (byte_is _ _ here, refl, k, gap, spelled)))
level_sound left text limit d l sound v i j (inr (none, inr (unbraced, inl (bare, h)))) =
    let ((s, m), found, is) = after_gives h in same_read (λ (v, j). Spells v text limit d i j) is (l, bare_sound s text i m bare found)
level_sound left text limit d l sound v i j (inr (none, inr (unbraced, inr (other, h)))) = grind (arith, nat_tests, common_steps)

-- with this many levels left below the limit
pub value_sound : (left : ℕ) (text : List ℕ) (limit d n : ℕ) → d + left ≡ limit + 1 → ValueSound text limit (d + n) (read.value text limit left n)
unfolding read.value
value_sound zero text limit d n e v i j (inl (test, is)) = absurd cc
value_sound zero text limit d n e v i j (inr (test, h)) = let (f, found, is) = after_gives h in absurd cc
value_sound (suc left) text limit d (suc n) e v i j h =
    let same : (d + 1) + n ≡ d + suc n = omega arith in rw same at (value_sound left text limit (d + 1) n (omega (arith, e)) v i j h)
value_sound (suc left) text limit d zero e v i j h =
    let same : d ≡ d + zero = omega arith in
    rw same at (level_sound left text limit d (omega (arith, e)) (λ n. value_sound left text limit (d + 1) n (omega (arith, e))) v i j h)

-- ---- lines

assignment_spelled : (e : ParsedAssignment) (text : List ℕ) (limit i j : ℕ) → read.keyval text limit (MaximalRun is_blank text) (read.value text limit (limit + 1)) i (Ok (e, j)) → AssignmentWith SpellsScalar e text limit i j
assignment_spelled e text limit i j h =
    let r = assignment_sound e text limit (MaximalRun is_blank text) (read.value text limit (limit + 1)) i j h in
    let depth : 0 + length e.parts ≡ length e.parts = omega arith in
    record {
      key_end = r.key_end;
      from = r.from;
      key = r.key;
      few = r.few;
      sign = record { at = r.at; before = r.before; here = r.here; after = r.after };
      spelled = rw depth at (value_sound (limit + 1) text limit 0 (length e.parts) (omega arith) e.value r.from j r.given);
      extent = r.extent;
    }

tail_sound : (text : List ℕ) (i j : ℕ) → read.tail text i (Ok j) → Tail text i j
tail_sound text i j h = grind (arith, nat_tests, common_steps)

-- any assignments that follow, together with those read so far, are assignments from k on
abbrev LinesFrom : List ℕ → ℕ → ℕ → Pairs → Type 0
LinesFrom text limit k (es, i) = (rest : List ParsedAssignment) (j : ℕ) → AssignmentsWith SpellsScalar rest es text limit i j → AssignmentsWith SpellsScalar (es ++ rest) [] text limit k j

-- the assignments are spelled from k on, and no other follows
abbrev LinesUpTo : List ℕ → ℕ → ℕ → Pairs → Type 0
LinesUpTo text limit k (es, j) = AssignmentsWith SpellsScalar es [] text limit k j × (read.ends_lines text j ≡ true)

line_kept : (text : List ℕ) (limit k : ℕ) (s : Pairs) (t : LoopStep Pairs Pairs) → LinesFrom text limit k s → read.next_assignment text limit s (Ok t) → Kept (LinesFrom text limit k) (LinesUpTo text limit k) t
line_kept text limit k (es, i) t from (inl (end, e)) =
    let is : t ≡ done (es, i) = cc in rw is (rw (append-nil es) at (from [] i refl), end)
line_kept text limit k (es, i) t from (inr (go, h)) =
    let ((p, m), found, more) = after_gives h in
    let (n, rest_of, adds) = after_gives more in
    let (fs, added, (q, gap, e)) = after_gives adds in
    let (clear, same) = is_added es fs p added in
    let is : t ≡ on (es ++ (p ∷ []), q) = cc in
    rw is (λ rest j g. rw (append_assoc es (p ∷ []) rest) (from (p ∷ rest) j (m, n, q, assignment_spelled p text limit i m found, tail_sound text m n rest_of, clear, gap, g)))

lines_sound : (es : List ParsedAssignment) (text : List ℕ) (limit i j : ℕ) → read.assignment_lines text limit i (Ok (es, j)) → SpellsLines es text limit i j × (read.ends_lines text j ≡ true)
lines_sound es text limit i j (k, gap, h) =
    let r = loop_sound (read.next_assignment text limit) (LinesFrom text limit k) (LinesUpTo text limit k) (line_kept text limit k) ([], k) (Ok (es, j)) (es, j) (λ rest n g. g) h refl in
    ((k, gap, r.0), r.1)

-- ---- headers

closing_sound : (array : Bool) (text : List ℕ) (i j : ℕ) → read.closing array text i (Ok j) → ClosesHeader array text i j
closing_sound array text i j h = grind (arith, nat_tests, common_steps)

heading_sound : (array : Bool) (h : HeaderEnd) (text : List ℕ) (limit i m : ℕ) → OpensHeader array text i m → read.heading array text limit m (Ok h) → SpellsHeader h.parts h.array text limit i h.end
heading_sound array h text limit i m opens (k, before, front) =
    let ((ps, a), key, (c, beyond, closes)) = after_gives front in
    let (e, shut, more) = after_gives closes in
    let (j, rest, is) = after_gives more in
    let s = key_sound true text limit k a ps key in
    let found : h ≡ record { parts = ps; array = array; end = j } = cc in
    rw found (record {
      close = c;
      end = e;
      front = record { inside = m; start = k; end = a; opens = opens; before = before; key = s.0; few = s.1; after = beyond };
      shuts = closing_sound array text c e shut;
      rest = tail_sound text e j rest;
    })

pub header_sound : (h : HeaderEnd) (text : List ℕ) (limit i : ℕ) → get_or text i 0 ≡ 91 → read.header text limit i (Ok h) → SpellsHeader h.parts h.array text limit i h.end
header_sound h text limit i here (inl (two, g)) = heading_sound true h text limit i (i + 2) (here, byte_is _ _ two, refl) g
header_sound h text limit i here (inr (one, g)) = heading_sound false h text limit i (i + 1) (here, one, refl) g

-- ---- sections

-- a section, after which no assignment follows
ended_section : (b : ParsedSection) (text : List ℕ) (limit i j : ℕ) → get_or text i 0 ≡ 91 → read.section text limit i (Ok (b, j)) → SpellsSection b text limit i j × (read.ends_lines text j ≡ true)
ended_section b text limit i j here found =
    let (h, g, more) = after_gives found in
    let ((es, k), l, is) = after_gives more in
    let lines = lines_sound es text limit h.end k l in
    same_read (λ (b, j). SpellsSection b text limit i j × (read.ends_lines text j ≡ true)) is
    (record { end = h.end; header = header_sound h text limit i here g; header_span = refl; lines = lines.0; extent = refl }, lines.1)

pub section_sound : (b : ParsedSection) (text : List ℕ) (limit i j : ℕ) → get_or text i 0 ≡ 91 → read.section text limit i (Ok (b, j)) → SpellsSection b text limit i j
section_sound b text limit i j here h = (ended_section b text limit i j here h).0

-- ---- the document

-- any sections that follow, together with those read so far, are the document, and another section begins here, or the
-- text ends
abbrev DocumentFrom : List ℕ → ℕ → ParsedSections → Type 0
DocumentFrom text limit (bs, i) = ((rest : List ParsedSection) → SectionsWith SpellsScalar rest text limit i → SpellsDocument (bs ++ rest) text limit) × (read.ends_lines text i ≡ true)

section_kept : (text : List ℕ) (limit : ℕ) (s : ParsedSections) (t : LoopStep ParsedSections (List ParsedSection)) → DocumentFrom text limit s → read.next_section text limit s (Ok t) → Kept (DocumentFrom text limit) (λ a. SpellsDocument a text limit) t
section_kept text limit (bs, i) t from (inl (end, e)) =
    let is : t ≡ done bs = cc in rw is (rw (append-nil bs) at (from.0 [] (byte_is _ _ end)))
section_kept text limit (bs, i) t from (inr (more, h)) =
    let ((b, j), found, e) = after_gives h in
    let is : t ≡ on (bs ++ (b ∷ []), j) = cc in
    let s = ended_section b text limit i j (byte_is _ _ (grind (arith, nat_tests, common_steps))) found in
    rw is ((λ rest g. rw (append_assoc bs (b ∷ []) rest) (from.0 (b ∷ rest) (j, s.0, g))), s.1)

pub first_sound : (bs : List ParsedSection) (text : List ℕ) (limit j : ℕ) → read.before_headers text limit (Ok (bs, j)) → (start : ℕ) × (es : List ParsedAssignment) × FirstPlace text start × SpellsLines es text limit start j × (bs ≡ headerless_section es) × (read.ends_lines text j ≡ true)
first_sound bs text limit j (i, begins, h) =
    let ((es, k), l, is) = after_gives h in
    let lines = lines_sound es text limit i k l in
    same_read (λ (bs, j). (start : ℕ) × (es : List ParsedAssignment) × FirstPlace text start × SpellsLines es text limit start j × (bs ≡ headerless_section es) × (read.ends_lines text j ≡ true)) is (i, es, begins, lines.0, refl, lines.1)

pub document_sound : (bs : List ParsedSection) (text : List ℕ) (limit : ℕ) → read.document text limit (Ok bs) → SpellsDocument bs text limit
unfolding read.document
document_sound bs text limit h =
    let ((first, j), before, more) = after_gives h in
    let (start, es, begins, l, is, end) = first_sound first text limit j before in
    loop_sound (read.next_section text limit) (DocumentFrom text limit) (λ a. SpellsDocument a text limit) (section_kept text limit) (first, j) (Ok bs) bs
    ((λ rest g. record { start = start; end = j; first = es; rest = rest; begins = begins; lines = l; sections = g; all = ap (λ z. z ++ rest) is }), end) more refl
