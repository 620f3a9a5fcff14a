-- Reading a form has at most one result.
use Rattle.toml_span_lex.proofs.Common.{◌≡◌, ℕ, zero, suc, ◌+◌, ◌<◌, Bool, true, false, List, length, arith, inl, inr, refl, sym, ap, ◌∙◌, Result, Ok, Err, nat_tests, common_steps, [], ◌∷◌, ◌++◌, get_or, ◌==◌, false≢true, ◌⊎◌, ◌&&◌}
use Rattle.toml_span_lex.specs.declared.span.Span.{Span}
use Rattle.toml_span_lex.specs.declared.tokens.Error.{Error}
use Rattle.toml_span_lex.specs.Tokens.{Lexeme, IsLexeme, IsNoToken}
use Rattle.toml_span_lex.proofs.NoFault.{token_or_fault}
pub use Rattle.toml_span_lex.proofs.One.{One, one_is, one_where, one_given, one_either}
use Rattle.toml_span_lex.proofs.OneFault.{fault_unique, char_unique, char_within}
use Rattle.toml_span_lex.proofs.OneToken.{token_unique}
use Rattle.toml_span_lex.proofs.Within.{fault_within}
use Rattle.toml_span_read.specs.declared.fault.Fault.{Fault}
use Rattle.toml_span_read.specs.Read.{Reading, after, NextToken, token, text_end, no_token, IsNextToken, choice, LoopStep, on, done, Loop, ends, stops, goes_on, key_result, Parts, onward, ValueEnd, Elements, Pairs, ParsedSections}
use Rattle.toml_span_lex.specs.Bytes.{is_blank, is_printed, MaximalRun}
use Rattle.toml_span_read.specs.Gaps.{GapPiece, begins_gap, GapBy, MaximalGap, Dot, NoDot, Skipped, Tail, NoTail}
use Rattle.toml_span_read.specs.Data.{SimpleKey}
use Rattle.toml_span_read.specs.Read as read
use Rattle.toml_span_read.proofs.NumberLemmas.{same_byte}
use Rattle.toml_span_lex.specs.Text.{LineEnd, CharAt}
use Rattle.toml_span_lex.specs.Text.{FirstPlace}
use Rattle.toml_span_lex.proofs.Unique.{run_unique, line_unique, line_not}
use Rattle.toml_span_read.specs.declared.fault.ExpectedToken.{ExpectedToken}
use Rattle.toml_span_read.specs.Dates.{is_date_byte, continues_date}

pub one_after : {A B : Type 0} {m : Reading A} {f : A → Reading B} → One m → ((a : A) → One (f a)) → One (after m f)
one_after one each = grind (arith, nat_tests, common_steps)

pub one_choice : {A : Type 0} {test : Bool} {this that : Reading A} → One this → One that → One (choice test this that)
one_choice one other = one_either (one_where one) (one_where other) (λ r s (t, h) (u, g). let e = sym t ∙ u in cc)

-- ---- tokens

no_token_at_end : (text : List ℕ) (i j : ℕ) (s : Span) (l : Lexeme) → i ≡ length text → IsLexeme text i j s l → ⊥
no_token_at_end text i j s l e h = grind (arith, nat_tests, common_steps)

no_fault_at_end : (text : List ℕ) (i j : ℕ) (x : Error) → i ≡ length text → IsNoToken text i j x → ⊥
no_fault_at_end text i j x e h = let w = fault_within text i j x h in omega (arith, e, w.0, w.1)

pub one_stands : (text : List ℕ) (i : ℕ) (a b : NextToken) → IsNextToken text i a → IsNextToken text i b → a ≡ b
one_stands text i (token s l j) (token t m k) h g = let u = token_unique text i j k s t l m h g in rw (u.1, u.2, u.0) refl
one_stands text i (token s l j) text_end h g = absurd (no_token_at_end text i j s l g h)
one_stands text i (token s l j) (no_token x) h (k, g) = absurd (token_or_fault text i j k s l x h g)
one_stands text i text_end (token s l j) h g = absurd (no_token_at_end text i j s l h g)
one_stands text i text_end text_end h g = refl
one_stands text i text_end (no_token x) h (k, g) = absurd (no_fault_at_end text i k x h g)
one_stands text i (no_token x) (token s l j) (k, h) g = absurd (token_or_fault text i j k s l x g h)
one_stands text i (no_token x) text_end (k, h) g = absurd (no_fault_at_end text i k x g h)
one_stands text i (no_token x) (no_token y) (j, h) (k, g) = ap (λ z. no_token z) (fault_unique text i j k x y h g).1

-- the result for what is at i
pub one_standing : {A : Type 0} (text : List ℕ) (i : ℕ) {f : NextToken → Result A Fault} → One (λ r. (t : NextToken) × IsNextToken text i t × (r ≡ f t))
one_standing text i = one_given (one_stands text i) (λ t. one_is)

-- ---- loops

loops_one : {S A : Type 0} (step : S → Reading (LoopStep S A)) → ((s : S) → One (step s)) → {s : S} {r q : Result A Fault} → Loop step s r → Loop step s q → r ≡ q
loops_one step one (ends s a h) (ends s' b g) = let x = one s (Ok (done a)) (Ok (done b)) h g in cc
loops_one step one (ends s a h) (stops s' e g) = let x = one s (Ok (done a)) (Err e) h g in absurd (cc)
loops_one step one (ends s a h) (goes_on s' t q g m) = let x = one s (Ok (done a)) (Ok (on t)) h g in absurd (cc)
loops_one step one (stops s e h) (ends s' b g) = let x = one s (Err e) (Ok (done b)) h g in absurd (cc)
loops_one step one (stops s e h) (stops s' f g) = let x = one s (Err e) (Err f) h g in cc
loops_one step one (stops s e h) (goes_on s' t q g m) = let x = one s (Err e) (Ok (on t)) h g in absurd (cc)
loops_one step one (goes_on s t r h l) (ends s' b g) = let x = one s (Ok (on t)) (Ok (done b)) h g in absurd (cc)
loops_one step one (goes_on s t r h l) (stops s' e g) = let x = one s (Ok (on t)) (Err e) h g in absurd (cc)
loops_one step one (goes_on s t r h l) (goes_on s' u q g m) = let x = one s (Ok (on t)) (Ok (on u)) h g in let e : u ≡ t = cc in loops_one step one {s = t} {r = r} {q = q} l (rw e at m)

pub one_loop : {S A : Type 0} (step : S → Reading (LoopStep S A)) → ((s : S) → One (step s)) → (s : S) → One (Loop step s)
one_loop step one s r q h g = loops_one step one {s = s} {r = r} {q = q} h g

-- a byte that both is c and is not
pub not_here : (b c : ℕ) → b ≡ c → (b == c) ≡ false → ⊥
not_here b c e n = false≢true (sym n ∙ same_byte b c e)

-- ---- gaps

piece_unique : (text : List ℕ) (i : ℕ) → One (GapPiece text i)
piece_unique text i = grind (arith, nat_tests, common_steps)

piece_begins : (text : List ℕ) (i j : ℕ) → GapPiece text i j → begins_gap text i ≡ true
piece_begins text i j h = grind (arith, nat_tests, common_steps)

gap_by_unique : (text : List ℕ) (i j k : ℕ) (ks ls : List ℕ) → GapBy text i ks j → GapBy text i ls k → begins_gap text j ≡ false → begins_gap text k ≡ false → j ≡ k
gap_by_unique text i j k [] [] a b f g = sym a ∙ b
gap_by_unique text i j k [] (l ∷ ls) a b f g = absurd (false≢true (sym (rw (sym a) at f) ∙ piece_begins text i l b.0))
gap_by_unique text i j k (x ∷ ks) [] a b f g = absurd (false≢true (sym (rw (sym b) at g) ∙ piece_begins text i x a.0))
gap_by_unique text i j k (x ∷ ks) (l ∷ ls) a b f g =
    let e : x ≡ l = piece_unique text i x l a.0 b.0 in gap_by_unique text x j k ks ls a.1 (rw (sym e) at b.1) f g

pub gap_unique : (text : List ℕ) (i j k : ℕ) → MaximalGap text i j → MaximalGap text i k → j ≡ k
gap_unique text i j k a b = gap_by_unique text i j k a.ends b.ends a.pieces b.pieces a.stops b.stops

-- ---- dots

pub dot_or_none : (text : List ℕ) (i j : ℕ) → Dot text i j → NoDot text i → ⊥
dot_or_none text i j a b = grind (arith, nat_tests, common_steps)

-- ---- keys

pub simple_one : (text : List ℕ) (i : ℕ) → One (read.simple_key_at text i)
simple_one text i = one_standing text i

onward_one : (text : List ℕ) (ps : List SimpleKey) (m : ℕ) (next : ℕ → Reading Parts) → ((p : ℕ) → One (next p)) → One (onward text ps m next)
onward_one text ps m next one = one_either (one_where one_is) (one_given (grind (arith, nat_tests, common_steps)) one) (λ r s none dot. dot_or_none text m dot.0 dot.1 none.0)

pub key_one : (header : Bool) (text : List ℕ) (left : ℕ) (ps : List SimpleKey) (i : ℕ) → One (read.key header text left ps i)
unfolding read.key
key_one header text zero ps i = one_after (simple_one text i) (λ f. one_is)
key_one header text (suc n) ps i = one_after (simple_one text i) (λ (s, m). onward_one text (ps ++ (s ∷ [])) m _ (key_one header text n (ps ++ (s ∷ []))))

-- ---- places

comment_one : (text : List ℕ) (m : ℕ) → One (λ j. ((get_or text m 0 ≡ 35) × MaximalRun is_printed text m j) ⊎ (((get_or text m 0 == 35) ≡ false) × (j ≡ m)))
comment_one text m = one_either (one_where (run_unique is_printed text m)) (one_where one_is) (λ j k hash none. not_here (get_or text m 0) 35 hash.0 none.0)

skipped_one : (text : List ℕ) (i : ℕ) → One (Skipped text i)
skipped_one text i j k a b = one_given (run_unique is_blank text i) (comment_one text) j k (a.at, a.blank, a.comment) (b.at, b.blank, b.comment)

line_within : (text : List ℕ) (i j : ℕ) → LineEnd text i j → i < length text
line_within text i j h = grind (arith, nat_tests, common_steps)

-- the rest of a line has one end
rest_one : (text : List ℕ) (i : ℕ) → One (Tail text i)
rest_one text i = one_given (skipped_one text i) (λ m. one_either (line_unique text m) (one_where one_is) (λ j k line end. omega (arith, line_within text m j line, end.0)))

rest_or_none : (text : List ℕ) (i j k : ℕ) → Tail text i j → NoTail text i k → ⊥
rest_or_none text i j k (m, a, c) (b, l, n) =
    let e : m ≡ k = skipped_one text i m k a b in
    elim c [ inl line ↦ line_not text k j (rw e at line) n | inr end ↦ omega (arith, e, end.0, l) ]

first_or : (text : List ℕ) (i j : ℕ) → CharAt text 0 65279 i → (j ≡ 0) × ((length text ≡ 0) ⊎ ((c : ℕ) × (k : ℕ) × CharAt text 0 c k × (c ≡ 65279 → ⊥))) → ⊥
first_or text i j a (z, inl e) = let l = char_within text 0 65279 i a in omega (arith, l, e)
first_or text i j a (z, inr (c, k, b, n)) = let u = char_unique text 0 c 65279 k i b a in n u.1

first_one : (text : List ℕ) → One (FirstPlace text)
first_one text = one_either (λ i j a b. (char_unique text 0 65279 65279 i j a b).0) (λ i j a b. a.0 ∙ sym b.0) (first_or text)

one_part : (text : List ℕ) (i j : ℕ) → MaximalRun is_date_byte text i j → ((j == i + 10) && continues_date text j) ≡ false → MaximalRun is_date_byte text i (i + 10) → continues_date text (i + 10) ≡ true → ⊥
one_part text i j a n b c = grind (arith, nat_tests, common_steps)

-- ---- values without brackets

date_one : (text : List ℕ) (i : ℕ) → One (read.date text i)
date_one text i = one_given (grind (arith, nat_tests, common_steps, one_either, one_part, run_unique)) (λ j. one_choice one_is one_is)

bare_one : (text : List ℕ) (i : ℕ) → One (read.bare text i)
bare_one text i = one_choice (date_one text i) one_is

string_one : (text : List ℕ) (i : ℕ) → One (read.string_value text i)
string_one text i = one_standing text i

-- ---- arrays, inline tables and values

separator_one : {S A : Type 0} (close : ℕ) (expected : ExpectedToken) (text : List ℕ) (m : ℕ) (next : ℕ → S) (end : ℕ → A) → One (read.separator close expected text m next end)
separator_one close expected text m next end =
    one_given (gap_unique text m) (λ k. one_choice (one_given (gap_unique text (k + 1)) (λ p. one_is)) (one_choice one_is (one_standing text k)))

element_one : (text : List ℕ) (value : ℕ → Reading ValueEnd) → ((i : ℕ) → One (value i)) → (s : Elements) → One (read.next_element text value s)
element_one text value one (vs, i) = one_choice one_is (one_after (one i) (λ (v, m). separator_one _ _ text m _ (read.array_end (vs ++ (v ∷ [])))))

parsed_assignment_one : (text : List ℕ) (limit : ℕ) (skipped : ℕ → ℕ → Type 0) (value : ℕ → ℕ → Reading ValueEnd) (i : ℕ) → ((i j k : ℕ) → skipped i j → skipped i k → j ≡ k) → ((n b : ℕ) → One (value n b)) → One (read.keyval text limit skipped value i)
parsed_assignment_one text limit skipped value i unique one =
    one_after (key_one false text limit [] i) (λ (ps, a). one_given (unique a)
    (λ n. one_choice (one_given (unique (n + 1)) (λ b. one_after (one (length ps) b) (λ f. one_is))) (one_standing text n)))

pair_one : (text : List ℕ) (limit : ℕ) (value : ℕ → ℕ → Reading ValueEnd) → ((n b : ℕ) → One (value n b)) → (s : Pairs) → One (read.next_pair text limit value s)
pair_one text limit value one (es, i) =
    one_choice one_is
    (one_after (parsed_assignment_one text limit _ value i (gap_unique text) one) (λ (e, m). one_after one_is (λ fs. separator_one _ _ text m _ (read.table_end fs))))

pub value_one : (text : List ℕ) (limit left n i : ℕ) → One (read.value text limit left n i)
unfolding read.value
value_one text limit zero n i = one_choice one_is (one_after (string_one text i) (λ f. one_is))
value_one text limit (suc left) (suc n) i = value_one text limit left n i
value_one text limit (suc left) zero i =
    one_choice (one_given (gap_unique text (i + 1)) (λ k. one_after (one_loop _ (element_one text (read.value text limit left zero) (value_one text limit left zero)) ([], k)) (λ f. one_is)))
    (one_choice (one_given (gap_unique text (i + 1)) (λ k. one_after (one_loop _ (pair_one text limit (read.value text limit left) (value_one text limit left)) ([], k)) (λ f. one_is)))
    (one_choice (one_after (bare_one text i) (λ f. one_is)) (string_one text i)))

-- ---- lines

pub tail_one : (text : List ℕ) (i : ℕ) → One (read.tail text i)
tail_one text i = one_either (one_given (rest_one text i) (λ j. one_is)) (one_given (λ j k a b. skipped_one text i j k a.0 b.0) (λ k. one_standing text k)) (λ r s a b. rest_or_none text i a.0 b.0 a.1 b.1)

pub assignment_one : (text : List ℕ) (limit i : ℕ) → One (read.keyval text limit (MaximalRun is_blank text) (read.value text limit (limit + 1)) i)
assignment_one text limit i = parsed_assignment_one text limit _ (read.value text limit (limit + 1)) i (run_unique is_blank text) (value_one text limit (limit + 1))

line_one : (text : List ℕ) (limit : ℕ) (s : Pairs) → One (read.next_assignment text limit s)
line_one text limit (es, i) =
    one_choice one_is (one_after (assignment_one text limit i) (λ (e, m). one_after (tail_one text m) (λ n. one_after one_is (λ fs. one_given (gap_unique text n) (λ k. one_is)))))

lines_one : (text : List ℕ) (limit i : ℕ) → One (read.assignment_lines text limit i)
lines_one text limit i = one_given (gap_unique text i) (λ k. one_loop (read.next_assignment text limit) (line_one text limit) ([], k))

-- ---- headers, sections and the document

bracket_one : (text : List ℕ) (i : ℕ) → One (read.bracket text i)
bracket_one text i = one_choice one_is (one_standing text i)

closing_one : (array : Bool) (text : List ℕ) (i : ℕ) → One (read.closing array text i)
closing_one false text i = bracket_one text i
closing_one true text i = one_after (bracket_one text i) (bracket_one text)

heading_one : (array : Bool) (text : List ℕ) (limit i : ℕ) → One (read.heading array text limit i)
heading_one array text limit i =
    one_given (run_unique is_blank text i) (λ k. one_after (key_one true text limit [] k)
    (λ (ps, a). one_given (run_unique is_blank text a) (λ c. one_after (closing_one array text c) (λ m. one_after (tail_one text m) (λ j. one_is)))))

pub header_one : (text : List ℕ) (limit i : ℕ) → One (read.header text limit i)
header_one text limit i = one_choice (heading_one true text limit (i + 2)) (heading_one false text limit (i + 1))

next_one : (text : List ℕ) (limit : ℕ) (s : ParsedSections) → One (read.next_section text limit s)
next_one text limit (bs, i) =
    one_choice one_is (one_after (one_after (header_one text limit i) (λ h. one_after (lines_one text limit h.end) (λ f. one_is))) (λ f. one_is))

pub document_one : (text : List ℕ) (limit : ℕ) → One (read.document text limit)
unfolding read.document
document_one text limit =
    one_after (one_given (first_one text) (λ i. one_after (lines_one text limit i) (λ f. one_is))) (one_loop (read.next_section text limit) (next_one text limit))
