-- At each offset in a text each form is read, or there is a fault.
use Rattle.toml_span_lex.proofs.Common.{◌≡◌, ℕ, zero, suc, ◌+◌, ◌<◌, ◌≤◌, Bool, true, false, List, length, arith, inl, inr, refl, Result, Ok, Err, nat_tests, common_steps, [], ◌∷◌, ◌++◌, get_or, Some, None, Option, option_map_or, ◌==◌, ◌||◌, is_some, if◌then◌else◌, codes, IsUtf8, IsCharBoundary, bytes_eq, or_parts}
use Rattle.toml_span_lex.specs.declared.span.Span.{Span}
use Rattle.toml_span_lex.specs.Laws.{HasTokenOrFault}
use Rattle.toml_span_lex.specs.Tokens.{keylike, string}
pub use Rattle.toml_span_lex.proofs.One.{One, one_is, one_where, one_given, one_either}
use Rattle.toml_span_lex.proofs.Within.{token_within}
use Rattle.toml_span_read.specs.Earlier.{crossing}
use Rattle.toml_span_read.specs.declared.fault.Fault.{Fault}
use Rattle.toml_span_read.specs.Read.{Reading, after, NextToken, token, text_end, no_token, IsNextToken, choice, LoopStep, on, done, Loop, ends, stops, goes_on, run_at, number_or_word, next_section, key_result, string_of, Parts, onward, skipping, missing, ValueEnd, Elements, Pairs, ParsedSections, HeaderEnd}
use Rattle.toml_span_lex.specs.Bytes.{is_blank, is_keylike, MaximalRun}
use Rattle.toml_span_lex.specs.Strings.{IsString}
use Rattle.toml_span_lex.specs.Text.{FirstPlace}
use Rattle.toml_span_lex.proofs.PieceLemmas.{Cut-forward, ends as string_ends_at}
use Rattle.toml_span_lex.proofs.Unique.{run_unique}
use Rattle.toml_span_read.specs.declared.fault.ExpectedToken.{ExpectedToken}
use Rattle.toml_span_read.specs.declared.fault.ExpectedToken.TheVariants as expected_tokens
use Rattle.toml_span_read.specs.declared.numbers.Numeral.{Numeral}
use Rattle.toml_span_read.specs.Data.{ParsedInner, ParsedAssignment, SimpleKey}
use Rattle.toml_span_read.specs.Dates.{begins_date}
use Rattle.toml_span_read.specs.Faults.{begins_bare, begins_number}
use Rattle.toml_span_read.specs.Gaps.{MaximalGap}
use Rattle.toml_span_read.specs.Numerals.{number, numeral, run_end, special}
use Rattle.toml_span_read.specs.code.Gaps.{DotGives, TailGives}
use Rattle.toml_span_read.specs.Read as read
use Rattle.toml_span_read.proofs.NumberLemmas.{bool_cases, byte_is, run_is}
use Rattle.toml_span_read.proofs.NumberReads.{Starts, number_advances}
use Rattle.toml_span_read.proofs.Places.{run_some, after_byte}
use Rattle.toml_span_laws.specs.code.Judged.{Onto, Judged}

-- ---- there is a result

-- P holds for the value that is read
abbrev pub Holds : {A : Type 0} → (A → Type 0) → Result A Fault → Type 0
Holds P (Ok a) = P a
Holds P (Err e) = Unit {0}

-- reading has a result, and P holds for the value that is read
abbrev pub Sure : {A : Type 0} → (A → Type 0) → Reading A → Type 0
Sure {A = A} P m = (r : Result A Fault) × m r × Holds P r

pub sure_is : {A : Type 0} {P : A → Type 0} (a : A) → P a → Sure P (λ r. r ≡ Ok a)
sure_is a p = (Ok a, refl, p)

pub sure_given : {A B : Type 0} {P : A → Type 0} {R : B → Type 0} {next : B → Reading A} (b : B) → R b → Sure P (next b) → Sure P (λ r. (b : B) × R b × next b r)
sure_given b h (r, g, p) = (r, (b, h, g), p)

pub sure_after : {A B : Type 0} {P : A → Type 0} {Q : B → Type 0} {m : Reading A} {f : A → Reading B} → Sure P m → ((a : A) → P a → Sure Q (f a)) → Sure Q (after m f)
sure_after (Ok a, h, p) each = let (r, g, q) = each a p in (r, inl (a, h, g), q)
sure_after (Err e, h, p) each = (Err e, inr (e, h, refl), tt)

pub sure_choice : {A : Type 0} {P : A → Type 0} (test : Bool) {this that : Reading A} → (test ≡ true → Sure P this) → (test ≡ false → Sure P that) → Sure P (choice test this that)
sure_choice test this that = grind (arith, nat_tests, common_steps)

something : (text : List ℕ) (i : ℕ) → HasTokenOrFault text i → (t : NextToken) × IsNextToken text i t
something text i (inl e) = (text_end, e)
something text i (inr (inl (j, s, l, h))) = (token s l j, h)
something text i (inr (inr (j, e, h))) = (no_token e, (j, h))

pub sure_standing : {A : Type 0} {P : A → Type 0} (text : List ℕ) (i : ℕ) {f : NextToken → Result A Fault} → HasTokenOrFault text i → ((t : NextToken) → IsNextToken text i t → Holds P (f t)) → Sure P (λ r. (t : NextToken) × IsNextToken text i t × (r ≡ f t))
sure_standing text i {f = f} s p = let (t, h) = something text i s in (f t, (t, h, refl), p t h)

-- a step of a loop moves to a later offset
abbrev pub Turned : {X A : Type 0} → (ℕ → Type 0) → (A → Type 0) → ℕ → LoopStep (X × ℕ) A → Type 0
Turned I P i (on s) = I s.1 × (i < s.1)
Turned I P i (done a) = P a

turned : {X A : Type 0} (I : ℕ → Type 0) (P : A → Type 0) (step : X × ℕ → Reading (LoopStep (X × ℕ) A)) (s : X × ℕ) → Sure (Turned I P s.1) (step s) → ((t : X × ℕ) → I t.1 → s.1 < t.1 → Sure P (Loop step t)) → Sure P (Loop step s)
turned I P step s (Ok (on t), g, k) next = let (r, m, p) = next t k.0 k.1 in (r, goes_on s t r g m, p)
turned I P step s (Ok (done a), g, p) next = (Ok a, ends s a g, p)
turned I P step s (Err e, g, p) next = (Err e, stops s e g, tt)

loop_within : {X A : Type 0} (I : ℕ → Type 0) (P : A → Type 0) (n fuel : ℕ) (step : X × ℕ → Reading (LoopStep (X × ℕ) A)) → ((i : ℕ) → I i → i ≤ n) → ((s : X × ℕ) → I s.1 → Sure (Turned I P s.1) (step s)) → (s : X × ℕ) → I s.1 → n < s.1 + fuel → Sure P (Loop step s)
loop_within I P n zero step within each s h l = let w = within s.1 h in absurd (omega arith)
loop_within I P n (suc fuel) step within each s h l = turned I P step s (each s h) (λ t k f. loop_within I P n fuel step within each t k (omega arith))

-- a loop whose steps move forward, up to n, has a result
pub sure_loop : {X A : Type 0} (I : ℕ → Type 0) (P : A → Type 0) (n : ℕ) (step : X × ℕ → Reading (LoopStep (X × ℕ) A)) → ((i : ℕ) → I i → i ≤ n) → ((s : X × ℕ) → I s.1 → Sure (Turned I P s.1) (step s)) → (s : X × ℕ) → I s.1 → Sure P (Loop step s)
sure_loop I P n step within each s h = loop_within I P n (suc n) step within each s h (omega arith)

-- the text is UTF-8, and the forms at each character boundary are known
abbrev pub AllJudged : List ℕ → Type 0
AllJudged text = IsUtf8 text × ((i : ℕ) → IsCharBoundary text i → Judged text i)

-- ---- places

-- the form that is read ends there
abbrev pub Ends : {A : Type 0} → List ℕ → ℕ → A × ℕ → Type 0
Ends text i f = Onto text i f.1

onto : (text : List ℕ) (h i j : ℕ) → h ≤ i → Onto text i j → Onto text h j
onto text h i j l o = (omega (arith, l, o.0), o.1)

-- something is skipped from each offset
abbrev Skips : List ℕ → (ℕ → ℕ → Type 0) → Type 0
Skips text skipped = (i : ℕ) → IsCharBoundary text i → (j : ℕ) × skipped i j × Onto text i j

gaps : (text : List ℕ) → AllJudged text → Skips text (MaximalGap text)
gaps text all i b = (all.1 i b).gap

blanks : (text : List ℕ) → AllJudged text → Skips text (MaximalRun is_blank text)
blanks text all i b = (all.1 i b).blank

surely_after : {A : Type 0} {P : A → Type 0} {skipped : ℕ → ℕ → Type 0} {next : ℕ → Reading A} (text : List ℕ) (h i : ℕ) → Skips text skipped → Onto text h i → ((k : ℕ) → Onto text h k → Sure P (next k)) → Sure P (skipping skipped i next)
surely_after text h i skips o next = let (k, g, f) = skips i o.1 in sure_given k g (next k (onto text h i k o.0 f))

-- a separator of one byte
sure_sign : {A : Type 0} {P : A → Type 0} {this that : Reading A} (c : ℕ) (text : List ℕ) (h k : ℕ) → AllJudged text → (0 < c) × (c < 128) → Onto text h k → (Onto text (h + 1) (k + 1) → Sure P this) → Sure P that → Sure P (choice (get_or text k 0 == c) this that)
sure_sign c text h k all s o this that =
    sure_choice _ (λ t. let e : get_or text k 0 ≡ c = byte_is _ c t in this (omega (arith, o.0), after_byte text k all.0 (omega (arith, e, s.0)) (omega (arith, e, s.1)))) (λ t. that)

sure_missing : {A : Type 0} {P : A → Type 0} (expected : ExpectedToken) (text : List ℕ) (i : ℕ) → AllJudged text → IsCharBoundary text i → Sure P (missing expected text i)
sure_missing expected text i all b = sure_standing text i (all.1 i b).stands (λ t h. tt)

-- ---- keys

string_onto : (text : List ℕ) (i j : ℕ) (s : Span) (src v : List ℕ) (m : Bool) → AllJudged text → IsString text i j s src v m → Onto text (i + 1) j
string_onto text i j s src v m all h =
    let c = h.content_is in
    let ascii : get_or text i 0 < 128 = elim h.quote [ inl e ↦ omega (arith, e) | inr e ↦ omega (arith, e) ] in
    let w = token_within text i j s (string src v m) h in
    let f = Cut-forward (get_or text i 0) m text h.from c.at c.pieces c.cut in
    (omega (arith, w.0), (string_ends_at (get_or text i 0) m text h.from c.at j all.0 ascii f c.closes).end_boundary)

run_onto : (text : List ℕ) (i j : ℕ) → AllJudged text → IsCharBoundary text i → MaximalRun is_keylike text i j → i < j → Onto text (i + 1) j
run_onto text i j all b run l = let (k, other, c) = (all.1 i b).run in let e : j ≡ k = run_unique is_keylike text i j k run other in (omega arith, rw e c.1)

key_ends : (text : List ℕ) (i : ℕ) (t : NextToken) → AllJudged text → IsCharBoundary text i → IsNextToken text i t → Holds (Ends text (i + 1)) (key_result i t)
key_ends text i (token span (keylike name) j) all b h = run_onto text i j all b h.0.1 h.0.0
key_ends text i (token span (string source name false) j) all b h = string_onto text i j span source name false all h
key_ends text i t all b h = tt

simple_sure : (text : List ℕ) (i : ℕ) → AllJudged text → IsCharBoundary text i → Sure (Ends text (i + 1)) (read.simple_key_at text i)
simple_sure text i all b = sure_standing text i (all.1 i b).stands (λ t h. key_ends text i t all b h)

onward_sure : (text : List ℕ) (ps : List SimpleKey) (h m : ℕ) (next : ℕ → Reading Parts) → Onto text h m → (found : Option ℕ) × DotGives text m found → ((p : ℕ) → Onto text h p → Sure (Ends text h) (next p)) → Sure (Ends text h) (onward text ps m next)
onward_sure text ps h m next o (None, none) sure = (Ok (ps, m), inl (none, refl), o)
onward_sure text ps h m next o (Some p, d) sure = let (r, g, e) = sure p (omega (arith, o.0, d.1.on), d.1.boundary) in (r, inr (p, d.0, g), e)

pub key_sure : (header : Bool) (text : List ℕ) (left : ℕ) (ps : List SimpleKey) (h i : ℕ) → AllJudged text → Onto text h i → Sure (Ends text (h + 1)) (read.key header text left ps i)
unfolding read.key
key_sure header text zero ps h i all o = sure_after (simple_sure text i all o.1) (λ f e. (Err (read.one_too_many header i f.0), refl, tt))
key_sure header text (suc n) ps h i all o =
    sure_after (simple_sure text i all o.1)
    (λ (s, m) e. onward_sure text (ps ++ (s ∷ [])) (h + 1) m _ (omega (arith, o.0, e.0), e.1) (all.1 m e.1).dot (λ p f. key_sure header text n (ps ++ (s ∷ [])) h p all (omega (arith, f.0), f.1)))

-- ---- values without brackets

numeral_ends : (text : List ℕ) (i : ℕ) (r : Result (Numeral × ℕ) Fault) → numeral text i ≡ r → AllJudged text → Starts text i → Holds (Ends text (i + 1)) (number text i)
unfolding number
numeral_ends text i (Ok (n, j)) e all s = let f = number_advances n text i j all.0 s e in rw e (omega (arith, f.on), f.boundary)
numeral_ends text i (Err x) e all s = rw e tt

holds_if : {A : Type 0} (P : A → Type 0) (c : Bool) (x y : Result A Fault) → (c ≡ true → Holds P x) → (c ≡ false → Holds P y) → Holds P (if c then x else y)
holds_if P c x y this that = grind (arith, nat_tests, common_steps)

keylike_of : (c : ℕ) → begins_bare c ≡ true → begins_number c ≡ false → is_keylike c ≡ true
keylike_of c b n = elim (bool_cases (is_keylike c)) [ inl k ↦ k | inr k ↦ grind (arith, nat_tests) ]

word_onto : (text : List ℕ) (i : ℕ) → AllJudged text → IsCharBoundary text i → is_keylike (get_or text i 0) ≡ true → Onto text (i + 1) (run_end text i)
word_onto text i all b k =
    let (j, run, c) = (all.1 i b).run in let e : run_end text i ≡ j = run_is text i j run in rw e (omega (arith, run_some is_keylike text i j refl k run), c.1)

bare_ends : (text : List ℕ) (i : ℕ) → AllJudged text → IsCharBoundary text i → begins_bare (get_or text i 0) ≡ true → Holds (Ends text (i + 1)) (number_or_word text i)
bare_ends text i all b bare =
    holds_if (Ends text (i + 1)) (begins_number (get_or text i 0) || is_some (special false (run_at text i))) _ _ (λ t. numeral_ends text i (numeral text i) refl all bare)
    (λ t. (
    let o = word_onto text i all b (keylike_of (get_or text i 0) bare (or_parts (begins_number (get_or text i 0)) _ t).0) in
    holds_if (Ends text (i + 1)) (bytes_eq (run_at text i) (codes "true")) _ _ (λ e. o) (λ e. holds_if (Ends text (i + 1)) (bytes_eq (run_at text i) (codes "false")) _ _ (λ e. o) (λ e. tt))))

bare_sure : (text : List ℕ) (i : ℕ) → AllJudged text → IsCharBoundary text i → begins_bare (get_or text i 0) ≡ true → Sure (Ends text (i + 1)) (read.bare text i)
bare_sure text i all b bare = sure_choice (begins_date text i) (λ d. (all.1 i b).date d) (λ d. (number_or_word text i, refl, bare_ends text i all b bare))

string_ends : (text : List ℕ) (i : ℕ) (t : NextToken) → AllJudged text → IsNextToken text i t → Holds (Ends text (i + 1)) (string_of i t)
string_ends text i (token span (string source value multi) j) all h = string_onto text i j span source value multi all h
string_ends text i t all h = tt

string_sure : (text : List ℕ) (i : ℕ) → AllJudged text → IsCharBoundary text i → Sure (Ends text (i + 1)) (read.string_value text i)
string_sure text i all b = sure_standing text i (all.1 i b).stands (λ t h. string_ends text i t all h)

-- ---- arrays, inline tables and values

separator_sure : {X Y : Type 0} (close : ℕ) (expected : ExpectedToken) (text : List ℕ) (h i m : ℕ) (x : X) (y : Y) → AllJudged text → (0 < close) × (close < 128) → h ≤ i → Onto text (i + 1) m
    → Sure (Turned {X = X} {A = Y × ℕ} (Onto text h) (Ends text h) i) (read.separator close expected text m (λ p. (x, p)) (λ j. (y, j)))
separator_sure close expected text h i m x y all s l o =
    surely_after text (i + 1) m (gaps text all) o
    (λ k f. sure_sign 44 text (i + 1) k all (omega arith, omega arith) f
    (λ g. surely_after text (i + 1 + 1) (k + 1) (gaps text all) g (λ p q. sure_is _ ((omega (arith, l, q.0), q.1), omega (arith, q.0))))
    (sure_sign close text (i + 1) k all s f (λ g. sure_is _ (omega (arith, l, g.0), g.1)) (sure_missing expected text k all f.1)))

element_sure : (text : List ℕ) (h : ℕ) (value : ℕ → Reading ValueEnd) → AllJudged text → ((i : ℕ) → IsCharBoundary text i → Sure (Ends text (i + 1)) (value i)) → (s : Elements) → Onto text h s.1
    → Sure (Turned (Onto text h) (Ends text h) s.1) (read.next_element text value s)
element_sure text h value all sure (vs, i) o =
    sure_sign 93 text h i all (omega arith, omega arith) o (λ e. sure_is _ (omega (arith, e.0), e.1))
    (sure_after (sure i o.1) (λ (v, m) e. separator_sure 93 expected_tokens.RightBracket text h i m _ _ all (omega arith, omega arith) o.0 e))

assignment_sure : (text : List ℕ) (limit : ℕ) (skipped : ℕ → ℕ → Type 0) (value : ℕ → ℕ → Reading ValueEnd) (i : ℕ) → AllJudged text → Skips text skipped
    → ((n b : ℕ) → IsCharBoundary text b → Sure (Ends text (b + 1)) (value n b)) → IsCharBoundary text i → Sure (Ends text (i + 1)) (read.keyval text limit skipped value i)
assignment_sure text limit skipped value i all skips sure b =
    sure_after (key_sure false text limit [] i i all (omega arith, b)) (λ (ps, a) e. surely_after text (i + 1) a skips e
    (λ n f. sure_sign 61 text (i + 1) n all (omega arith, omega arith) f
    (λ g. surely_after text (i + 1 + 1) (n + 1) skips g (λ b q. sure_after (sure (length ps) b q.1) (λ (v, j) r. sure_is _ (omega (arith, q.0, r.0), r.1))))
    (sure_missing expected_tokens.Equals text n all f.1)))

joined_sure : (es : List ParsedAssignment) (e : ParsedAssignment) → Sure (λ fs. Unit {0}) (read.added es e)
joined_sure es e = elim (crossing es e) as (λ o. Sure (λ fs. Unit {0}) (λ r. r ≡ option_map_or (λ fault. Err fault) o (Ok (es ++ (e ∷ []))))) [ None ↦ (_, refl, tt) | Some fault ↦ (_, refl, tt) ]

pair_sure : (text : List ℕ) (limit h : ℕ) (value : ℕ → ℕ → Reading ValueEnd) → AllJudged text → ((n b : ℕ) → IsCharBoundary text b → Sure (Ends text (b + 1)) (value n b)) → (s : Pairs) → Onto text h s.1
    → Sure (Turned (Onto text h) (Ends text h) s.1) (read.next_pair text limit value s)
pair_sure text limit h value all sure (es, i) o =
    sure_sign 125 text h i all (omega arith, omega arith) o (λ e. sure_is _ (omega (arith, e.0), e.1))
    (sure_after (assignment_sure text limit _ value i all (gaps text all) sure o.1)
    (λ (e, m) f. sure_after (joined_sure es e) (λ fs x. separator_sure 125 expected_tokens.Comma text h i m _ _ all (omega arith, omega arith) o.0 f)))

nested_sure : {S : Type 0} (text : List ℕ) (i : ℕ) (step : List S × ℕ → Reading (LoopStep (List S × ℕ) (ParsedInner × ℕ))) → AllJudged text → Onto text (i + 1) (i + 1)
    → ((s : List S × ℕ) → Onto text (i + 1) s.1 → Sure (Turned (Onto text (i + 1)) (Ends text (i + 1)) s.1) (step s)) → Sure (Ends text (i + 1)) (read.nested text i (λ k. Loop step ([], k)))
nested_sure text i step all o each =
    surely_after text (i + 1) (i + 1) (gaps text all) o
    (λ k c. sure_after (sure_loop (Onto text (i + 1)) (Ends text (i + 1)) (length text) step (λ j h. h.1.0) each ([], k) c) (λ (v, j) e. sure_is _ e))

pub value_sure : (text : List ℕ) (limit left n i : ℕ) → AllJudged text → IsCharBoundary text i → Sure (Ends text (i + 1)) (read.value text limit left n i)
unfolding read.value
value_sure text limit zero n i all b = sure_choice _ (λ t. (Err _, refl, tt)) (λ t. sure_after (string_sure text i all b) (λ f e. (Err _, refl, tt)))
value_sure text limit (suc left) (suc n) i all b = value_sure text limit left n i all b
value_sure text limit (suc left) zero i all b =
    sure_sign 91 text i i all (omega arith, omega arith) (omega arith, b)
    (λ o. nested_sure text i _ all o (element_sure text (i + 1) (read.value text limit left zero) all (λ i b. value_sure text limit left zero i all b)))
    (sure_sign 123 text i i all (omega arith, omega arith) (omega arith, b)
    (λ o. nested_sure text i _ all o (pair_sure text limit (i + 1) (read.value text limit left) all (λ n i b. value_sure text limit left n i all b)))
    (sure_choice _ (λ bare. sure_after (bare_sure text i all b bare) (λ (s, j) e. sure_is _ e)) (λ t. string_sure text i all b)))

-- ---- lines

tail_sure : (text : List ℕ) (h i : ℕ) → AllJudged text → Onto text h i → (found : Result ℕ ℕ) × TailGives text i found → Sure (Onto text h) (read.tail text i)
tail_sure text h i all o (Ok j, (t, l, b)) = (Ok j, inl (j, t, refl), (omega (arith, o.0, l), b))
tail_sure text h i all o (Err k, (n, b)) = let (r, g, p) = sure_missing {P = Onto text h} expected_tokens.Newline text k all b in (r, inr (k, n, g), p)

-- the lines end there, where a header begins or the text ends
abbrev pub Stopped : {A : Type 0} → List ℕ → ℕ → A × ℕ → Type 0
Stopped text i f = Onto text i f.1 × (read.ends_lines text f.1 ≡ true)

line_sure : (text : List ℕ) (limit h : ℕ) → AllJudged text → (s : Pairs) → Onto text h s.1 → Sure (Turned (Onto text h) (Stopped text h) s.1) (read.next_assignment text limit s)
line_sure text limit h all (es, i) o =
    sure_choice (read.ends_lines text i) (λ t. sure_is _ (o, t))
    (λ t. sure_after (assignment_sure text limit _ (read.value text limit (limit + 1)) i all (blanks text all) (λ n b. value_sure text limit (limit + 1) n b all) o.1)
    (λ (e, m) f. sure_after (tail_sure text (i + 1) m all f (all.1 m f.1).tail) (λ n g. sure_after (joined_sure es e)
    (λ fs x. surely_after text (i + 1) n (gaps text all) g (λ k q. sure_is _ ((omega (arith, o.0, q.0), q.1), omega (arith, q.0)))))))

pub lines_sure : (text : List ℕ) (limit i : ℕ) → AllJudged text → IsCharBoundary text i → Sure (Stopped text i) (read.assignment_lines text limit i)
lines_sure text limit i all b =
    surely_after text i i (gaps text all) (omega arith, b)
    (λ k o. sure_loop (Onto text i) (Stopped text i) (length text) (read.next_assignment text limit) (λ j h. h.1.0) (line_sure text limit i all) ([], k) o)

-- ---- headers, sections and the document

bracket_sure : (text : List ℕ) (h i : ℕ) → AllJudged text → Onto text h i → Sure (Onto text h) (read.bracket text i)
bracket_sure text h i all o = sure_sign 93 text h i all (omega arith, omega arith) o (λ e. sure_is _ (omega (arith, e.0), e.1)) (sure_missing expected_tokens.RightBracket text i all o.1)

closing_sure : (array : Bool) (text : List ℕ) (h i : ℕ) → AllJudged text → Onto text h i → Sure (Onto text h) (read.closing array text i)
closing_sure false text h i all o = bracket_sure text h i all o
closing_sure true text h i all o = sure_after (bracket_sure text h i all o) (λ j e. bracket_sure text h j all e)

heading_sure : (array : Bool) (text : List ℕ) (limit h i : ℕ) → AllJudged text → Onto text h i → Sure (λ h'. Onto text h h'.end) (read.heading array text limit i)
heading_sure array text limit h i all o =
    surely_after text h i (blanks text all) o (λ k e. sure_after (key_sure true text limit [] h k all e)
    (λ (ps, a) f. surely_after text (h + 1) a (blanks text all) f (λ c g. sure_after (closing_sure array text (h + 1) c all g)
    (λ m q. sure_after (tail_sure text (h + 1) m all q (all.1 m q.1).tail) (λ j r. sure_is _ (omega (arith, r.0), r.1))))))

header_sure : (text : List ℕ) (limit i : ℕ) → AllJudged text → get_or text i 0 ≡ 91 → Sure (λ h. Onto text (i + 1) h.end) (read.header text limit i)
header_sure text limit i all e =
    let o : Onto text (i + 1) (i + 1) = (omega arith, after_byte text i all.0 (omega (arith, e)) (omega (arith, e))) in
    let two : i + 1 + 1 ≡ i + 2 = omega arith in
    sure_sign 91 text (i + 1) (i + 1) all (omega arith, omega arith) o (λ f. heading_sure true text limit (i + 1) (i + 2) all (omega arith, rw two at f.1)) (heading_sure false text limit (i + 1) (i + 1) all o)

section_sure : (text : List ℕ) (limit i : ℕ) → AllJudged text → get_or text i 0 ≡ 91 → Sure (Stopped text (i + 1)) (read.section text limit i)
section_sure text limit i all e =
    sure_after (header_sure text limit i all e) (λ h f. sure_after (lines_sure text limit h.end all f.1) (λ (es, j) g. sure_is _ ((omega (arith, f.0, g.0.0), g.0.1), g.1)))

-- a header begins here, or the text ends
abbrev Begins : List ℕ → ℕ → Type 0
Begins text i = IsCharBoundary text i × (read.ends_lines text i ≡ true)

next_sure : (text : List ℕ) (limit : ℕ) → AllJudged text → (s : ParsedSections) → Begins text s.1 → Sure (Turned (Begins text) (λ bs. Unit {0}) s.1) (read.next_section text limit s)
next_sure text limit all (bs, i) (b, t) =
    sure_choice (i == length text) (λ e. sure_is _ tt)
    (λ e. sure_after (section_sure text limit i all (byte_is _ 91 (rw e at t))) (λ (s, j) g. sure_is _ ((g.0.1, g.1), omega (arith, g.0.0))))

first_sure : (text : List ℕ) (limit start : ℕ) → AllJudged text → FirstPlace text start → IsCharBoundary text start → Sure (Stopped text start) (read.before_headers text limit)
first_sure text limit start all first b = sure_given start first (sure_after (lines_sure text limit start all b) (λ (es, j) g. sure_is _ g))

pub document_sure : (text : List ℕ) (limit start : ℕ) → AllJudged text → FirstPlace text start → IsCharBoundary text start → Sure (λ bs. Unit {0}) (read.document text limit)
unfolding read.document
document_sure text limit start all first b =
    sure_after (first_sure text limit start all first b)
    (λ read g. sure_loop (Begins text) (λ bs. Unit {0}) (length text) (next_section text limit) (λ j h. h.0.0) (next_sure text limit all) read (g.0.1, g.1))
