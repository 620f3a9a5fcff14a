-- Positions, byte by byte.
use Rattle.toml_span_lex.proofs.Common.{◌≡◌, ℕ, zero, suc, ◌+◌, ◌-◌, ◌<◌, ◌≤◌, ◌≢◌, Bool, true, false, List, [], ◌∷◌, ◌++◌, length, get_or, drop, arith, refl, ap, ◌∙◌, add-zero, zero-add, inl, inr, ◌⊎◌, sym, ◌==◌, ◌||◌, if◌then◌else◌, slice_index, nat_lt, nat_tests, common_steps, drop_all, get_or-drop, cases_lt}
use Rattle.std.proofs.lemmas.List.{at_drop_more}
use Rattle.std.specs.Str.{IsCharBoundary}
use Rattle.toml_span_editor.specs.declared.positions.Encoding.{Encoding}
use Rattle.toml_span_editor.specs.declared.positions.Position.{Position}
use Rattle.toml_span_editor.specs.Positions.{after, column, ends_line, line_start, position_from, units}

next_byte : (text : List ℕ) (i : ℕ) → get_or (drop (i + 1) text) 0 0 ≡ get_or text (i + 1) 0
next_byte text i = get_or-drop (i + 1) text 0 0 ∙ ap (λ n. get_or text n 0) (add-zero (i + 1))

-- the position after one byte more
pub position_from-step : (e : Encoding) (p : Position) (text : List ℕ) (i to : ℕ) → i < to → i < length text → position_from e p (to - i) (drop i text) ≡ position_from e (after e p (get_or text i 0) (get_or text (i + 1) 0)) (to - (i + 1)) (drop (i + 1) text)
unfolding position_from
position_from-step e p text i to lt within =
    let count : to - i ≡ suc (to - (i + 1)) = omega arith in
    ap (λ n. position_from e p n (drop i text)) count
    ∙ at_drop_more (position_from e p (suc (to - (i + 1)))) text i 0 within
    ∙ ap (λ next. position_from e (after e p (get_or text i 0) next) (to - (i + 1)) (drop (i + 1) text)) (next_byte text i)

pub position_from-zero : (e : Encoding) (p : Position) (text : List ℕ) → position_from e p 0 text ≡ p
unfolding position_from
position_from-zero e p text = refl

pub position_from-nil : (e : Encoding) (p : Position) (n : ℕ) → position_from e p n [] ≡ p
unfolding position_from
position_from-nil e p zero = refl
position_from-nil e p (suc n) = refl

-- the position at the end of what is read
pub position_from-done : (e : Encoding) (p : Position) (text : List ℕ) (i to : ℕ) → (to ≤ i) ⊎ (length text ≤ i) → position_from e p (to - i) (drop i text) ≡ p
position_from-done e p text i to (inl stop) =
    let none : to - i ≡ 0 = omega arith in
    ap (λ n. position_from e p n (drop i text)) none ∙ position_from-zero e p (drop i text)
position_from-done e p text i to (inr past) =
    ap (λ rest. position_from e p (to - i) rest) (drop_all i text past) ∙ position_from-nil e p (to - i)

-- the position of an offset from that of an offset before it
pub position_from-more : (e : Encoding) (p : Position) (n m : ℕ) (text : List ℕ) → position_from e (position_from e p n text) m (drop n text) ≡ position_from e p (n + m) text
unfolding position_from
position_from-more e p zero m text = ap (λ k. position_from e p k text) (omega arith)
position_from-more e p (suc n) m [] =
    position_from-nil e p m ∙ sym (position_from-nil e p (suc n + m))
position_from-more e p (suc n) m (b ∷ text) =
    let count : suc (n + m) ≡ suc n + m = omega arith in
    position_from-more e (after e p b (slice_index text 0)) n m text
    ∙ ap (λ k. position_from e p k (b ∷ text)) count

-- the start of a line, one byte on
pub line_start-step : (left : ℕ) (text : List ℕ) (i : ℕ) → 0 < left → i < length text → line_start left (drop i text) ≡ suc (line_start (if ends_line (get_or text i 0) (get_or text (i + 1) 0) then left - 1 else left) (drop (i + 1) text))
unfolding line_start
line_start-step zero text i some within = absurd (omega arith)
line_start-step (suc left) text i some within =
    at_drop_more (line_start (suc left)) text i 0 within
    ∙ ap (λ next. suc (line_start (if ends_line (get_or text i 0) next then left else suc left) (drop (i + 1) text))) (next_byte text i)
    ∙ ap (λ fewer. suc (line_start (if ends_line (get_or text i 0) (get_or text (i + 1) 0) then fewer else suc left) (drop (i + 1) text))) (omega arith)

-- the end of a column, one byte on
pub column-step : (e : Encoding) (left : ℕ) (text : List ℕ) (i : ℕ) → i < length text → column e left (drop i text) ≡ (if get_or text i 0 == 10 || (get_or text i 0 == 13 || nat_lt left (units e (get_or text i 0))) then 0 else suc (column e (left - units e (get_or text i 0)) (drop (i + 1) text)))
unfolding column
column-step e left text i within = at_drop_more (column e left) text i 0 within

pub position_from-next : (e : Encoding) (p q : Position) (text : List ℕ) (i to b next : ℕ) → i < to → i < length text → b ≡ get_or text i 0 → next ≡ get_or text (i + 1) 0 → q ≡ after e p b next → position_from e q (to - (i + 1)) (drop (i + 1) text) ≡ position_from e p (to - i) (drop i text)
position_from-next e p q text i to b next lt within byte_is next_is after_is =
    ap (λ r. position_from e r (to - (i + 1)) (drop (i + 1) text)) (after_is ∙ ap (λ x. after e p x next) byte_is ∙ ap (λ x. after e p (get_or text i 0) x) next_is)
    ∙ sym (position_from-step e p text i to lt within)

pub position_from-to : (e : Encoding) (p : Position) (text : List ℕ) (from to : ℕ) → from ≤ to → position_from e (position_from e p from text) (to - from) (drop from text) ≡ position_from e p to text
position_from-to e p text from to le =
    position_from-more e p from (to - from) text ∙ ap (λ n. position_from e p n text) (omega arith)

pub line_start-next : (left fewer : ℕ) (text : List ℕ) (i b next : ℕ) (ends : Bool) → 0 < left → i < length text → b ≡ get_or text i 0 → next ≡ get_or text (i + 1) 0 → ends ≡ ends_line b next → fewer ≡ (if ends then left - 1 else left) → line_start left (drop i text) ≡ suc (line_start fewer (drop (i + 1) text))
line_start-next left fewer text i b next ends some within byte_is next_is ends_is fewer_is =
    line_start-step left text i some within
    ∙ ap (λ n. suc (line_start n (drop (i + 1) text))) (sym (fewer_is ∙ ap (λ t. if t then left - 1 else left) (ends_is ∙ ap (λ x. ends_line x next) byte_is ∙ ap (λ x. ends_line (get_or text i 0) x) next_is)))

pub line_start-end : (left : ℕ) (text : List ℕ) (i : ℕ) → length text ≤ i → line_start left (drop i text) ≡ 0
unfolding line_start
line_start-end zero text i past = refl
line_start-end (suc left) text i past = ap (line_start (suc left)) (drop_all i text past)

pub line_start-zero : (left : ℕ) (text : List ℕ) → left ≡ 0 → line_start left text ≡ 0
unfolding line_start
line_start-zero left text none = ap (λ n. line_start n text) none

pub column-end : (e : Encoding) (left : ℕ) (text : List ℕ) (i : ℕ) → length text ≤ i → column e left (drop i text) ≡ 0
unfolding column
column-end e left text i past = ap (column e left) (drop_all i text past)

pub stop_test : (left b width : ℕ) → (b ≡ 10) ⊎ ((b ≡ 13) ⊎ (left < width)) → (b == 10 || (b == 13 || nat_lt left width)) ≡ true
stop_test left b width (inl line_feed) = grind (arith, nat_tests)
stop_test left b width (inr (inl return)) = grind (arith, nat_tests)
stop_test left b width (inr (inr short)) = grind (arith, nat_tests)

pub go_test : (left b width : ℕ) → b ≢ 10 → b ≢ 13 → width ≤ left → (b == 10 || (b == 13 || nat_lt left width)) ≡ false
go_test left b width no_feed no_return enough = grind (arith, nat_tests)

pub column-stop : (e : Encoding) (left : ℕ) (text : List ℕ) (i : ℕ) → i < length text → (get_or text i 0 ≡ 10) ⊎ ((get_or text i 0 ≡ 13) ⊎ (left < units e (get_or text i 0))) → column e left (drop i text) ≡ 0
column-stop e left text i within why =
    column-step e left text i within
    ∙ ap (λ t. if t then 0 else suc (column e (left - units e (get_or text i 0)) (drop (i + 1) text))) (stop_test left (get_or text i 0) (units e (get_or text i 0)) why)

pub column-go : (e : Encoding) (left less : ℕ) (text : List ℕ) (i : ℕ) → i < length text → get_or text i 0 ≢ 10 → get_or text i 0 ≢ 13 → units e (get_or text i 0) ≤ left → less ≡ left - units e (get_or text i 0) → column e left (drop i text) ≡ suc (column e less (drop (i + 1) text))
column-go e left less text i within no_feed no_return enough less_is =
    column-step e left text i within
    ∙ ap (λ t. if t then 0 else suc (column e (left - units e (get_or text i 0)) (drop (i + 1) text))) (go_test left (get_or text i 0) (units e (get_or text i 0)) no_feed no_return enough)
    ∙ ap (λ n. suc (column e n (drop (i + 1) text))) (sym less_is)
