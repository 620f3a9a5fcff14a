-- The spellings of dates and times are read again.
use Rattle.toml_span_lex.proofs.Common.{◌≡◌, ℕ, ◌+◌, ◌-◌, ◌<◌, ◌⊎◌, true, false, List, [], ◌∷◌, ◌++◌, length, get_or, drop, arith, inl, inr, sym, refl, length-append, length-drop, ◌==◌, ◌||◌, ◌&&◌, is_ascii_digit, cases_lt, or_cases, and_parts, and_from, or_left, or_right, and_right, get_or_append_left, get_or-append_right, nat_tests, common_steps}
use Rattle.std.proofs.lemmas.Bool.{eqb-true}
use Rattle.toml_span_read.proofs.NumberLemmas.{clash}
use Rattle.std.proofs.lemmas.List.{get_or-drop}
use borrow.Author.Count.{below_none, below_more}
use Rattle.toml_span_lex.specs.Bytes.{MaximalRun}
use Rattle.toml_span_lex.proofs.Runs.{read_within}
use Rattle.toml_span_tree.specs.Date.{is_two_digits, is_full_date, has_hour_minute, is_seconds, is_partial_time, is_utc, is_time_numoffset, is_time_offset, IsDateText, IsDateTime, IsDateOrTime}
use Rattle.toml_span_tree.specs.Node.{datetime}
use Rattle.toml_span_tree.proofs.DateTexts.{parts_of_text}
use Rattle.toml_span_read.specs.Dates.{begins_date, is_date_byte, continues_date, IsCandidate}
use Rattle.toml_span_read.specs.Data.{from_to}
use Rattle.toml_span_read.specs.Grammar.{SpellsScalar}
use Rattle.toml_span_read.proofs.DatesMove.{digit_date, this_date, date_carried}
use Rattle.toml_span_read.proofs.Parts.{Part, same_part, front, back, tail, here, byte, byte_at, past, next, range, within}

-- ---- bytes

digit_some : (c : ℕ) → is_ascii_digit c ≡ true → 0 < c
digit_some c h = grind (arith, nat_tests, common_steps)

either_date : (c k l : ℕ) → is_date_byte k ≡ true → is_date_byte l ≡ true → (c == k || c == l) ≡ true → is_date_byte c ≡ true
either_date c k l d e h = elim (or_cases (c == k) (c == l) h) [ inl x ↦ this_date c k d x | inr x ↦ this_date c l e x ]

-- the byte at k is one that dates are written with, and so is each byte of a list
abbrev At : List ℕ → ℕ → Type 0
At xs k = is_date_byte (get_or xs k 0) ≡ true

-- two more digits, or this byte
pair : (xs : List ℕ) (n : ℕ) → ((k : ℕ) → k < n → At xs k) → (is_ascii_digit (get_or xs n 0) ≡ true) × (is_ascii_digit (get_or xs (n + 1) 0) ≡ true) → (k : ℕ) → k < (n + 1) + 1 → At xs k
pair xs n f d = below_more (At xs) (n + 1) (below_more (At xs) n f (digit_date (get_or xs n 0) d.0)) (digit_date (get_or xs (n + 1) 0) d.1)

one : (xs : List ℕ) (n b : ℕ) → is_date_byte b ≡ true → ((k : ℕ) → k < n → At xs k) → (get_or xs n 0 == b) ≡ true → (k : ℕ) → k < n + 1 → At xs k
one xs n b d f h = below_more (At xs) n f (this_date (get_or xs n 0) b d h)

abbrev All : List ℕ → Type 0
All xs = (k : ℕ) → k < length xs → At xs k

none : (xs : List ℕ) → length xs ≡ 0 → All xs
none xs e k l = absurd (omega arith)

joined : (xs : List ℕ) (n : ℕ) → ((k : ℕ) → k < n → At xs k) → All (drop n xs) → All xs
joined xs n first rest k l = elim (cases_lt k n) [
  | inl x ↦ first k x
  | inr y ↦
      let at : n + (k - n) ≡ k = omega arith in
      let e : get_or (drop n xs) (k - n) 0 ≡ get_or xs k 0 = rw at at (get_or-drop n xs (k - n) 0) in
      rw (sym e) (rest (k - n) (omega (arith, length-drop n xs)))
]

appended : (xs ys : List ℕ) → All xs → All ys → All (xs ++ ys)
appended xs ys f g k l = elim (cases_lt k (length xs)) [
  | inl x ↦ rw (get_or_append_left xs ys 0 k x) (f k x)
  | inr y ↦ rw (get_or-append_right xs ys (length xs) k 0 refl y) (g (k - length xs) (omega (arith, length-append xs ys)))
]

-- ---- the forms

two : (low high : ℕ) (xs : List ℕ) (i : ℕ) → is_two_digits low high xs i ≡ true → (is_ascii_digit (get_or xs i 0) ≡ true) × (is_ascii_digit (get_or xs (i + 1) 0) ≡ true)
two low high xs i h = and_parts _ _ (and_parts _ _ (and_parts _ _ h).0).0

-- a date or a time begins at the front
abbrev Begins : List ℕ → Type 0
Begins xs = begins_date xs 0 ≡ true

begins : (xs : List ℕ) → (is_ascii_digit (get_or xs 0 0) ≡ true) × (is_ascii_digit (get_or xs 1 0) ≡ true) → (get_or xs 2 0 == 58 || ((is_ascii_digit (get_or xs 2 0) && is_ascii_digit (get_or xs 3 0)) && get_or xs 4 0 == 45)) ≡ true → Begins xs
begins xs h more = and_from (is_ascii_digit (get_or xs 0 0) && is_ascii_digit (get_or xs 1 0)) _ (and_from (is_ascii_digit (get_or xs 0 0)) _ h.0 h.1) more

full_date : (xs : List ℕ) → is_full_date xs ≡ true → (length xs ≡ 10) × All xs × Begins xs
unfolding is_full_date
full_date xs h =
    let a = and_parts _ _ h in
    let b = and_parts _ _ a.0 in
    let c = and_parts _ _ b.0 in
    let d = and_parts _ _ c.0 in
    let e = and_parts _ _ d.0 in
    let year = and_parts _ _ e.1 in
    let y1 = two 0 99 xs 0 year.0 in
    let y2 = two 0 99 xs 2 year.1 in
    let m = two 1 12 xs 5 c.1 in
    let n = two 1 _ xs 8 a.1 in
    let long : length xs ≡ 10 = eqb-true (length xs) 10 e.0 in
    let ten = pair xs 8 (one xs 7 45 refl (pair xs 5 (one xs 4 45 refl (pair xs 2 (pair xs 0 (below_none (At xs)) y1) y2) d.1) m) b.1) n in (
      long,
      (λ k l. ten k (omega arith)),
      begins xs y1 (or_right (get_or xs 2 0 == 58) _ (and_from (is_ascii_digit (get_or xs 2 0) && is_ascii_digit (get_or xs 3 0)) _ (and_from (is_ascii_digit (get_or xs 2 0)) _ y2.0 y2.1) d.1)),
    )

-- hours and minutes, at the front
hour_minute : (xs : List ℕ) → has_hour_minute xs ≡ true → ((k : ℕ) → k < 5 → At xs k) × Begins xs
hour_minute xs h =
    let a = and_parts _ _ h in
    let b = and_parts _ _ a.0 in
    let hour = two 0 23 xs 0 b.0 in
    let minute = two 0 59 xs 3 a.1 in (
      pair xs 3 (one xs 2 58 refl (pair xs 0 (below_none (At xs)) hour) b.1) minute,
      begins xs hour (or_left (get_or xs 2 0 == 58) _ b.1),
    )

seconds : (xs : List ℕ) → is_seconds xs ≡ true → All xs
seconds xs h = elim (or_cases _ _ h) [
  | inl empty ↦ none xs (eqb-true (length xs) 0 empty)
  | inr some ↦
      let a = and_parts _ _ some in
      let b = and_parts _ _ a.0 in
      let s = two 0 60 xs 1 b.1 in
      joined xs 3 (pair xs 1 (one xs 0 58 refl (below_none (At xs)) b.0) s)
      (grind (arith, nat_tests, common_steps))
]

partial : (xs : List ℕ) → is_partial_time xs ≡ true → All xs × Begins xs
unfolding is_partial_time
partial xs h =
    let a = and_parts _ _ h in
    let f = hour_minute xs a.0 in
    (joined xs 5 f.0 (seconds (drop 5 xs) a.1), f.1)

offset : (xs : List ℕ) → is_time_offset xs ≡ true → All xs
unfolding is_time_offset
offset xs h = elim (or_cases (is_utc xs) (is_time_numoffset xs) h) [
  | inl utc ↦
      let a = and_parts _ _ utc in
      let e : length xs ≡ 1 = eqb-true (length xs) 1 a.0 in
      joined xs 1 (below_more (At xs) 0 (below_none (At xs)) (either_date (get_or xs 0 0) 90 122 refl refl a.1)) (none (drop 1 xs) (omega (arith, length-drop 1 xs)))
  | inr numeric ↦
      let a = and_parts _ _ numeric in
      let b = and_parts _ _ a.0 in
      let e : length xs ≡ 6 = eqb-true (length xs) 6 b.0 in
      joined xs 1 (below_more (At xs) 0 (below_none (At xs)) (either_date (get_or xs 0 0) 43 45 refl refl b.1))
      (joined (drop 1 xs) 5 (hour_minute (drop 1 xs) a.1).0 (none (drop 5 (drop 1 xs)) (omega (arith, length-drop 1 xs, length-drop 5 (drop 1 xs)))))
]

time : (d : List ℕ) (more : List ℕ) → is_partial_time d ≡ true → (more ≡ []) ⊎ (is_time_offset more ≡ true) → All (d ++ more)
time d more p (inl e) = rw e (appended d [] (partial d p).0 (none [] refl))
time d more p (inr h) = appended d more (partial d p).0 (offset more h)

-- a date that begins in a text begins wherever another text contains it
begins_in : (xs text : List ℕ) (i : ℕ) → ((k : ℕ) → k < length xs → get_or xs k 0 ≡ get_or text (i + k) 0) → Begins xs → begins_date text i ≡ true
begins_in xs text i same b = date_carried xs text 0 i (length xs) (λ m l h. (
    let z : 0 + m ≡ m = omega arith in
    let d : is_date_byte (get_or xs m 0) ≡ true = rw z at h in
    let inside = date_within xs m d in
    (inside, rw z (same m inside)))) b
  where
    date_within : (xs : List ℕ) (m : ℕ) → is_date_byte (get_or xs m 0) ≡ true → m < length xs
    date_within xs m h = read_within xs m (elim (cases_lt 0 (get_or xs m 0)) [ inl l ↦ l | inr z ↦ absurd (clash is_date_byte (get_or xs m 0) 0 h (omega arith) refl) ])

begins_before : (xs ys : List ℕ) → Begins xs → Begins (xs ++ ys)
begins_before xs ys b = begins_in xs (xs ++ ys) 0 (λ k l. (let z : 0 + k ≡ k = omega arith in rw z (sym (get_or_append_left xs ys 0 k l)))) b

-- ---- where it is

begins_at : {text rest : List ℕ} {i j : ℕ} (xs : List ℕ) → Begins xs → Part text xs rest i j → begins_date text i ≡ true
begins_at {text} {rest} {i} xs b p = begins_in xs text i (λ k l. sym (byte p k l)) b

-- bytes that dates are written with, from an offset in the part to its end
run_to : {text rest : List ℕ} {i j : ℕ} (xs : List ℕ) → All xs → is_date_byte (get_or rest 0 0) ≡ false → Part text xs rest i j → MaximalRun is_date_byte text i j
run_to {text} {rest} {i} {j} xs all off p = grind (arith, nat_tests, common_steps, byte_at p, next p, within, within p)

in_one : {text rest : List ℕ} {i j : ℕ} (xs : List ℕ) → All xs → is_date_byte (get_or rest 0 0) ≡ false → continues_date rest 0 ≡ false → Part text xs rest i j → IsCandidate text i j
in_one {text} {rest} {i} {j} xs all off none p = inl (run_to xs all off p, and_right (j == i + 10) (continues_date text j) (rw (next p, past p 1) none))

-- a date and a time with a letter between them
with_letter : (d : List ℕ) (c : ℕ) (more : List ℕ) → All d → All more → is_date_byte c ≡ true → All (d ++ c ∷ more)
with_letter d c more f g h = appended d (c ∷ more) f (joined (c ∷ more) 1 (below_more (At (c ∷ more)) 0 (below_none (At (c ∷ more))) h) g)

-- and with a space
with_space : {text rest : List ℕ} {i j : ℕ} (d more : List ℕ) → length d ≡ 10 → All d → All more → is_ascii_digit (get_or more 0 0) ≡ true → 0 < length more → is_date_byte (get_or rest 0 0) ≡ false
    → Part text (d ++ 32 ∷ more) rest i j → IsCandidate text i j
with_space {text} {rest} {i} {j} d more ten f g digit some off p =
    let date : Part text d (32 ∷ (more ++ rest)) i (i + 10) = rw ten at (front d (32 ∷ more) p) in
    let others : Part text (32 ∷ more) rest (i + 10) j = rw ten at (back d (32 ∷ more) p) in
    let after_space = tail 32 more others in
    let z : ((i + 10) + 1) + 0 ≡ (i + 10) + 1 = omega arith in
    let second : get_or text ((i + 10) + 1) 0 ≡ get_or more 0 0 = rw z at (byte after_space 0 some) in
    let at : (i + 10) + 1 ≡ i + 11 = omega arith in
    let run : MaximalRun is_date_byte text (i + 11) j = rw at at (run_to more g off after_space) in
    inr (run_to d f refl date, and_from (get_or text (i + 10) 0 == 32) _ (rw (here 32 more others) refl) (rw second digit), run)

date_time : {text rest : List ℕ} {i j : ℕ} (xs : List ℕ) (d : IsDateTime xs) → is_date_byte (get_or rest 0 0) ≡ false → continues_date rest 0 ≡ false → Part text xs rest i j → IsCandidate text i j × (begins_date text i ≡ true)
date_time {text} {rest} {i} {j} xs d off none p =
    let more = d.time ++ d.offset in
    let q = same_part (d.date ++ d.delimiter ∷ more) d.whole p in
    let date = full_date d.date d.has_date in
    let clock = partial d.time d.has_time in
    let later = (and_parts _ _ (and_parts _ _ (begins_before d.time d.offset clock.1)).0).0 in
    let bytes = time d.time d.offset d.has_time d.has_offset in (
      elim (or_cases (d.delimiter == 84 || d.delimiter == 116) (d.delimiter == 32) d.has_delimiter) [
        | inl letter ↦ in_one (d.date ++ d.delimiter ∷ more) (with_letter d.date d.delimiter more date.1 bytes (either_date d.delimiter 84 116 refl refl letter)) off none q
        | inr space ↦
            let is : d.delimiter ≡ 32 = eqb-true d.delimiter 32 space in
            with_space d.date more date.0 date.1 bytes later (read_within more 0 (digit_some (get_or more 0 0) later)) off (rw is at q)
      ],
      begins_at (d.date ++ d.delimiter ∷ more) (begins_before d.date (d.delimiter ∷ more) date.2) q,
    )

pub date_again : {text rest : List ℕ} {i j : ℕ} (xs : List ℕ) → IsDateText xs → is_date_byte (get_or rest 0 0) ≡ false → continues_date rest 0 ≡ false → Part text xs rest i j → SpellsScalar (datetime xs) (from_to i j) text i j
date_again {text} {rest} {i} {j} xs h off none p = with_form (parts_of_text xs h)
  where
    with_form : IsDateOrTime xs → SpellsScalar (datetime xs) (from_to i j) text i j
    with_form (inl date) = let f = full_date xs date in (begins_at xs f.2 p, in_one xs f.1 off none p, h, sym (range p), refl)
    with_form (inr (inl clock)) = let f = partial xs clock in (begins_at xs f.1 p, in_one xs f.0 off none p, h, sym (range p), refl)
    with_form (inr (inr both)) = let f = date_time xs both off none p in (f.1, f.0, h, sym (range p), refl)
