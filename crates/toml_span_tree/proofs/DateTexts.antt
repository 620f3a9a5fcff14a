-- A date text consists of a date, a time and an offset, and what consists of them is a date text.
use Rattle.toml_span_lex.proofs.Common.{common_steps, nat_tests, ◌≡◌, ◌<◌, ℕ, ◌+◌, ◌⊎◌, inl, inr, Bool, true, List, [], ◌∷◌, ◌++◌, length, take, drop, ap, subst, sym, refl, ◌∙◌, arith, append-nil, drop-cons, ◌||◌, slice_index, and_parts, and_from, take-append_seam, drop-append-add, get_or-append_seam}
use Rattle.std.proofs.lemmas.List.{take-append-drop}
use Rattle.std.proofs.lemmas.Bool.{eqb-true}
use Rattle.toml_span_tree.specs.Date.{is_full_date, is_partial_time, is_time_offset, is_time_with, is_time, is_time_delim, is_date_time, is_date_text, IsDateTime, IsDateOrTime}

or_cases : (a b : Bool) → a || b ≡ true → (a ≡ true) ⊎ (b ≡ true)
or_cases a b e = grind (arith, nat_tests, common_steps)

or_left : (a b : Bool) → a ≡ true → a || b ≡ true
or_left a b e = grind (arith, nat_tests, common_steps)

or_right : (a b : Bool) → b ≡ true → a || b ≡ true
or_right a b e = grind (arith, nat_tests, common_steps)

-- a text that has a delimiter at ten has more than ten bytes
delimiter_within : (text : List ℕ) → is_time_delim (slice_index text 10) ≡ true → 10 < length text
delimiter_within text e = grind (arith, nat_tests, common_steps)

abbrev TimeParts : List ℕ → Type 0
TimeParts text =
    (time : List ℕ) × (offset : List ℕ) × (text ≡ time ++ offset) × (is_partial_time time ≡ true)
    × ((offset ≡ []) ⊎ (is_time_offset offset ≡ true))

parts_with : (n : ℕ) (text : List ℕ) → is_time_with n text ≡ true → TimeParts text
parts_with n text h = grind (arith, nat_tests, common_steps)

time_parts : (text : List ℕ) → is_time text ≡ true → TimeParts text
unfolding is_time
time_parts text h = elim (or_cases _ _ h) [
  | inl h ↦ elim (or_cases _ _ h) [
    | inl partial ↦ (text, [], sym (append-nil text), partial, inl refl)
    | inr one ↦ parts_with 1 text one
  ]
  | inr six ↦ parts_with 6 text six
]

date_time_parts : (text : List ℕ) → is_date_time text ≡ true → IsDateTime text
date_time_parts text h =
    let all = and_parts _ _ h in
    let first = and_parts _ _ all.0 in
    let time = time_parts (drop 11 text) all.1 in
    let next = drop-cons text 10 0 (delimiter_within text first.1) in
    let whole = sym (take-append-drop 10 text) ∙ ap (λ rest. take 10 text ++ rest) (next ∙ ap (λ rest. slice_index text 10 ∷ rest) time.2) in
    record {
      date = take 10 text;
      delimiter = slice_index text 10;
      time = time.0;
      offset = time.1;
      whole = whole;
      has_date = first.0;
      has_delimiter = first.1;
      has_time = time.3;
      has_offset = time.4;
    }

date_length : (text : List ℕ) → is_full_date text ≡ true → length text ≡ 10
unfolding is_full_date
date_length text h = eqb-true (length text) 10 (grind (arith, common_steps, and_parts))

offset_length : (text : List ℕ) → is_time_offset text ≡ true → (length text ≡ 1) ⊎ (length text ≡ 6)
unfolding is_time_offset
offset_length text h = grind (arith, nat_tests, common_steps)

time_with : (n : ℕ) (time offset : List ℕ) → length offset ≡ n → is_time_offset offset ≡ true → is_partial_time time ≡ true
    → is_time_with n (time ++ offset) ≡ true
time_with n time offset len o p = grind (arith, nat_tests, common_steps)

time_of_parts : (time offset : List ℕ) → is_partial_time time ≡ true → (offset ≡ []) ⊎ (is_time_offset offset ≡ true) → is_time (time ++ offset) ≡ true
unfolding is_time
time_of_parts time offset p o = grind (arith, nat_tests, common_steps, append-nil time, time_with, offset_length offset)

date_time_of_parts : (text : List ℕ) → IsDateTime text → is_date_time text ≡ true
date_time_of_parts text d =
    let rest = d.time ++ d.offset in
    let ten = date_length d.date d.has_date in
    let date : take 10 (d.date ++ d.delimiter ∷ rest) ≡ d.date = rw (sym ten) (take-append_seam d.date (d.delimiter ∷ rest)) in
    let delimiter : slice_index (d.date ++ d.delimiter ∷ rest) 10 ≡ d.delimiter = rw (sym ten) (get_or-append_seam d.date d.delimiter rest 0) in
    let after : drop (10 + 1) (d.date ++ d.delimiter ∷ rest) ≡ rest =
    subst (λ n. drop (n + 1) (d.date ++ d.delimiter ∷ rest) ≡ rest) ten (drop-append-add d.date (d.delimiter ∷ rest) 1) in
    rw (d.whole, date, delimiter, after)
    (and_from _ _ (and_from _ _ d.has_date d.has_delimiter) (time_of_parts d.time d.offset d.has_time d.has_offset))

pub parts_of_text : (text : List ℕ) → is_date_text text ≡ true → IsDateOrTime text
unfolding is_date_text
parts_of_text text h = grind (arith, nat_tests, common_steps, date_time_parts text)

pub text_of_parts : (text : List ℕ) → IsDateOrTime text → is_date_text text ≡ true
unfolding is_date_text
text_of_parts text (inl date) = or_left _ _ (or_left _ _ date)
text_of_parts text (inr (inl time)) = or_left _ _ (or_right _ _ time)
text_of_parts text (inr (inr both)) = or_right _ _ (date_time_of_parts text both)
