-- How values are read, step by step.
use Rattle.toml_span_lex.proofs.Common.{common_steps, nat_tests, ◌≡◌, ℕ, zero, suc, ◌+◌, ◌-◌, ◌<◌, ◌≤◌, ◌⊎◌, Bool, true, false, List, [], ◌∷◌, ◌++◌, map, get_or, arith, inl, inr, ◌∙◌, refl, sym, ap, Result, Ok, Err, cow_str_bytes, ◌==◌, ◌||◌, or_parts, or_right, slice_range, codes, is_some, bytes_eq, cases_lt, map-append, bytes_eq-Decides}
use Rattle.toml_span_lex.specs.declared.stop.Stop.{Stop}
use Rattle.toml_span_lex.specs.declared.stop.Stop.TheVariants as stops
use Rattle.toml_span_lex.specs.Bytes.{is_keylike, MaximalRun}
use Rattle.toml_span_lex.specs.Tokens.{string}
use Rattle.toml_span_tree.specs.Node.{text as text_scalar, boolean}
use Rattle.toml_span_read.specs.declared.fault.Fault.{Fault}
use Rattle.toml_span_read.specs.declared.fault.FaultKind.TheVariants as kinds
use Rattle.toml_span_read.specs.declared.value.ValKind.{ValKind}
use Rattle.toml_span_read.specs.declared.strings.StringToken.{StringToken}
use Rattle.toml_span_read.specs.Data.{ParsedValue, parsed, ParsedInner, scalar, ParsedAssignment, parsed_kind, from_to}
use Rattle.toml_span_read.specs.Dates.{begins_date}
use Rattle.toml_span_read.specs.Faults.{fault_at, opens_nested, begins_bare, begins_number}
use Rattle.toml_span_read.specs.Gaps.{MaximalGap}
use Rattle.toml_span_read.specs.Grammar.{truth_text}
use Rattle.toml_span_read.specs.Numerals.{special, number, run_end}
use Rattle.toml_span_read.specs.Read as read
use Rattle.toml_span_read.specs.Read.{Reading, LoopStep, on, done, Loop, ends, stops as stops_there, goes_on, ValueEnd, Elements, Pairs, IsNextToken, token, no_token}
use Rattle.toml_span_read.specs.code.Faults.{MatchesReading}
use Rattle.toml_span_read.specs.code.Values.{value_found, ScalarGives, IsTooDeep, IsOtherWord}
use Rattle.toml_span_read.specs.code.Strings.{StringReads}
use Rattle.toml_span_read.proofs.NumberLemmas.{is_false, same_byte, byte_is, clash, run_is}

-- ---- bare values

not_word : (word w : List ℕ) → (word ≡ w → ⊥) → bytes_eq word w ≡ false
not_word word w n = is_false (bytes_eq word w) (λ t. n ((bytes_eq-Decides word w).0 t))

-- the run at an offset, given its end
run_here : (text bytes word : List ℕ) (i j : ℕ) → bytes ≡ text → MaximalRun is_keylike text i j → slice_range bytes i j ≡ word → (read.run_at text i ≡ word) × (run_end text i ≡ j)
run_here text bytes word i j same run is = let e = run_is text i j run in (rw (e, ← same) is, e)

pub truth_read : (b : Bool) (kind : ValKind) (text bytes : List ℕ) (i j : ℕ) → parsed_kind kind ≡ scalar (boolean b) → bytes ≡ text → begins_date text i ≡ false → begins_number (get_or text i 0) ≡ false
    → MaximalRun is_keylike text i j → slice_range bytes i j ≡ truth_text b → ScalarGives (read.bare text i) (Ok (kind, j))
unfolding special
truth_read true kind text bytes i j e same d n run is = let h = run_here text bytes _ i j same run is in (boolean true, e, inr (d, rw (n, h.0, h.1) refl))
truth_read false kind text bytes i j e same d n run is = let h = run_here text bytes _ i j same run is in (boolean false, e, inr (d, rw (n, h.0, h.1) refl))

pub number_first : (text : List ℕ) (i : ℕ) → (begins_number (get_or text i 0) || is_some (special false (read.run_at text i))) ≡ true → read.number_or_word text i ≡ number text i
number_first text i t = rw t refl

pub number_bare : (r : Result (ValKind × ℕ) (Stop Fault)) (text : List ℕ) (i : ℕ) → begins_date text i ≡ false → (begins_number (get_or text i 0) || is_some (special false (read.run_at text i))) ≡ true
    → ScalarGives (λ x. x ≡ number text i) r → ScalarGives (read.bare text i) r
number_bare (Ok (kind, j)) text i d t (s, same, is) = (s, same, inr (d, is ∙ sym (number_first text i t)))
number_bare (Err (stops.Memory e)) text i d t h = tt
number_bare (Err (stops.Fault fault)) text i d t is = inr (d, is ∙ sym (number_first text i t))

special_word : (word : List ℕ) → (word ≡ codes "inf") ⊎ (word ≡ codes "nan") → is_some (special false word) ≡ true
unfolding special
special_word word h = grind (arith, nat_tests, common_steps)

pub letters_number : (text bytes : List ℕ) (i j : ℕ) → bytes ≡ text → MaximalRun is_keylike text i j → (slice_range bytes i j ≡ codes "inf") ⊎ (slice_range bytes i j ≡ codes "nan")
    → (begins_number (get_or text i 0) || is_some (special false (read.run_at text i))) ≡ true
letters_number text bytes i j same run w =
    or_right (begins_number (get_or text i 0)) _ (rw (run_here text bytes (slice_range bytes i j) i j same run refl).0 (special_word (slice_range bytes i j) w))

pub other_read : (text bytes : List ℕ) (i j : ℕ) → bytes ≡ text → begins_date text i ≡ false → begins_number (get_or text i 0) ≡ false → MaximalRun is_keylike text i j → IsOtherWord (slice_range bytes i j)
    → read.bare text i (Err (record { kind = kinds.UnquotedString; span = record { start = i; end = j } }))
unfolding special
other_read text bytes i j same d n run other =
    let h = run_here text bytes (slice_range bytes i j) i j same run refl in
    inr (d, rw (n, h.0, h.1, not_word _ _ other.no_infinity, not_word _ _ other.no_nan, not_word _ _ other.no_true, not_word _ _ other.no_false) refl)

-- ---- levels

-- the parts of a key take levels
pub levels : (text : List ℕ) (limit left n i : ℕ) (r : Result ValueEnd Fault) → read.value text limit (left - n) zero i r → read.value text limit left n i r
unfolding read.value
levels text limit zero n i r h = let z : zero - n ≡ zero = omega arith in rw z at h
levels text limit (suc left) zero i r h = let z : suc left - zero ≡ suc left = omega arith in rw z at h
levels text limit (suc left) (suc n) i r h = let z : suc left - suc n ≡ left - n = omega arith in levels text limit left n i r (rw z at h)

within_limit : (text : List ℕ) (limit d i : ℕ) (r : Result ValueEnd Fault) → d ≤ limit → read.value text limit (suc ((limit + 1) - (d + 1))) zero i r → read.value text limit ((limit + 1) - d) zero i r
within_limit text limit d i r l h = let same : suc ((limit + 1) - (d + 1)) ≡ (limit + 1) - d = omega (arith, l) in rw same at h

past_limit : (text : List ℕ) (limit d i : ℕ) (r : Result ValueEnd Fault) → limit < d → read.too_deep text i r → read.value text limit ((limit + 1) - d) zero i r
unfolding read.value
past_limit text limit d i r l h = let none : (limit + 1) - d ≡ zero = omega (arith, l) in rw none h

-- ---- values without brackets

pub quote_plain : (c : ℕ) → (c ≡ 34) ⊎ (c ≡ 39) → (opens_nested c ≡ false) × (begins_bare c ≡ false)
quote_plain c h = grind (arith, nat_tests, common_steps)

-- a value that begins neither with a bracket or a brace nor as a bare one
pub plain_value : (text : List ℕ) (limit d i : ℕ) (r : Result ValueEnd Fault) → d ≤ limit → opens_nested (get_or text i 0) ≡ false → begins_bare (get_or text i 0) ≡ false → read.string_value text i r → read.value text limit ((limit + 1) - d) zero i r
unfolding read.value
plain_value text limit d i r l n b h = let o = or_parts (get_or text i 0 == 91) (get_or text i 0 == 123) n in within_limit text limit d i r l (inr (o.0, inr (o.1, inr (b, h))))

deep_plain : (text : List ℕ) (limit d i : ℕ) (r : Result ValueEnd Fault) → limit < d → opens_nested (get_or text i 0) ≡ false → begins_bare (get_or text i 0) ≡ false
    → read.after (read.string_value text i) (λ found r. r ≡ Err (fault_at kinds.ExceededDepthLimit i)) r → read.value text limit ((limit + 1) - d) zero i r
deep_plain text limit d i r l n b h = past_limit text limit d i r l (inr (rw (n, b) refl, h))

-- at or past the limit, the fault of a string is the fault of the value
pub plain_stops : (text : List ℕ) (limit d i : ℕ) (e : Fault) → opens_nested (get_or text i 0) ≡ false → begins_bare (get_or text i 0) ≡ false → read.string_value text i (Err e) → read.value text limit ((limit + 1) - d) zero i (Err e)
plain_stops text limit d i e n b h = grind (arith, cases_lt limit d, deep_plain, plain_value)

pub string_there : (text : List ℕ) (i : ℕ) (t : StringToken) → StringReads text i (Ok t) → read.string_value text i (Ok (parsed (scalar (text_scalar (cow_str_bytes t.content))) t.span, t.end))
string_there text i t (source, h, borrows, rest) = (token t.span (string source (cow_str_bytes t.content) t.is_multiline) t.end, h, refl)

-- ---- values past the limit

pub string_deep : (stop : Stop Fault) (text : List ℕ) (limit d i : ℕ) (t : StringToken) → limit < d → (get_or text i 0 ≡ 34) ⊎ (get_or text i 0 ≡ 39) → StringReads text i (Ok t) → IsTooDeep i stop
    → MatchesReading value_found (read.value text limit ((limit + 1) - d) zero i) (Err stop)
string_deep (stops.Memory e) text limit d i t l q h is = absurd is
string_deep (stops.Fault e) text limit d i t l q h is =
    let p = quote_plain (get_or text i 0) q in deep_plain text limit d i (Err e) l p.0 p.1 (inl (_, string_there text i t h, ap (λ y. Err y) is))

pub begun_deep : (stop : Stop Fault) (text : List ℕ) (limit d i : ℕ) → limit < d → (opens_nested (get_or text i 0) || begins_bare (get_or text i 0)) ≡ true → IsTooDeep i stop → MatchesReading value_found (read.value text limit ((limit + 1) - d) zero i) (Err stop)
begun_deep stop text limit d i l b is = grind (arith, past_limit)

-- ---- bare values within the limit

pub bare_value : (text : List ℕ) (limit d i : ℕ) (r : Result ValueEnd Fault) → d ≤ limit → begins_bare (get_or text i 0) ≡ true → read.after (read.bare text i) (λ (s, j) r. r ≡ Ok (parsed (scalar s) (from_to i j), j)) r
    → read.value text limit ((limit + 1) - d) zero i r
unfolding read.value
bare_value text limit d i r l b h = grind (arith, is_false, clash, byte_is, within_limit)

-- ---- arrays

-- what is read between the brackets is the value
abbrev pub nested_of : ℕ → Result (ParsedInner × ℕ) Fault → Result ValueEnd Fault
nested_of i (Ok (v, j)) = Ok (parsed v (from_to i j), j)
nested_of i (Err e) = Err e

nested_read : (text : List ℕ) (i k : ℕ) (inner : ℕ → Reading (ParsedInner × ℕ)) (r : Result (ParsedInner × ℕ) Fault) → MaximalGap text (i + 1) k → inner k r → read.nested text i inner (nested_of i r)
nested_read text i k inner (Ok (v, j)) gap h = (k, gap, inl ((v, j), h, refl))
nested_read text i k inner (Err e) gap h = (k, gap, inr (e, h, refl))

-- how an element of an array at this depth is read
abbrev pub below : List ℕ → ℕ → ℕ → ℕ → ℕ → Reading ValueEnd
below text limit d = read.value text limit ((limit + 1) - (d + 1))

-- whatever is read after these elements is read as the array at i
abbrev pub ArrayFrom : List ℕ → ℕ → ℕ → ℕ → List ParsedValue → ℕ → Type 0
ArrayFrom text limit d i vs n =
    (r : Result (ParsedInner × ℕ) Fault) → Loop (read.next_element text (below text limit d zero)) (vs, n) r → read.value text limit ((limit + 1) - d) zero i (nested_of i r)

pub array_begins : (text : List ℕ) (limit d i k : ℕ) → d ≤ limit → get_or text i 0 ≡ 91 → MaximalGap text (i + 1) k → ArrayFrom text limit d i [] k
unfolding read.value
array_begins text limit d i k l here gap r h = within_limit text limit d i (nested_of i r) l (inl (same_byte _ _ here, nested_read text i k (λ n. Loop (read.next_element text (below text limit d zero)) ([], n)) r gap h))

-- ---- inline tables

abbrev pub TableFrom : List ℕ → ℕ → ℕ → ℕ → List ParsedAssignment → ℕ → Type 0
TableFrom text limit d i es n =
    (r : Result (ParsedInner × ℕ) Fault) → Loop (read.next_pair text limit (below text limit d)) (es, n) r → read.value text limit ((limit + 1) - d) zero i (nested_of i r)

pub table_begins : (text : List ℕ) (limit d i k : ℕ) → d ≤ limit → get_or text i 0 ≡ 123 → MaximalGap text (i + 1) k → TableFrom text limit d i [] k
unfolding read.value
table_begins text limit d i k l here gap r h = within_limit text limit d i (nested_of i r) l (inr (rw here refl, inl (same_byte _ _ here, nested_read text i k (λ n. Loop (read.next_pair text limit (below text limit d)) ([], n)) r gap h)))

-- ---- conversions to plain data

-- one more at the end, as plain data
pub map_end : {A B : Type 0} (f : A → B) (xs ys : List A) (x : A) → ys ≡ xs ++ (x ∷ []) → map f ys ≡ map f xs ++ (f x ∷ [])
map_end f xs ys x e = rw e (map-append f xs (x ∷ []))
