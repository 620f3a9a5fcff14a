-- The spellings of strings and keys are read again.
use Rattle.toml_span_lex.proofs.Common.{◌≡◌, ℕ, ◌/◌, ◌%◌, ◌+◌, ◌-◌, ◌<◌, ◌≤◌, ◌⊎◌, Bool, true, false, cond, not, Option, Some, None, Result, Ok, Err, IfOk, String, string_bytes, List, [], ◌∷◌, ◌++◌, length, length-append, get_or, take, drop, arith, inl, inr, sym, ◌∙◌, refl, ap, subst, append-nil, append_assoc, encode_utf8, codes, chars, flat_map, IsUtf8, ◌==◌, ◌&&◌, slice_range, Global, list_all, list_any, digit_char, cases_lt, false≢true, and_parts, or_parts, true_from_ne_false, not-true, nat_tests, list_all_at, encodes-chars, length-encode, len_utf8_bounds, common_steps, encode_ascii, digit_value-digit_char, inside_one}
use lib.Utf8.{encodes, low_scalar}
use Rattle.toml_span_lex.specs.Bytes.{is_keylike, MaximalRun}
use Rattle.toml_span_lex.specs.declared.pieces.Piece.{Piece}
use Rattle.toml_span_lex.specs.declared.pieces.Piece.TheVariants as pieces
use Rattle.toml_span_lex.specs.declared.span.Span.{Span}
use Rattle.toml_span_lex.specs.Escapes.{HexRun, hex_value, IsEscape, simple_escape, is_hex}
use Rattle.toml_span_lex.specs.Pieces.{is_plain}
use Rattle.toml_span_lex.specs.Strings.{Cut, content, content_span, IsContent, IsString}
use Rattle.toml_span_lex.specs.Tokens.{RunAt}
use Rattle.toml_span_lex.proofs.MadeStrings.{is_string}
use Rattle.toml_span_lex.proofs.PieceLemmas.{slice_join}
use Rattle.toml_span_lex.proofs.Runs.{read_within}
use Rattle.toml_span_read.specs.Dates.{is_date_byte, continues_date}
use Rattle.toml_span_read.specs.Keys.{SpellsSimpleKey}
use Rattle.toml_span_read.specs.Again.{may_follow, ReadsAsString, ReadsAsKey}
use Rattle.toml_span_places.specs.Keys.{is_quote}
use Rattle.toml_span_places.specs.Quoted.{letter_of, letter_or, is_control, number_escape, letter_escape, basic_char, basic, is_escaped, is_unliteral, is_literal, quoted, is_bare, key_text}
use Rattle.toml_span_read.proofs.Parts.{Part, between, same_part, front, back, tail, here, next, range, within, each, empty_range}
use Rattle.std.proofs.lemmas.Bool.{lt-ltb}
use Rattle.std.proofs.Math.ListN.{get_or-append}
use Rattle.std.proofs.Math.Seq.{get_or-append_right}

-- ---- pieces of basic strings

-- the value of the pieces from i on, which end at j
abbrev Pieces : List ℕ → ℕ → ℕ → List ℕ → Type 0
Pieces text i j value = (ps : List (Piece × ℕ)) × Cut 34 false text i ps j × (content text i ps ≡ value)

-- unescaped bytes from i to k, and pieces after them that do not begin with such a byte
run_first : (text : List ℕ) (i k j : ℕ) (ps : List (Piece × ℕ)) → i < k → ((n : ℕ) → i ≤ n → n < k → is_plain 34 (get_or text n 0) ≡ true) → is_plain 34 (get_or text k 0) ≡ false → k ≤ length text
    → Cut 34 false text k ps j → Pieces text i j (slice_range text i k ++ content text k ps)
run_first text i k j ps l h stop w cut = ((pieces.Plain, k) ∷ ps, ((l, record { forward = omega arith; within = w; passes = h; stops = λ x. stop }), cut), refl)

-- unescaped bytes from i to k, and pieces after them
plain_first : (text : List ℕ) (i k j : ℕ) (ps : List (Piece × ℕ)) → i < k → ((n : ℕ) → i ≤ n → n < k → is_plain 34 (get_or text n 0) ≡ true) → is_plain 34 (get_or text j 0) ≡ false → j ≤ length text → Cut 34 false text k ps j
    → Pieces text i j (slice_range text i k ++ content text k ps)
plain_first text i k j [] l h stop w e = run_first text i k j [] l h (rw e stop) (omega arith) e
plain_first text i k j ((pieces.Plain, m) ∷ ps) l h stop w ((on, run), more) = (
  (pieces.Plain, m) ∷ ps,
  (
    (
      omega arith,
      record {
        forward = omega arith;
        within = run.within;
        passes = λ n a b. elim (cases_lt n k) [ inl x ↦ h n a x | inr x ↦ run.passes n x b ];
        stops = run.stops;
      },
    ),
    more,
  ),
  ap (λ (v : List ℕ). v ++ content text m ps) (sym (slice_join text i k m (omega arith) (omega arith))) ∙ append_assoc (slice_range text i k) (slice_range text k m) (content text m ps),
)
plain_first text i k j ((pieces.Escape c, m) ∷ ps) l h stop w (esc, more) =
    let on : k < length text = read_within text k (omega (arith, esc.1)) in run_first text i k j ((pieces.Escape c, m) ∷ ps) l h (rw (esc.1) refl) (omega arith) (esc, more)
plain_first text i k j ((pieces.Quotes, m) ∷ ps) l h stop w (quotes, more) = absurd (false≢true quotes.0)
plain_first text i k j ((pieces.LineEnd, m) ∷ ps) l h stop w (line, more) = absurd (false≢true line.0)
plain_first text i k j ((pieces.Dropped, m) ∷ ps) l h stop w (dropped, more) = absurd (false≢true dropped.1)

-- ---- the spelling of a character in a basic string

pub digit_hex : (d : ℕ) → d < 16 → is_hex (digit_char d) ≡ true
digit_hex d h = rw (digit_value-digit_char d (omega arith)) (lt-ltb d 16 h)

-- a character that needs no escape
pub plain_byte : (c k : ℕ) → letter_of c ≡ None → is_control c ≡ false → k < length (encode_utf8 c) → is_plain 34 (get_or (encode_utf8 c) k 0) ≡ true
plain_byte c k none free h = elim (cases_lt (get_or (encode_utf8 c) k 0) 128) [
  | inl low ↦
      let e : c ≡ get_or (encode_utf8 c) k 0 = inside_one c [] (encode_utf8 c) k (sym (append-nil (encode_utf8 c))) h low in
      let plain : is_plain 34 c ≡ true = grind (arith, nat_tests, common_steps) in
      subst (λ b. is_plain 34 b ≡ true) e plain
  | inr high ↦ grind (arith, nat_tests, common_steps)
]

-- ---- one character

-- an escape from i to k, and pieces after it
escape_first : (text : List ℕ) (i k j c : ℕ) (ps : List (Piece × ℕ)) → get_or text i 0 ≡ 92 → IsEscape text (i + 1) c k → Cut 34 false text k ps j → Pieces text i j (encode_utf8 c ++ content text k ps)
escape_first text i k j c ps e h more = ((pieces.Escape c, k) ∷ ps, ((refl, e, h), more), refl)

letter_first : (text rest : List ℕ) (i k j c l : ℕ) (ps : List (Piece × ℕ)) → letter_of c ≡ Some l → Part text (letter_escape l) rest i k → Cut 34 false text k ps j → Pieces text i j (encode_utf8 c ++ content text k ps)
letter_first text rest i k j c l ps e p more =
    let w : (simple_escape l ≡ Some c) × (l < 128) = grind (arith, nat_tests, common_steps) in
    let bytes : letter_escape l ≡ 92 ∷ l ∷ [] = rw (encode_ascii 92 (omega arith), encode_ascii l w.1) refl in
    let q = same_part (92 ∷ l ∷ []) bytes p in
    let second = here l [] (tail 92 (l ∷ []) q) in
    let on = q.on in
    let all = q.all in
    escape_first text i k j c ps (here 92 (l ∷ []) q) (inl (rw second (w.0), omega arith, omega arith)) more

number_first : (text rest : List ℕ) (i k j c : ℕ) (ps : List (Piece × ℕ)) → is_control c ≡ true → Part text (number_escape c) rest i k → Cut 34 false text k ps j → Pieces text i j (encode_utf8 c ++ content text k ps)
number_first text rest i k j c ps e p more =
    let small : c < 256 = grind (arith, nat_tests, common_steps) in
    let x = digit_char (c / 16) in
    let y = digit_char (c % 16) in
    let bytes : number_escape c ≡ 92 ∷ 117 ∷ 48 ∷ 48 ∷ x ∷ y ∷ [] = grind (arith, nat_tests, common_steps) in
    let q = same_part (92 ∷ 117 ∷ 48 ∷ 48 ∷ x ∷ y ∷ []) bytes p in
    let r = tail 92 (117 ∷ 48 ∷ 48 ∷ x ∷ y ∷ []) q in
    let s = tail 117 (48 ∷ 48 ∷ x ∷ y ∷ []) r in
    let zero = tail 48 (48 ∷ x ∷ y ∷ []) s in
    let hex = tail 48 (x ∷ y ∷ []) zero in
    let second = here 117 (48 ∷ 48 ∷ x ∷ y ∷ []) r in
    let on = s.on in
    let all = s.all in
    let start = (i + 1) + 1 in
    let zeros : (n : ℕ) → start ≤ n → n < (start + 1) + 1 → is_hex (get_or text n 0) ≡ true = λ n a b. elim (cases_lt n (start + 1)) [
      | inl first ↦ let at : n ≡ start = omega arith in rw (at, here 48 (48 ∷ x ∷ y ∷ []) s) refl
      | inr last ↦ let at : n ≡ start + 1 = omega arith in rw (at, here 48 (x ∷ y ∷ []) zero) refl
    ] in
    let others : (n : ℕ) → (start + 1) + 1 ≤ n → n < k → is_hex (get_or text n 0) ≡ true = λ n a b. elim (cases_lt n (((start + 1) + 1) + 1)) [
      | inl first ↦ let at : n ≡ (start + 1) + 1 = omega arith in rw (at, here x (y ∷ []) hex) (digit_hex (c / 16) (omega arith))
      | inr last ↦ let at : n ≡ ((start + 1) + 1) + 1 = omega arith in rw (at, here y [] (tail x (y ∷ []) hex)) (digit_hex (c % 16) (omega arith))
    ] in
    let four : HexRun text start k = record {
      within = omega arith;
      digits = λ n a b. elim (cases_lt n ((start + 1) + 1)) [ inl first ↦ zeros n a first | inr last ↦ others n last b ];
    } in
    let n : k - start ≡ 4 = omega arith in
    let all_four : take 4 (drop start text) ≡ 48 ∷ 48 ∷ x ∷ y ∷ [] = rw n at (range s) in
    let value : c ≡ hex_value text start 4 = rw (all_four, digit_value-digit_char (c / 16) (omega arith), digit_value-digit_char (c % 16) (omega arith)) (omega arith) in
    escape_first text i k j c ps (here 92 (117 ∷ 48 ∷ 48 ∷ x ∷ y ∷ []) q) (inr (rw second (omega arith), omega arith, rw second (four, omega arith, value, low_scalar c (omega arith)))) more

char_first : (text rest : List ℕ) (i k j c : ℕ) (ps : List (Piece × ℕ)) → 0 < length (encode_utf8 c) → is_plain 34 (get_or text j 0) ≡ false → j ≤ length text → Part text (basic_char c) rest i k → Cut 34 false text k ps j
    → Pieces text i j (encode_utf8 c ++ content text k ps)
char_first text rest i k j c ps some stop w p more = by_letter (letter_of c) refl
  where
    itself : letter_of c ≡ None → is_control c ≡ false → Part text (encode_utf8 c) rest i k → Pieces text i j (encode_utf8 c ++ content text k ps)
    itself none free q =
        let on = q.on in
        subst (λ (v : List ℕ). Pieces text i j (v ++ content text k ps)) (range q)
        (plain_first text i k j ps (omega arith) (each q (is_plain 34) (λ n h. plain_byte c n none free h)) stop w more)

    by_control : (t : Bool) → letter_of c ≡ None → is_control c ≡ t → Part text (cond t (number_escape c) (encode_utf8 c)) rest i k → Pieces text i j (encode_utf8 c ++ content text k ps)
    by_control true none e q = number_first text rest i k j c ps e q more
    by_control false none e q = itself none e q

    by_letter : (o : Option ℕ) → letter_of c ≡ o → Pieces text i j (encode_utf8 c ++ content text k ps)
    by_letter (Some l) e = letter_first text rest i k j c l ps e (same_part (letter_escape l) (ap (λ o. letter_or o (cond (is_control c) (number_escape c) (encode_utf8 c))) e) p) more
    by_letter None e = by_control (is_control c) e refl (same_part (cond (is_control c) (number_escape c) (encode_utf8 c)) (ap (λ o. letter_or o (cond (is_control c) (number_escape c) (encode_utf8 c))) e) p)

-- ---- all characters

chars_cut : (cs text rest : List ℕ) (i j : ℕ) → Part text (flat_map basic_char cs) (34 ∷ rest) i j → Pieces text i j (encodes cs)
chars_cut [] text rest i j p = let same : i ≡ j = omega (arith, p.on) in ([], same, refl)
chars_cut (c ∷ cs) text rest i j p =
    let first = front (basic_char c) (flat_map basic_char cs) p in
    let others = back (basic_char c) (flat_map basic_char cs) p in
    let (ps, cut, is) = chars_cut cs text rest (i + length (basic_char c)) j others in
    let stop : is_plain 34 (get_or text j 0) ≡ false = rw (next p) refl in
    subst (λ (v : List ℕ). Pieces text i j (encode_utf8 c ++ v)) is
    (char_first text (flat_map basic_char cs ++ (34 ∷ rest)) i (i + length (basic_char c)) j c ps (omega (arith, length-encode c, (len_utf8_bounds c).0)) stop (within p) first cut)

-- ---- what may follow

pub off_parts : (rest : List ℕ) → may_follow rest ≡ true → (is_date_byte (get_or rest 0 0) ≡ false) × (is_quote (get_or rest 0 0) ≡ false) × (continues_date rest 0 ≡ false)
off_parts rest h = grind (arith, nat_tests, common_steps)

-- ---- strings

-- a string whose content is from i + 1 to k
closed : (text rest value : List ℕ) (q i k j : ℕ) (ps : List (Piece × ℕ)) → (q ≡ 34) ⊎ (q ≡ 39) → get_or text i 0 ≡ q → get_or text k 0 ≡ q → k < length text → j ≡ k + 1 → Cut q false text (i + 1) ps k → content text (i + 1) ps ≡ value
    → ((get_or text (i + 1) 0 == get_or text i 0) ≡ false) ⊎ ((get_or text (i + 2) 0 == get_or text i 0) ≡ false)
    → (span : Span) × IsString text i j span (slice_range text i j) value false
closed text rest value q i k j ps quote first last w e cut is other =
    let no_three : false ≡ ((get_or text (i + 1) 0 == get_or text i 0) && (get_or text (i + 2) 0 == get_or text i 0)) = grind (arith, nat_tests, common_steps, other) in
    let opens : (get_or text i 0 ≡ 34) ⊎ (get_or text i 0 ≡ 39) = rw first quote in
    let made : IsContent q false text (i + 1) value k j = record {
      pieces = ps;
      at = k;
      cut = cut;
      closes = (last, w, e);
      to_is = omega arith;
      value_is = sym is ∙ (sym (append-nil (content text (i + 1) ps)) ∙ ap (λ (v : List ℕ). content text (i + 1) ps ++ v) (sym (empty_range text k)));
    } in
    (content_span false i (i + 1) k, is_string text q i (i + 1) k j false (content_span false i (i + 1) k) (slice_range text i j) value value (sym first) no_three opens refl made refl refl refl)

plain_other : (q c : ℕ) → is_plain q c ≡ true → (c == q) ≡ false
plain_other q c h = grind (arith, nat_tests)

-- from the pieces, or from what follows them, it follows that there are not three quotes at i
one_quote : (text : List ℕ) (i k : ℕ) (ps : List (Piece × ℕ)) → get_or text i 0 ≡ 34 → Cut 34 false text (i + 1) ps k → is_quote (get_or text (k + 1) 0) ≡ false
    → ((get_or text (i + 1) 0 == get_or text i 0) ≡ false) ⊎ ((get_or text (i + 2) 0 == get_or text i 0) ≡ false)
one_quote text i k [] q e off = let at : k + 1 ≡ i + 2 = omega arith in inr (rw q (or_parts (get_or text (i + 2) 0 == 34) _ (rw at at off)).0)
one_quote text i k ((pieces.Plain, m) ∷ ps) q ((on, run), more) off = inl (rw q (plain_other 34 (get_or text (i + 1) 0) (run.passes (i + 1) (omega arith) on)))
one_quote text i k ((pieces.Escape c, m) ∷ ps) q (esc, more) off = inl (rw (q, esc.1) refl)
one_quote text i k ((pieces.Quotes, m) ∷ ps) q (quotes, more) off = absurd (false≢true quotes.0)
one_quote text i k ((pieces.LineEnd, m) ∷ ps) q (line, more) off = absurd (false≢true line.0)
one_quote text i k ((pieces.Dropped, m) ∷ ps) q (dropped, more) off = absurd (false≢true dropped.1)

abbrev StringAt : List ℕ → ℕ → ℕ → List ℕ → Type 0
StringAt text i j value = (span : Span) × IsString text i j span (slice_range text i j) value false

basic_again : (s text rest : List ℕ) (i j : ℕ) → IsUtf8 s → is_quote (get_or rest 0 0) ≡ false → Part text (34 ∷ (basic s ++ (34 ∷ []))) rest i j → StringAt text i j s
unfolding basic
basic_again s text rest i j utf8 off p =
    let body = tail 34 (basic s ++ (34 ∷ [])) p in
    let inside = front (basic s) (34 ∷ []) body in
    let end = back (basic s) (34 ∷ []) body in
    let k = (i + 1) + length (basic s) in
    let (ps, cut, is) = chars_cut (chars s) text rest (i + 1) k inside in
    let on = end.on in
    let all = end.all in
    let first = here 34 (basic s ++ (34 ∷ [])) p in
    let e : j ≡ k + 1 = omega arith in
    let past : is_quote (get_or text (k + 1) 0) ≡ false = rw (sym e, next p) off in
    closed text rest s 34 i k j ps (inl refl) first (here 34 [] end) (omega arith) e cut (is ∙ encodes-chars s utf8) (one_quote text i k ps first cut past)

-- ---- literal strings

-- a character that may be in a literal string
literal_byte : (c k : ℕ) → is_unliteral c ≡ false → k < length (encode_utf8 c) → is_plain 39 (get_or (encode_utf8 c) k 0) ≡ true
literal_byte c k free h = elim (cases_lt (get_or (encode_utf8 c) k 0) 128) [
  | inl low ↦
      let e : c ≡ get_or (encode_utf8 c) k 0 = inside_one c [] (encode_utf8 c) k (sym (append-nil (encode_utf8 c))) h low in
      let plain : is_plain 39 c ≡ true = grind (arith, nat_tests, common_steps) in
      subst (λ b. is_plain 39 b ≡ true) e plain
  | inr high ↦ grind (arith, nat_tests, common_steps)
]

literal_bytes : (cs : List ℕ) → list_any is_unliteral cs ≡ false → (k : ℕ) → k < length (encodes cs) → is_plain 39 (get_or (encodes cs) k 0) ≡ true
literal_bytes [] free k h = absurd (omega arith)
literal_bytes (c ∷ cs) free k h =
    let parts = or_parts (is_unliteral c) (list_any is_unliteral cs) free in
    elim (cases_lt k (length (encode_utf8 c))) [
      | inl first ↦ rw (get_or-append (encode_utf8 c) (encodes cs) 0 k first) (literal_byte c k parts.0 first)
      | inr later ↦
          let e : get_or (encode_utf8 c ++ encodes cs) k 0 ≡ get_or (encodes cs) (k - length (encode_utf8 c)) 0 = get_or-append_right (encode_utf8 c) (encodes cs) k 0 later in
          let inside : k - length (encode_utf8 c) < length (encodes cs) = omega (arith, length-append (encode_utf8 c) (encodes cs)) in
          rw e (literal_bytes cs parts.1 (k - length (encode_utf8 c)) inside)
    ]

none_unliteral : (s : List ℕ) → IsUtf8 s → list_any is_unliteral (chars s) ≡ false → (k : ℕ) → k < length s → is_plain 39 (get_or s k 0) ≡ true
none_unliteral s utf8 h =
    let P : List ℕ → Type 0 = λ v. (k : ℕ) → k < length v → is_plain 39 (get_or v k 0) ≡ true in
    subst P (encodes-chars s utf8) (literal_bytes (chars s) h)

literal_again : (s text rest : List ℕ) (i j : ℕ) → IsUtf8 s → is_literal s ≡ true → Part text (39 ∷ (s ++ (39 ∷ []))) rest i j → StringAt text i j s
literal_again s text rest i j utf8 h p =
    let both = and_parts (list_any is_escaped s) (not (list_any is_unliteral (chars s))) h in
    let some : 0 < length s = grind (arith, nat_tests, common_steps, both.0) in
    let plain = none_unliteral s utf8 (not-true (list_any is_unliteral (chars s)) both.1) in
    let body = tail 39 (s ++ (39 ∷ [])) p in
    let inside = front s (39 ∷ []) body in
    let end = back s (39 ∷ []) body in
    let k = (i + 1) + length s in
    let on = end.on in
    let all = end.all in
    let first = here 39 (s ++ (39 ∷ [])) p in
    let last = here 39 [] end in
    let passes = each inside (is_plain 39) plain in
    let run : MaximalRun (is_plain 39) text (i + 1) k = record { forward = omega arith; within = within inside; passes = passes; stops = λ x. rw last refl } in
    closed text rest s 39 i k j ((pieces.Plain, k) ∷ []) (inr refl) first last (omega arith) (omega arith) ((omega arith, run), refl) (append-nil (slice_range text (i + 1) k) ∙ range inside)
    (inl (rw first (plain_other 39 (get_or text (i + 1) 0) (passes (i + 1) (omega arith) (omega arith)))))

pub string_again : (s text rest : List ℕ) (i j : ℕ) → IsUtf8 s → is_quote (get_or rest 0 0) ≡ false → Part text (quoted s) rest i j → StringAt text i j s
string_again s text rest i j utf8 off p = by_form (is_literal s) refl p
  where
    by_form : (t : Bool) → is_literal s ≡ t → Part text (cond t (codes "'" ++ s ++ codes "'") (codes "\"" ++ basic s ++ codes "\"")) rest i j → StringAt text i j s
    by_form true e q = literal_again s text rest i j utf8 e q
    by_form false e q = basic_again s text rest i j utf8 off q

-- ---- keys

abbrev KeyAt : List ℕ → ℕ → ℕ → List ℕ → Type 0
KeyAt text i j name = (span : Span) × SpellsSimpleKey (record { name = name; span = span }) text i j

pub run_again : (name text rest : List ℕ) (i j : ℕ) → 0 < length name → list_all is_keylike name ≡ true → is_date_byte (get_or rest 0 0) ≡ false → Part text name rest i j → RunAt is_keylike text i j name
run_again name text rest i j some h off p =
    let on = p.on in
    let stop : is_keylike (get_or text j 0) ≡ false = rw (next p) (grind (arith, nat_tests, common_steps, off)) in
    let keylike : (k : ℕ) → k < length name → is_keylike (get_or name k 0) ≡ true = λ k l. true_from_ne_false _ (λ e. false≢true (sym (list_all_at is_keylike name k 0 l e) ∙ h)) in
    (omega arith, record { forward = omega arith; within = within p; passes = each p is_keylike keylike; stops = λ x. stop }, sym (range p))

bare_again : (name text rest : List ℕ) (i j : ℕ) → is_bare name ≡ true → is_date_byte (get_or rest 0 0) ≡ false → Part text name rest i j → KeyAt text i j name
bare_again name text rest i j h off p =
    let both = and_parts (not (length name == 0)) (list_all is_keylike name) h in
    (record { start = i; end = j }, inl (run_again name text rest i j (grind (arith, nat_tests, common_steps, both.0)) both.1 off p, refl))

pub key_again : (name text rest : List ℕ) (i j : ℕ) → IsUtf8 name → is_date_byte (get_or rest 0 0) ≡ false → is_quote (get_or rest 0 0) ≡ false → Part text (key_text name) rest i j → KeyAt text i j name
key_again name text rest i j utf8 off quote p = by_form (is_bare name) refl p
  where
    by_form : (t : Bool) → is_bare name ≡ t → Part text (cond t name (quoted name)) rest i j → KeyAt text i j name
    by_form true e q = bare_again name text rest i j e off q
    by_form false e q = let (span, h) = string_again name text rest i j utf8 quote q in (span, inr (slice_range text i j, h))

-- ---- the contracts

pub reads_string : (s : List ℕ) → IsUtf8 s → ReadsAsString s (quoted s)
reads_string s utf8 before rest off =
    let p = between before (quoted s) rest in
    let (span, h) = string_again s (before ++ (quoted s ++ rest)) rest (length before) (length before + length (quoted s)) utf8 (off_parts rest off).1 p in
    (span, rw (range p) at h)

pub reads_key : (name : List ℕ) → IsUtf8 name → ReadsAsKey name (key_text name)
reads_key name utf8 before rest off =
    let o = off_parts rest off in
    key_again name (before ++ (key_text name ++ rest)) rest (length before) (length before + length (key_text name)) utf8 o.0 o.1 (between before (key_text name) rest)

-- what holds for a text holds for a result equal to it
pub if_text : {E : Type 0} (P : List ℕ → Type 0) (r : Result (String Global) E) (s : List ℕ) → P s → IfOk r (λ out. string_bytes out ≡ s) → IfOk r (λ out. P (string_bytes out))
if_text P (Ok out) s h e = subst P (sym e) h
if_text P (Err error) s h e = tt
