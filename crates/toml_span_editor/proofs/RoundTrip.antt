-- The offset of the position of an offset is that offset.
use Rattle.toml_span_lex.proofs.Common.{◌≡◌, ℕ, zero, suc, ◌+◌, ◌-◌, ◌*◌, ◌<◌, ◌≤◌, ◌≢◌, Bool, true, false, List, [], ◌∷◌, length, get_or, drop, arith, refl, ap, sym, subst, ◌∙◌, inl, inr, ◌⊎◌, ◌==◌, ◌||◌, if◌then◌else◌, slice_index, nat_lt, nat_tests, cases_Bool, cases_lt, eqb-true, IsCharBoundary}
use Rattle.toml_span_editor.proofs.PositionLemmas.{stop_test, go_test}
use Rattle.std.specs.Prelude.{◌%◌, sum_by}
use lib.Utf8.{encode}
use Rattle.toml_span_editor.specs.Laws.{IsInsideLineEnd, PositionsReturn, code_units}
use Rattle.toml_span_editor.specs.declared.positions.Encoding.{Encoding}
use Rattle.toml_span_editor.specs.declared.positions.Encoding.TheVariants.{Utf8, Utf16, Utf32}
use Rattle.toml_span_editor.specs.declared.positions.Position.{Position}
use Rattle.toml_span_editor.specs.Positions.{after, column, ends_line, first, largest, line_start, offset_of, plus, position_from, units}

-- the offset of a character some lines further on
abbrev total : Encoding → ℕ → ℕ → List ℕ → ℕ
total e lines character text = line_start lines text + column e character (drop (line_start lines text) text)

total-zero : (e : Encoding) (c : ℕ) (text : List ℕ) → total e 0 c text ≡ column e c text
unfolding line_start
total-zero e c text = omega arith

total-end : (e : Encoding) (j c b : ℕ) (text : List ℕ) → ends_line b (slice_index text 0) ≡ true → total e (suc j) c (b ∷ text) ≡ suc (total e j c text)
unfolding line_start
total-end e j c b text ends =
    ap (λ t. suc (line_start (if t then j else suc j) text) + column e c (drop (line_start (if t then j else suc j) text) text)) ends
    ∙ omega arith

total-more : (e : Encoding) (j c b : ℕ) (text : List ℕ) → ends_line b (slice_index text 0) ≡ false → total e (suc j) c (b ∷ text) ≡ suc (total e (suc j) c text)
unfolding line_start
total-more e j c b text ends =
    ap (λ t. suc (line_start (if t then j else suc j) text) + column e c (drop (line_start (if t then j else suc j) text) text)) ends
    ∙ omega arith

some_units : (e : Encoding) (b : ℕ) → (128 ≤ b → 192 ≤ b) → 0 < units e b
some_units Utf8 b between = elim (cases_lt b 128) [ inl lt ↦ grind (arith, nat_tests) | inr ge ↦ let lead = between ge in grind (arith, nat_tests) ]
some_units Utf16 b between = elim (cases_lt b 128) [ inl lt ↦ grind (arith, nat_tests) | inr ge ↦ let lead = between ge in grind (arith, nat_tests) ]
some_units Utf32 b between = elim (cases_lt b 128) [ inl lt ↦ grind (arith, nat_tests) | inr ge ↦ let lead = between ge in grind (arith, nat_tests) ]

few_units : (e : Encoding) (b : ℕ) → units e b ≤ 4
few_units Utf8 b = grind (arith, nat_tests)
few_units Utf16 b = grind (arith, nat_tests)
few_units Utf32 b = grind (arith, nat_tests)

-- a character begins at the front of the text, or it is empty
column-none : (e : Encoding) (text : List ℕ) → (0 < length text → 128 ≤ get_or text 0 0 → 192 ≤ get_or text 0 0) → column e 0 text ≡ 0
unfolding column
column-none e [] between = refl
column-none e (b ∷ text) between =
    let some : 0 < units e b = some_units e b (between (omega arith)) in
    ap (λ t. if t then 0 else suc (column e (0 - units e b) text)) (stop_test 0 b (units e b) (inr (inr some)))

column-feed : (e : Encoding) (c : ℕ) (text : List ℕ) → get_or text 0 0 ≡ 10 → column e c text ≡ 0
unfolding column
column-feed e c [] feed = refl
column-feed e c (b ∷ text) feed =
    ap (λ t. if t then 0 else suc (column e (c - units e b) text)) (stop_test c b (units e b) (inl feed))

column-char : (e : Encoding) (left less b : ℕ) (text : List ℕ) → b ≢ 10 → b ≢ 13 → units e b ≤ left → less ≡ left - units e b → column e left (b ∷ text) ≡ suc (column e less text)
unfolding column
column-char e left less b text no_feed no_return enough less_is =
    ap (λ t. if t then 0 else suc (column e (left - units e b) text)) (go_test left b (units e b) no_feed no_return enough)
    ∙ ap (λ n. suc (column e n text)) (sym less_is)

-- The position q is that of the offset n of a text which begins at the position p.
record Back (e : Encoding) (p q : Position) (n : ℕ) (text : List ℕ) : Type 0 where
  order : p.line ≤ q.line
  same : q.line ≡ p.line → (p.character ≤ q.character) × (column e (q.character - p.character) text ≡ n)
  later : (j : ℕ) → q.line ≡ p.line + suc j → total e (suc j) q.character text ≡ n

step_end : (e : Encoding) (p r q : Position) (n b : ℕ) (text : List ℕ) → ends_line b (slice_index text 0) ≡ true → r.line ≡ p.line + 1 → r.character ≡ 0 → Back e r q n text → Back e p q (suc n) (b ∷ text)
step_end e p r q n b text ends line character back = record {
  order = let o = back.order in omega arith;
  same = λ same. let o = back.order in absurd (omega arith);
  later = λ j. elim j as (λ i. q.line ≡ p.line + suc i → total e (suc i) q.character (b ∷ text) ≡ suc n) [
    | zero ↦ λ far.
        let here : q.line ≡ r.line = omega arith in
        let all : q.character - r.character ≡ q.character = omega arith in
        total-end e 0 q.character b text ends ∙ ap suc (total-zero e q.character text ∙ ap (λ c. column e c text) (sym all) ∙ (back.same here).1)
    | suc i ↦ λ far. total-end e (suc i) q.character b text ends ∙ ap suc (back.later i (omega arith))
  ];
}

step_return : (e : Encoding) (p q : Position) (n b : ℕ) (text : List ℕ) → ends_line b (slice_index text 0) ≡ false → get_or text 0 0 ≡ 10 → 0 < n → Back e p q n text → Back e p q (suc n) (b ∷ text)
step_return e p q n b text ends feed some back = record {
  order = back.order;
  same = λ same.
      let none = column-feed e (q.character - p.character) text feed in
      let all = (back.same same).1 in
      absurd (omega arith);
  later = λ j far. total-more e j q.character b text ends ∙ ap suc (back.later j far);
}

step_char : (e : Encoding) (p r q : Position) (n b : ℕ) (text : List ℕ) → ends_line b (slice_index text 0) ≡ false → b ≢ 10 → b ≢ 13 → r.line ≡ p.line → r.character ≡ p.character + units e b → Back e r q n text → Back e p q (suc n) (b ∷ text)
step_char e p r q n b text ends no_feed no_return line character back = record {
  order = let o = back.order in omega arith;
  same = λ same.
      let here : q.line ≡ r.line = omega arith in
      let le = (back.same here).0 in
      let less : q.character - r.character ≡ q.character - p.character - units e b = omega arith in
      (omega arith, column-char e (q.character - p.character) (q.character - r.character) b text no_feed no_return (omega arith) less ∙ ap suc (back.same here).1);
  later = λ j far. total-more e j q.character b text ends ∙ ap suc (back.later j (omega arith));
}

after-end : (e : Encoding) (p : Position) (b next : ℕ) → ends_line b next ≡ true → after e p b next ≡ record { line = plus p.line 1; character = 0 }
after-end e p b next ends =
    ap (λ (t : Bool). if t then record { line = plus p.line 1; character = 0 } else if b == 13 then p else record { line = p.line; character = plus p.character (units e b) }) ends

after-return : (e : Encoding) (p : Position) (b next : ℕ) → ends_line b next ≡ false → (b == 13) ≡ true → after e p b next ≡ p
after-return e p b next ends return =
    ap (λ (t : Bool). if t then record { line = plus p.line 1; character = 0 } else if b == 13 then p else record { line = p.line; character = plus p.character (units e b) }) ends
    ∙ ap (λ (t : Bool). if t then p else record { line = p.line; character = plus p.character (units e b) }) return

after-char : (e : Encoding) (p : Position) (b next : ℕ) → ends_line b next ≡ false → (b == 13) ≡ false → after e p b next ≡ record { line = p.line; character = plus p.character (units e b) }
after-char e p b next ends return =
    ap (λ (t : Bool). if t then record { line = plus p.line 1; character = 0 } else if b == 13 then p else record { line = p.line; character = plus p.character (units e b) }) ends
    ∙ ap (λ (t : Bool). if t then p else record { line = p.line; character = plus p.character (units e b) }) return

not_feed : (b next : ℕ) → ends_line b next ≡ false → b ≢ 10
not_feed b next ends = grind (arith, nat_tests)

not_return : (b : ℕ) → (b == 13) ≡ false → b ≢ 13
not_return b other = grind (arith, nat_tests)

feed_after : (b next : ℕ) → ends_line b next ≡ false → (b == 13) ≡ true → next ≡ 10
feed_after b next ends return = grind (arith, nat_tests)

back : (e : Encoding) (p : Position) (n : ℕ) (text : List ℕ) → n ≤ length text → (n < length text → 128 ≤ get_or text n 0 → 192 ≤ get_or text n 0) → ((k : ℕ) → n ≡ suc k → get_or text k 0 ≡ 13 → get_or text n 0 ≡ 10 → ⊥) → p.line + length text ≤ largest → p.character + 4 * length text ≤ largest → Back e p (position_from e p n text) n text
unfolding position_from
back e p zero text within between whole lines characters = record {
  order = omega arith;
  same = λ same.
      let none : p.character - p.character ≡ 0 = omega arith in
      (omega arith, ap (λ c. column e c text) none ∙ column-none e text between);
  later = λ j far. absurd (omega arith);
}
back e p (suc n) [] within between whole lines characters = absurd (omega arith)
back e p (suc n) (b ∷ text) within between whole lines characters =
    let next = slice_index text 0 in
    let few = few_units e b in
    elim (cases_Bool (ends_line b (slice_index text 0))) [
      | inl ends ↦
          let r_is = after-end e p b next ends in
          let line : (after e p b next).line ≡ p.line + 1 = ap (λ (r : Position). r.line) r_is ∙ omega arith in
          let character : (after e p b next).character ≡ 0 = ap (λ (r : Position). r.character) r_is in
          step_end e p (after e p b next) (position_from e (after e p b next) n text) n b text ends line character
          (back e (after e p b next) n text (omega arith) (λ lt big. between (omega arith) big) (λ k is return feed. whole (suc k) (ap suc is) return feed) (omega arith) (omega arith))
      | inr go ↦ elim (cases_Bool (b == 13)) [
        | inl return ↦
            let feed : get_or text 0 0 ≡ 10 = feed_after b next go return in
            let some : 0 < n = elim (cases_lt 0 n) [
              | inl lt ↦ lt
              | inr ge ↦
                  let none : n ≡ 0 = omega arith in
                  absurd (whole 0 (ap suc none) (eqb-true b 13 return) (ap (λ k. get_or text k 0) none ∙ feed))
            ] in
            let r_is = after-return e p b next go return in
            let line : (after e p b next).line ≡ p.line = ap (λ (r : Position). r.line) r_is in
            let character : (after e p b next).character ≡ p.character = ap (λ (r : Position). r.character) r_is in
            let rest = back e (after e p b next) n text (omega arith) (λ lt big. between (omega arith) big) (λ k is return feed. whole (suc k) (ap suc is) return feed) (omega arith) (omega arith) in
            step_return e p (position_from e (after e p b next) n text) n b text go feed some
            (subst (λ (r : Position). Back e r (position_from e (after e p b next) n text) n text) r_is rest)
        | inr other ↦
            let r_is = after-char e p b next go other in
            let line : (after e p b next).line ≡ p.line = ap (λ (r : Position). r.line) r_is in
            let character : (after e p b next).character ≡ p.character + units e b = ap (λ (r : Position). r.character) r_is ∙ omega arith in
            step_char e p (after e p b next) (position_from e (after e p b next) n text) n b text go (not_feed b next go) (not_return b other) line character
            (back e (after e p b next) n text (omega arith) (λ lt big. between (omega arith) big) (λ k is return feed. whole (suc k) (ap suc is) return feed) (omega arith) (omega arith))
      ]
    ]

pub positions_return : PositionsReturn
positions_return e text at short between apart =
    let q = position_from e first at text in
    let found = back e first at text between.0 between.1 (λ k is return feed. apart (k, is, return, feed)) (omega arith) (omega arith) in
    elim (cases_lt 0 q.line) [
      | inl far ↦
          let line : q.line ≡ 0 + suc (q.line - 1) = omega arith in
          let count : q.line ≡ suc (q.line - 1) = omega arith in
          ap (λ l. total e l q.character text) count ∙ found.later (q.line - 1) line
      | inr near ↦
          let line : q.line ≡ 0 = omega arith in
          let all : q.character ≡ q.character - 0 = omega arith in
          ap (λ l. total e l q.character text) line ∙ total-zero e q.character text ∙ ap (λ c. column e c text) all ∙ (found.same line).1
    ]

-- ---- characters

inside_none : (e : Encoding) (bits : ℕ) → units e (128 + bits % 64) ≡ 0
inside_none e bits = grind (arith, nat_tests)

pub units-encode : (e : Encoding) (c : ℕ) → c < 1114112 → sum_by (units e) (encode c) ≡ code_units e c
unfolding encode
units-encode Utf8 c small = elim (cases_lt c 128) [
  | inl one ↦ grind (arith, nat_tests, inside_none)
  | inr more ↦ elim (cases_lt c 2048) [
    | inl two ↦ grind (arith, nat_tests, inside_none)
    | inr much ↦ elim (cases_lt c 65536) [
      | inl three ↦ grind (arith, nat_tests, inside_none)
      | inr four ↦ grind (arith, nat_tests, inside_none)
    ]
  ]
]
units-encode Utf16 c small = elim (cases_lt c 128) [
  | inl one ↦ grind (arith, nat_tests, inside_none)
  | inr more ↦ elim (cases_lt c 2048) [
    | inl two ↦ grind (arith, nat_tests, inside_none)
    | inr much ↦ elim (cases_lt c 65536) [
      | inl three ↦ grind (arith, nat_tests, inside_none)
      | inr four ↦ grind (arith, nat_tests, inside_none)
    ]
  ]
]
units-encode Utf32 c small = elim (cases_lt c 128) [
  | inl one ↦ grind (arith, nat_tests, inside_none)
  | inr more ↦ elim (cases_lt c 2048) [
    | inl two ↦ grind (arith, nat_tests, inside_none)
    | inr much ↦ elim (cases_lt c 65536) [
      | inl three ↦ grind (arith, nat_tests, inside_none)
      | inr four ↦ grind (arith, nat_tests, inside_none)
    ]
  ]
]
