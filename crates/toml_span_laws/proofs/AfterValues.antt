-- What follows a value in a document does not continue it.
use Rattle.toml_span_lex.proofs.Common.{◌≡◌, ℕ, ◌+◌, true, false, List, [], ◌∷◌, length, get_or, drop, arith, inl, inr, refl, sym, ◌∙◌, cases_lt, get_or_past, nat_tests, common_steps, ◌⊎◌}
use Rattle.std.proofs.lemmas.List.{get_or-drop}
use Rattle.toml_span_lex.specs.Bytes.{is_blank, MaximalRun}
use Rattle.toml_span_lex.specs.Text.{LineEnd}
use Rattle.toml_span_read.specs.Again.{may_follow}
use Rattle.toml_span_read.specs.Dates.{is_date_byte}
use Rattle.toml_span_read.specs.Gaps.{GapPiece, GapBy, MaximalGap, Separator, Closes, Tail}
use Rattle.toml_span_read.specs.Keys.{opens_string}

-- the byte does not continue a value
abbrev Breaks : ℕ → Type 0
Breaks c = (is_date_byte c ≡ false) × (opens_string c ≡ false)

off : (text : List ℕ) (i : ℕ) → Breaks (get_or text i 0) → (get_or text i 0 ≡ 32 → Breaks (get_or text (i + 1) 0)) → may_follow (drop i text) ≡ true
off text i h next =
    let first : get_or (drop i text) 0 0 ≡ get_or text i 0 = grind (arith, nat_tests, common_steps, get_or-drop) in
    let second : get_or (drop i text) 1 0 ≡ get_or text (i + 1) 0 = grind (arith, nat_tests, common_steps, get_or-drop) in
    grind (arith, nat_tests, common_steps)

-- ---- gaps

blank_breaks : (c : ℕ) → is_blank c ≡ true → Breaks c
blank_breaks c h = grind (arith, nat_tests, common_steps)

line_breaks : (text : List ℕ) (i j : ℕ) → LineEnd text i j → Breaks (get_or text i 0)
line_breaks text i j h = grind (arith, nat_tests, common_steps)

piece_breaks : (text : List ℕ) (i j : ℕ) → GapPiece text i j → Breaks (get_or text i 0)
piece_breaks text i j (inl h) = blank_breaks (get_or text i 0) h.0
piece_breaks text i j (inr (inl h)) = line_breaks text i j h
piece_breaks text i j (inr (inr h)) = rw h.0 (refl, refl)

gap_breaks : (text ns : List ℕ) (i j : ℕ) → GapBy text i ns j → Breaks (get_or text j 0) → Breaks (get_or text i 0)
gap_breaks text [] i j e h = rw e h
gap_breaks text (n ∷ ns) i j (p, more) h = piece_breaks text i n p

gap_next : (text ns : List ℕ) (i j : ℕ) → GapBy text i ns j → Breaks (get_or text j 0) → (get_or text j 0 ≡ 32 → ⊥) → get_or text i 0 ≡ 32 → Breaks (get_or text (i + 1) 0)
gap_next text [] i j e h other is = absurd (other (rw e at is))
gap_next text (n ∷ ns) i j (inl p, more) h other is = gap_breaks text ns (i + 1) j (rw (p.1) at more) h
gap_next text (n ∷ ns) i j (inr (inl p), more) h other is = grind (arith, nat_tests, common_steps)
gap_next text (n ∷ ns) i j (inr (inr p), more) h other is = absurd (omega (arith, p.0, is))

after_gap : (text : List ℕ) (i j : ℕ) → MaximalGap text i j → Breaks (get_or text j 0) → (get_or text j 0 ≡ 32 → ⊥) → may_follow (drop i text) ≡ true
after_gap text i j g h other = off text i (gap_breaks text g.ends i j g.pieces h) (λ e. gap_next text g.ends i j g.pieces h other e)

pub after_closes : (c : ℕ) (text : List ℕ) (i j : ℕ) → Breaks c → (c ≡ 32 → ⊥) → Closes c text i j → may_follow (drop i text) ≡ true
after_closes c text i j h other g = after_gap text i g.at g.before (rw (g.here) h) (λ e. other (sym g.here ∙ e))

pub after_separator : (c : ℕ) (text : List ℕ) (i j : ℕ) → Breaks c → (c ≡ 32 → ⊥) → Separator c text i j → may_follow (drop i text) ≡ true
after_separator c text i j h other g = after_gap text i g.at g.before (rw (g.here) h) (λ e. other (sym g.here ∙ e))

-- ---- the rest of a line

tail_end : (text : List ℕ) (k j : ℕ) → LineEnd text k j ⊎ ((k ≡ length text) × (j ≡ k)) → Breaks (get_or text k 0) × (get_or text k 0 ≡ 32 → ⊥)
tail_end text k j (inl h) = (line_breaks text k j h, grind (arith, nat_tests, common_steps))
tail_end text k j (inr (e, h)) = rw (get_or_past text k 0 (omega arith)) ((refl, refl), λ z. absurd (omega arith))

rest_breaks : (text : List ℕ) (i j : ℕ) → MaximalRun is_blank text i j → Breaks (get_or text j 0) → Breaks (get_or text i 0)
rest_breaks text i j r h = elim (cases_lt i j) [
  | inl some ↦ blank_breaks (get_or text i 0) (r.passes i (omega arith) some)
  | inr none ↦ let e : i ≡ j = omega (arith, r.forward) in rw e h
]

rest_next : (text : List ℕ) (i j : ℕ) → MaximalRun is_blank text i j → Breaks (get_or text j 0) → (get_or text j 0 ≡ 32 → ⊥) → get_or text i 0 ≡ 32 → Breaks (get_or text (i + 1) 0)
rest_next text i j r h other is = elim (cases_lt i j) [
  | inl some ↦ elim (cases_lt (i + 1) j) [
    | inl more ↦ blank_breaks (get_or text (i + 1) 0) (r.passes (i + 1) (omega arith) more)
    | inr last ↦ let e : i + 1 ≡ j = omega arith in rw e h
  ]
  | inr none ↦ let e : i ≡ j = omega (arith, r.forward) in absurd (other (rw e at is))
]

after_run : (text : List ℕ) (i j : ℕ) → MaximalRun is_blank text i j → Breaks (get_or text j 0) → (get_or text j 0 ≡ 32 → ⊥) → may_follow (drop i text) ≡ true
after_run text i j r h other = off text i (rest_breaks text i j r h) (λ e. rest_next text i j r h other e)

pub after_tail : (text : List ℕ) (i j : ℕ) → Tail text i j → may_follow (drop i text) ≡ true
after_tail text i j (k, s, end) = elim s.comment [
  | inl comment ↦ after_run text i s.at s.blank (rw (comment.0) (refl, refl)) (λ e. absurd (omega (arith, comment.0, e)))
  | inr none ↦ let z = tail_end text k j end in after_run text i s.at s.blank (rw (sym none.1) z.0) (λ e. z.1 (rw (sym none.1) at e))
]
