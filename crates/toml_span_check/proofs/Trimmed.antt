-- Spaces at the end of a line.
use Rattle.std.proofs.Common.{◌≡◌, ◌∙◌, ◌<◌, ◌≤◌, ◌==◌, ◌&&◌, ◌||◌, ap, sym, ℕ, ◌+◌, Bool, true, false, not, cond, List, [], ◌∷◌, ◌++◌}
use Rattle.std.proofs.Common.{append_assoc, arith, drop, get_or, inl, inr, length, refl, subst, take}
use Rattle.std.proofs.lemmas.Bool.{cases_eq, ne_eqb, eq-eqb}
use Rattle.std.proofs.lemmas.List.{drop_all, drop_more, take_more}
use Rattle.std.proofs.lemmas.Str.{IsCharBoundary-before_ascii, IsCharBoundary-end}
use Rattle.std.specs.Str.{IsCharBoundary}
use Rattle.toml_span_check.specs.Patterns.{is_nothing, kept, trimmed, without_spaces}

-- what is kept of a line, if `end` of its first `i` bytes would be kept at its end, and `rest` is kept of the others
abbrev pub kept_of : List ℕ → ℕ → ℕ → List ℕ → List ℕ
kept_of line i end rest = cond (is_nothing rest) (take end line) (take i line ++ rest)

-- the first `i` bytes of a line have been read, and from `end` on they are spaces
pub record Trims (line : List ℕ) (i end : ℕ) (escaped : Bool) : Type 0 where
  pub value : without_spaces line ≡ kept_of line i end (trimmed escaped (drop i line))
  pub before : end ≤ i
  pub spaces : (k : ℕ) → end ≤ k → k < i → get_or line k 0 ≡ 32

kept_of-start : (line rest : List ℕ) → rest ≡ kept_of line 0 0 rest
kept_of-start line [] = refl
kept_of-start line (x ∷ xs) = refl

pub trims-start : (line : List ℕ) → Trims line 0 0 false
trims-start line = record {
  value = kept_of-start line (without_spaces line);
  before = omega arith;
  spaces = λ k low high. absurd (omega arith);
}

kept_of-more : (line : List ℕ) (i end b : ℕ) (is_space : Bool) (rest : List ℕ) → take (i + 1) line ≡ take i line ++ b ∷ []
    → kept_of line i end (kept is_space b rest) ≡ kept_of line (i + 1) (cond is_space end (i + 1)) rest
kept_of-more line i end b true [] first = refl
kept_of-more line i end b false [] first = sym first
kept_of-more line i end b true (x ∷ xs) first = rw first (sym (append_assoc (take i line) (b ∷ []) (x ∷ xs)))
kept_of-more line i end b false (x ∷ xs) first = rw first (sym (append_assoc (take i line) (b ∷ []) (x ∷ xs)))

spaces-more : (line : List ℕ) (i end b next : ℕ) (escaped : Bool) → b ≡ get_or line i 0
    → next ≡ cond (not escaped && b == 32) end (i + 1)
    → ((k : ℕ) → end ≤ k → k < i → get_or line k 0 ≡ 32)
    → (k : ℕ) → next ≤ k → k < i + 1 → get_or line k 0 ≡ 32
spaces-more line i end b next true is ends before k low high = absurd (omega arith)
spaces-more line i end b next false is ends before k low high =
    elim (cases_eq b 32) [
      | inl space ↦
          let same : next ≡ end = ends ∙ ap (λ t. cond t end (i + 1)) (eq-eqb b 32 space) in
          elim (cases_eq k i) [
            | inl here ↦ ap (λ j. get_or line j 0) here ∙ sym is ∙ space
            | inr there ↦ before k (omega arith) (omega arith)
          ]
      | inr other ↦
          let past : next ≡ i + 1 = ends ∙ ap (λ t. cond t end (i + 1)) (ne_eqb b 32 other) in
          absurd (omega arith)
    ]

before-more : (i end : ℕ) (is_space : Bool) → end ≤ i → cond is_space end (i + 1) ≤ i + 1
before-more i end true before = omega arith
before-more i end false before = omega arith

other-way : (escaped space : Bool) (x y : ℕ) → cond (escaped || not space) y x ≡ cond (not escaped && space) x y
other-way true true x y = refl
other-way true false x y = refl
other-way false true x y = refl
other-way false false x y = refl

-- one more byte
pub trims-more : (line : List ℕ) (i end b next : ℕ) (escaped after stays : Bool) → i < length line → b ≡ get_or line i 0
    → stays ≡ (escaped || not (b == 32)) → next ≡ cond stays (i + 1) end → after ≡ (not escaped && b == 92)
    → Trims line i end escaped → Trims line (i + 1) next after
trims-more line i end b next escaped after stays fits is stays-is next-is after-is t =
    let ends : next ≡ cond (not escaped && b == 32) end (i + 1) =
    next-is ∙ ap (λ s. cond s (i + 1) end) stays-is ∙ other-way escaped (b == 32) end (i + 1) in
    let first : take (i + 1) line ≡ take i line ++ b ∷ [] = take_more line i 0 fits ∙ ap (λ x. take i line ++ x ∷ []) (sym is) in
    let rest : drop i line ≡ b ∷ drop (i + 1) line = drop_more line i 0 fits ∙ ap (λ x. x ∷ drop (i + 1) line) (sym is) in
    record {
      value =
          t.value
          ∙ ap (λ l. kept_of line i end (trimmed escaped l)) rest
          ∙ kept_of-more line i end b (not escaped && b == 32) (trimmed (not escaped && b == 92) (drop (i + 1) line)) first
          ∙ ap (λ e. kept_of line (i + 1) e (trimmed (not escaped && b == 92) (drop (i + 1) line))) (sym ends)
          ∙ ap (λ e. kept_of line (i + 1) next (trimmed e (drop (i + 1) line))) (sym after-is);
      before = rw ends (before-more i end (not escaped && b == 32) t.before);
      spaces = spaces-more line i end b next escaped is ends t.spaces;
    }

pub trims-end : (line : List ℕ) (i end : ℕ) (escaped : Bool) → length line ≤ i → Trims line i end escaped → take end line ≡ without_spaces line
trims-end line i end escaped all t = sym (t.value ∙ ap (λ l. kept_of line i end (trimmed escaped l)) (drop_all i line all))

-- a text may be cut at its end, and where a space follows
pub boundary-at-space : (bs : List ℕ) (i : ℕ) → i ≤ length bs → (i < length bs → get_or bs i 0 ≡ 32) → IsCharBoundary bs i
boundary-at-space bs i within space =
    elim (cases_eq i (length bs)) [
      | inl all ↦ subst (IsCharBoundary bs) (sym all) (IsCharBoundary-end bs)
      | inr part ↦
          let short : i < length bs = omega arith in
          let is = space short in
          IsCharBoundary-before_ascii bs i short (omega arith)
    ]
