-- Where a text may be cut.
use Rattle.std.proofs.Common.{◌≡◌, ◌∙◌, ◌≤◌, ◌&&◌, ◌||◌, ℕ, suc, List, true, false, ap, arith, get_or, inl, inr, length, nat_le, nat_lt}
use Rattle.std.proofs.lemmas.Bool.{cases_eq, le-leb}
use Rattle.std.proofs.lemmas.Bool.Decides.{leb_tells}
use Rattle.std.proofs.lemmas.List.{get_or_past}
use Rattle.std.specs.Str.{IsCharBoundary}
use Rattle.toml_span_check.specs.Folders.{is_boundary}

lead : (text : List ℕ) (at : ℕ) → IsCharBoundary text at → 128 ≤ get_or text at 0 → 192 ≤ get_or text at 0
lead text at cut large =
    elim (cases_eq at (length text)) [
      | inl end ↦ let past = get_or_past text at 0 (omega arith) in absurd (omega arith)
      | inr inside ↦ cut.1 (omega (arith, cut.0)) large
    ]

pub boundary : (text : List ℕ) (at : ℕ) → IsCharBoundary text at → is_boundary text at ≡ true
boundary text at cut =
    let b = get_or text at 0 in
    let first = ap (λ t. t && (nat_lt b 128 || nat_le 192 b)) (le-leb at (length text) cut.0) in
    elim (leb_tells (suc b) 128) [
      | inl small ↦ first ∙ ap (λ t. t || nat_le 192 b) small.0
      | inr large ↦ first ∙ ap (λ t. t || nat_le 192 b) large.0 ∙ le-leb 192 b (lead text at cut (omega (arith, large.1)))
    ]

pub no-boundary : (text : List ℕ) (at : ℕ) → (IsCharBoundary text at → ⊥) → is_boundary text at ≡ false
no-boundary text at uncut =
    let b = get_or text at 0 in
    elim (leb_tells at (length text)) [
      | inr past ↦ ap (λ t. t && (nat_lt b 128 || nat_le 192 b)) past.0
      | inl within ↦
          let first = ap (λ t. t && (nat_lt b 128 || nat_le 192 b)) within.0 in
          elim (leb_tells (suc b) 128) [
            | inl small ↦ absurd (uncut (within.1, λ short large. absurd (omega (arith, small.1))))
            | inr large ↦
                elim (leb_tells 192 b) [
                  | inl high ↦ absurd (uncut (within.1, λ short large. high.1))
                  | inr middle ↦ first ∙ ap (λ t. t || nat_le 192 b) large.0 ∙ middle.0
                ]
          ]
    ]
