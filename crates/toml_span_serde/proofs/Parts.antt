-- The pieces of a row before one of them.
use Rattle.toml_span_lex.proofs.Common.{ℕ, ◌+◌, ◌-◌, ◌<◌, ◌≤◌, ◌≡◌, ◌⊎◌, inl, inr, List, length, map, take, sym, ap, ◌∙◌, Option, None, Some, Bor, arith, take-map, slice_range, MatchOption, unwrap_or, nat_tests, common_steps}
use Rattle.toml_span_serde.specs.Tasks.{piece_of}
use Rattle.toml_span_serde.specs.declared.pieces.Piece.{Piece as Made}

-- all of them, if the row has no such piece
pub before-is : (all : Bor (List Made)) (at : ℕ) (got : Option (Bor (List Made))) (part : Bor (List Made)) →
    MatchOption got ((at < 0) ⊎ (length all.now < at))
    (λ r. (0 ≤ at) × (at ≤ length all.now) × (r.now ≡ slice_range all.now 0 at) × (length r.now + 0 ≡ at)) →
    part ≡ unwrap_or got all → map piece_of part.now ≡ take at (map piece_of all.now)
before-is all at None part (inl less) is = absurd (omega (arith, less))
before-is all at None part (inr past) is = grind (arith, nat_tests, common_steps)
before-is all at (Some got) part found is =
    let same : at - 0 ≡ at = omega arith in
    let cut : slice_range all.now 0 at ≡ take at all.now = ap (λ n. take n all.now) same in
    ap (λ p. map piece_of p.now) is ∙ ap (map piece_of) (found.2 ∙ cut) ∙ sym (take-map piece_of at all.now)
