-- Edits of a whole text.
use Rattle.toml_span_lex.proofs.Common.{◌≡◌, ℕ, ◌<◌, ◌≤◌, true, List, [], ◌∷◌, ◌++◌, length, drop, get_or, arith, refl, nat_tests, common_steps, IsUtf8, IsCharBoundary-start, drop_all, append-nil}
use Rattle.toml_span_lex.specs.declared.span.Span.{Span}
use Rattle.toml_span_places.specs.Replace.{is_boundary, replaced}
use Rattle.toml_span_editor.specs.Edits.{ChangesInto}

boundary_first : (text : List ℕ) → IsUtf8 text → is_boundary text 0 ≡ true
boundary_first [] utf8 = refl
boundary_first (b ∷ text) utf8 =
    let between = IsCharBoundary-start (b ∷ text) utf8 in
    grind (arith, nat_tests, common_steps)

boundary_last : (text : List ℕ) → is_boundary text (length text) ≡ true
boundary_last text = grind (arith, nat_tests, common_steps)

-- one edit can replace a whole text
pub whole_changes_into : (old new : List ℕ) → IsUtf8 old → ChangesInto old ((record { start = 0; end = length old }, new) ∷ []) new
unfolding ChangesInto
whole_changes_into old new utf8 =
    let start = boundary_first old utf8 in
    let end = boundary_last old in
    let rest = drop_all (length old) old (omega arith) in
    grind (arith, nat_tests, common_steps)
