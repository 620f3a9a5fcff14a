-- Character boundaries.
use Rattle.toml_span_lex.proofs.Common.{◌≡◌, ◌≤◌, ◌<◌, ℕ, ◌+◌, ◌-◌, false, List, length, drop, get_or, sym, arith, subst, slice_range, length-drop, IsUtf8, IsCharBoundary, get_or-take, bytes_eq-Decides, IsCharBoundary-start, IsCharBoundary-from_take, IsCharBoundary-from_rest, IsUtf8-drop, nat_tests, common_steps}
use Rattle.std.proofs.lemmas.List.{get_or-drop}
use Rattle.toml_span_read.proofs.NumberLemmas.{range_length}
use Rattle.toml_span_c.specs.Records.{is_written_at}
use Rattle.toml_span_lex.specs.declared.span.Span.{Span}

-- a text that occurs in another begins and ends at a character boundary, unless it is empty
pub cut-around : (d t : List ℕ) (i j : ℕ) → IsUtf8 d → IsUtf8 t → i ≤ j → j ≤ length d → 0 < length t
    → slice_range d i j ≡ t → IsCharBoundary d i × IsCharBoundary d j
cut-around d t i j whole part forward inside some is =
    let n = j - i in
    let first : get_or t 0 0 ≡ get_or d i 0 = grind (arith, nat_tests, common_steps, get_or-take n (drop i d) 0 0, get_or-drop i d 0 0) in
    let begins = IsCharBoundary-start t part in
    let opens : IsCharBoundary d i = (omega arith, λ below high. omega (arith, first, begins.1 some (omega (arith, first)))) in
    let rest = IsUtf8-drop d i whole opens in
    let closes = IsCharBoundary-from_rest d i n (omega arith) (IsCharBoundary-from_take (drop i d) n rest (omega (arith, length-drop i d)) (subst IsUtf8 (sym is) part)) in
    let same : i + n ≡ j = omega arith in
    (opens, subst (λ k. IsCharBoundary d k) same closes)

-- where there is no character boundary, only an empty text can occur
pub uncut-differs : (d t : List ℕ) (span : Span) → IsUtf8 d → IsUtf8 t → (span.start ≡ span.end → length d < span.end)
    → (span.start ≤ span.end → IsCharBoundary d span.start → ¬ IsCharBoundary d span.end) → is_written_at d span t ≡ false
uncut-differs d t span whole part apart uncut = grind (arith, nat_tests, common_steps, cut-around d t, range_length d, bytes_eq-Decides (slice_range d span.start span.end) t)
