-- The gap before a form consists of blank lines, and the spaces and tabs before it.
use Rattle.toml_span_lex.proofs.Common.{◌≡◌, ℕ, ◌+◌, ◌-◌, zero, suc, ◌<◌, ◌≤◌, ◌⊎◌, true, false, List, [], ◌∷◌, ◌++◌, length, get_or, arith, inl, inr, sym, refl, ◌==◌, nat_tests, common_steps}
use Rattle.toml_span_lex.specs.Bytes.{is_blank, is_printed, MaximalRun}
use Rattle.toml_span_lex.specs.Text.{LineEnd}
use Rattle.toml_span_read.specs.Gaps.{GapPiece, GapBy, MaximalGap, begins_gap, Skipped, Tail, BlankLines, AfterLines}
use Rattle.toml_span_read.proofs.InsideLemmas.{tail_inside}

-- blank lines, and the spaces and tabs after them
abbrev pub Blank : List ℕ → ℕ → ℕ → Type 0
Blank text i j = (ks : List ℕ) × (k : ℕ) × BlankLines text i ks k × MaximalRun is_blank text k j

empty_run : (text : List ℕ) (j : ℕ) → j ≤ length text → is_blank (get_or text j 0) ≡ false → MaximalRun is_blank text j j
empty_run text j l h = record { forward = omega arith; within = l; passes = λ k a b. absurd (omega (arith, a, b)); stops = λ x. h }

-- one more blank before a run
longer_run : (text : List ℕ) (i j : ℕ) → is_blank (get_or text i 0) ≡ true → MaximalRun is_blank text (i + 1) j → MaximalRun is_blank text i j
longer_run text i j h r = grind (arith, nat_tests, common_steps)

longer_tail : (text : List ℕ) (i j : ℕ) → is_blank (get_or text i 0) ≡ true → Tail text (i + 1) j → Tail text i j
longer_tail text i j h (k, s, e) = (k, record { at = s.at; blank = longer_run text i s.at h s.blank; comment = s.comment }, e)

add_blank : (text : List ℕ) (i j : ℕ) → is_blank (get_or text i 0) ≡ true → Blank text (i + 1) j → Blank text i j
add_blank text i j h ([], k, e, r) = ([], i, refl, longer_run text i j h (rw (sym e) at r))
add_blank text i j h (m ∷ ms, k, l, r) = (m ∷ ms, k, (longer_tail text i m h l.0, l.1), r)

-- ---- a line end, or a comment, before blank lines

line_tail : (text : List ℕ) (i n : ℕ) → LineEnd text i n → Tail text i n
line_tail text i n h = grind (arith, nat_tests, common_steps)

comment_skipped : (text : List ℕ) (i n : ℕ) → get_or text i 0 ≡ 35 → MaximalRun is_printed text i n → Skipped text i n
comment_skipped text i n h r = grind (arith, nat_tests, common_steps)

add_comment : (text : List ℕ) (i n j : ℕ) → get_or text i 0 ≡ 35 → MaximalRun is_printed text i n → AfterLines text j → Blank text n j → Blank text i j
add_comment text i n j h r d ([], k, e, run) =
    let run' : MaximalRun is_blank text n j = rw (sym e) at run in
    let z : n ≡ length text = grind (arith, nat_tests, common_steps) in
    (n ∷ [], n, ((n, comment_skipped text i n h r, inr (z, refl)), refl), run')
add_comment text i n j h r d (m ∷ ms, k, ((q, s, e), l), run) =
    let f : q ≡ n = grind (arith, nat_tests, common_steps) in
    (m ∷ ms, k, ((n, comment_skipped text i n h r, (rw f at e)), l), run)

blank_of : (ks : List ℕ) (text : List ℕ) (i j : ℕ) → GapBy text i ks j → begins_gap text j ≡ false → AfterLines text j → j ≤ length text → Blank text i j
blank_of [] text i j e n d l = ([], i, refl, rw e (empty_run text j l (grind (arith, nat_tests, common_steps))))
blank_of (k ∷ ks) text i j (inl (b, e), rest) n d l = add_blank text i j b (rw e at (blank_of ks text k j rest n d l))
blank_of (k ∷ ks) text i j (inr (inl h), rest) n d l =
    let r = blank_of ks text k j rest n d l in (k ∷ r.0, r.1, (line_tail text i k h, r.2), r.3)
blank_of (k ∷ ks) text i j (inr (inr (h, r)), rest) n d l = add_comment text i k j h r d (blank_of ks text k j rest n d l)

pub gap_lines : (text : List ℕ) (i j : ℕ) → MaximalGap text i j → AfterLines text j → (ks : List ℕ) × (k : ℕ) × BlankLines text i ks k × MaximalRun is_blank text k j
gap_lines text i j g d = blank_of g.ends text i j g.pieces g.stops d (grind (arith, nat_tests, common_steps))

-- ---- and conversely

gap_join : (ks ls : List ℕ) (text : List ℕ) (i j k : ℕ) → GapBy text i ks j → GapBy text j ls k → GapBy text i (ks ++ ls) k
gap_join [] ls text i j k a b = rw a b
gap_join (m ∷ ms) ls text i j k (p, a) b = (p, gap_join ms ls text m j k a b)

abbrev Gap : List ℕ → ℕ → ℕ → Type 0
Gap text i j = (ks : List ℕ) × GapBy text i ks j

join : (text : List ℕ) (i j k : ℕ) → Gap text i j → Gap text j k → Gap text i k
join text i j k (ks, a) (ls, b) = (ks ++ ls, gap_join ks ls text i j k a b)

one : (text : List ℕ) (i j : ℕ) → GapPiece text i j → Gap text i j
one text i j p = (j ∷ [], (p, refl))

blanks_gap : (d : ℕ) (text : List ℕ) (i j : ℕ) → j ≡ i + d → ((k : ℕ) → i ≤ k → k < j → is_blank (get_or text k 0) ≡ true) → Gap text i j
blanks_gap zero text i j e h = ([], omega (arith, e))
blanks_gap (suc d) text i j e h =
    join text i (i + 1) j (one text i (i + 1) (inl (h i (omega arith) (omega (arith, e)), refl))) (blanks_gap d text (i + 1) j (omega (arith, e)) (λ k a b. h k (omega (arith, a)) b))

run_gap : (text : List ℕ) (i j : ℕ) → MaximalRun is_blank text i j → Gap text i j
run_gap text i j r = blanks_gap (j - i) text i j (omega (arith, r.forward)) r.passes

comment_gap : (text : List ℕ) (i j : ℕ) → ((get_or text i 0 ≡ 35) × MaximalRun is_printed text i j) ⊎ (((get_or text i 0 == 35) ≡ false) × (j ≡ i)) → Gap text i j
comment_gap text i j h = grind (arith, nat_tests, common_steps, one)

end_gap : (text : List ℕ) (i j : ℕ) → LineEnd text i j ⊎ ((i ≡ length text) × (j ≡ i)) → Gap text i j
end_gap text i j h = grind (arith, nat_tests, common_steps, one)

tail_gap : (text : List ℕ) (i j : ℕ) → Tail text i j → Gap text i j
tail_gap text i j (k, s, e) = join text i s.at j (run_gap text i s.at s.blank) (join text s.at k j (comment_gap text s.at k s.comment) (end_gap text k j e))

lines_gap : (ks : List ℕ) (text : List ℕ) (i j : ℕ) → BlankLines text i ks j → Gap text i j
lines_gap [] text i j e = ([], e)
lines_gap (k ∷ ks) text i j (t, l) = join text i k j (tail_gap text i k t) (lines_gap ks text k j l)

lines_forward : (ks : List ℕ) (text : List ℕ) (i j : ℕ) → BlankLines text i ks j → i ≤ j
lines_forward [] text i j e = omega (arith, e)
lines_forward (k ∷ ks) text i j (t, l) = omega (arith, (tail_inside text i k t).0, lines_forward ks text k j l)

pub lines_are_gap : (text : List ℕ) (i j k : ℕ) (ks : List ℕ) → BlankLines text i ks k → MaximalRun is_blank text k j → begins_gap text j ≡ false → MaximalGap text i j
lines_are_gap text i j k ks l r n =
    grind (arith, nat_tests, common_steps, join text i k j (lines_gap ks text i k l) (run_gap text k j r), lines_forward ks text i k l, lines_gap ks text i k l, run_gap text k j r)
