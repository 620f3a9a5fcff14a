-- Where a line ends.
use Rattle.toml_span_lex.proofs.Common.{◌≡◌, ℕ, ◌+◌, ◌-◌, ◌<◌, ◌≤◌, List, length, drop, get_or, arith, position_or_len, IsCharBoundary, nat_tests, common_steps}
use Rattle.toml_span_report.specs.Places.{is_line_feed, line_end, without_return}

-- the line's end as it is found: the text up to the line feed
pub line_end-found : (text bytes rest : List ℕ) (at r : ℕ) → bytes ≡ text → rest ≡ drop at bytes → r ≡ position_or_len is_line_feed rest → at ≤ length text → r ≤ length rest →
    without_return bytes at (length bytes - (length rest - r)) ≡ line_end text at
unfolding line_end
line_end-found text bytes rest at r same back feed within short = grind (arith, nat_tests, common_steps)

-- the end of the text, or a line feed
pub end_boundary : (text : List ℕ) (at n end : ℕ) → end ≡ at + n → at ≤ length text → n ≤ length (drop at text) → (n < length (drop at text) → get_or (drop at text) n 0 ≡ 10) → IsCharBoundary text end
end_boundary text at n end e within short feed = grind (arith, nat_tests, common_steps)
