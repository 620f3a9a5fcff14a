-- Where runs, line ends and contents begin and end, one place does.
use Rattle.toml_span_lex.proofs.Common.{common_steps, ◌≡◌, ℕ, ◌<◌, ◌≤◌, Bool, true, false, List, length, get_or, arith, ◌==◌, ◌||◌, not, nat_tests, or-true}
use Rattle.std.proofs.lemmas.Bool.{eq-eqb}
use Rattle.toml_span_lex.specs.Bytes.{MaximalRun, is_printed}
use Rattle.toml_span_lex.specs.Text.{LineEnd, NoLineEnd}
use Rattle.toml_span_lex.specs.Pieces.{WsAndNewlines}
use Rattle.toml_span_lex.specs.Strings.{ContentFrom}
use Rattle.toml_span_lex.proofs.One.{One, one_is, one_where, one_either}
use Rattle.toml_span_lex.proofs.Runs.{crlf_first}

-- ---- tests

pub or_true : (b : Bool) → (b || true) ≡ true
or_true = or-true

pub is_false : (b : Bool) → (b ≡ true → ⊥) → b ≡ false
is_false b h = grind (arith, nat_tests, common_steps)

pub same_true : (c q : ℕ) → c ≡ q → (c == q) ≡ true
same_true = eq-eqb

-- two bytes that a test tells apart
pub differs : (p : ℕ → Bool) (b k : ℕ) → p b ≡ not (p k) → (b == k) ≡ false
differs p b k h = grind (arith, nat_tests)

-- ---- runs

-- all places from i to j pass, and j, before n, does not
abbrev pub Stop : (ℕ → Bool) → ℕ → ℕ → ℕ → Type 0
Stop p n i j = (i ≤ j) × (j ≤ n) × ((k : ℕ) → i ≤ k → k < j → p k ≡ true) × (j < n → p j ≡ false)

pub stop_one : (p : ℕ → Bool) (n i : ℕ) → One (Stop p n i)
stop_one p n i j k a b = grind (arith, a.2, a.3, b.2, b.3)

pub run_unique : (p : ℕ → Bool) (text : List ℕ) (i j k : ℕ) → MaximalRun p text i j → MaximalRun p text i k → j ≡ k
run_unique p text i j k a b = stop_one (λ x. p (get_or text x 0)) (length text) i j k (a.forward, a.within, a.passes, a.stops) (b.forward, b.within, b.passes, b.stops)

pub gap_unique : (text : List ℕ) (i j k : ℕ) → WsAndNewlines text i j → WsAndNewlines text i k → j ≡ k
gap_unique text i j k a b = stop_one _ (length text) i j k (a.forward, a.within, a.passes, a.stops) (b.forward, b.within, b.passes, b.stops)

-- ---- line ends

pub line_unique : (text : List ℕ) (i j k : ℕ) → LineEnd text i j → LineEnd text i k → j ≡ k
line_unique text i = one_either (one_where one_is) (one_where one_is) (λ j k a b. omega (arith, a.0, crlf_first text i b.0))

pub line_not : (text : List ℕ) (i j : ℕ) → LineEnd text i j → NoLineEnd text i → ⊥
line_not text i j h n = grind (arith, nat_tests)

pub line_unprinted : (text : List ℕ) (i j : ℕ) → LineEnd text i j → is_printed (get_or text i 0) ≡ false
line_unprinted text i j h = grind (arith, nat_tests)

pub from_unique : (m : Bool) (text : List ℕ) (i : ℕ) → One (ContentFrom m text i)
from_unique m text i = grind (arith, nat_tests, common_steps)
