-- A table of classes is held against a definition at each of the 256 bytes, by computing.
use Rattle.toml_span_lex.proofs.Common.{common_steps, nat_tests, ◌≡◌, ℕ, zero, suc, ◌<◌, Bool, true, ◌&&◌, List, arith, inl, inr, not, nat_eq, bit_and, get_or, cases_eq}
use Rattle.std.specs.Bool.{beq}

-- the two tests agree below n
unfoldable pub agree_below : (ℕ → Bool) → (ℕ → Bool) → ℕ → Bool
agree_below f g zero = true
agree_below f g (suc n) = beq (f n) (g n) && agree_below f g n

both_of : (x y rest : Bool) → (beq x y && rest) ≡ true → (x ≡ y) × (rest ≡ true)
both_of x y rest h = grind (arith, nat_tests, common_steps)

pub agree_at : (f g : ℕ → Bool) (n : ℕ) → agree_below f g n ≡ true → (b : ℕ) → b < n → f b ≡ g b
unfolding agree_below
agree_at f g zero h b lt = absurd (omega arith)
agree_at f g (suc n) h b lt =
    let both = both_of (f n) (g n) (agree_below f g n) h in
    elim (cases_eq b n) [ inl same ↦ rw same both.0 | inr other ↦ agree_at f g n both.1 b (omega arith) ]

-- the table gives this class to the byte
abbrev pub has_class : List ℕ → ℕ → ℕ → Bool
has_class table class b = not (nat_eq (bit_and (get_or table b 0) class) 0)

pub from_table : (table : List ℕ) (class : ℕ) (test : ℕ → Bool) (b : ℕ) → b < 256 → agree_below (has_class table class) test 256 ≡ true → has_class table class b ≡ test b
from_table table class test b lt h = agree_at _ _ 256 h b lt
