-- Character boundaries of a text.
use Rattle.toml_span_lex.proofs.Common.{common_steps, nat_tests, ◌≡◌, ℕ, ◌+◌, ◌<◌, Bool, true, false, List, [], ◌∷◌, ◌++◌, length, get_or, arith, refl, inl, inr, IsUtf8, IsCharBoundary, IsCharBoundary-after_ascii, cases_lt, get_or_past}
use Rattle.toml_span_read.specs.Gaps.{GapPiece, GapBy}
use Rattle.toml_span_read.specs.code.Gaps.{Further}
use Rattle.toml_span_lex.specs.Bytes.{MaximalRun}

-- a byte that is not 0 is within the text
pub read_within : (text : List ℕ) (i : ℕ) → 0 < get_or text i 0 → i < length text
read_within text i h = elim (cases_lt i (length text)) [ inl lt ↦ lt | inr ge ↦ let z : get_or text i 0 ≡ 0 = get_or_past text i 0 ge in absurd (omega arith) ]

-- after an ASCII byte
pub after_byte : (text : List ℕ) (i : ℕ) → IsUtf8 text → 0 < get_or text i 0 → get_or text i 0 < 128 → IsCharBoundary text (i + 1)
after_byte text i u s a = IsCharBoundary-after_ascii text i u (read_within text i s) a

pub further_byte : (text : List ℕ) (i : ℕ) → IsUtf8 text → 0 < get_or text i 0 → get_or text i 0 < 128 → Further text i (i + 1)
further_byte text i u s a = record { on = omega arith; boundary = after_byte text i u s a }

gap_longer : (text : List ℕ) (i j k : ℕ) (ks : List ℕ) → GapBy text i ks j → GapPiece text j k → GapBy text i (ks ++ (k ∷ [])) k
gap_longer text i j k [] e h = rw e (h, refl)
gap_longer text i j k (x ∷ xs) (a, b) h = (a, gap_longer text x j k xs b h)

pub gap_more : (text : List ℕ) (i j k : ℕ) → (ks : List ℕ) × GapBy text i ks j → GapPiece text j k → (ks : List ℕ) × GapBy text i ks k
gap_more text i j k (ks, g) h = (ks ++ (k ∷ []), gap_longer text i j k ks g h)

-- if a byte passes that is not 0, a run is not empty
pub run_some : (p : ℕ → Bool) (text : List ℕ) (i j : ℕ) → p 0 ≡ false → p (get_or text i 0) ≡ true → MaximalRun p text i j → i < j
run_some p text i j z h r = grind (arith, nat_tests, common_steps)
