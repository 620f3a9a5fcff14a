-- The results of the functions for characters and line ends.
use Rattle.std.specs.Prelude.{ℕ, List, Result, Ok, Err, Option, Some, None}
use Rattle.toml_span_lex.specs.Text.{LineEnd, NoLineEnd}

abbrev pub LineEndGives : List ℕ → ℕ → Option ℕ → Type 0
LineEndGives text i (Some j) = LineEnd text i j
LineEndGives text i None = NoLineEnd text i

-- P holds for the offset in the result, whether that is `Ok` or `Err`.
abbrev pub LeadsTo : {A E : Type 0} → (ℕ → Type 0) → Result (A × ℕ) (E × ℕ) → Type 0
LeadsTo P (Ok found) = P found.1
LeadsTo P (Err fault) = P fault.1
