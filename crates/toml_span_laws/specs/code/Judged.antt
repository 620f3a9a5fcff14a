-- What is at an offset in a text.
use Rattle.std.specs.Prelude.{◌≡◌, ◌≤◌, ◌+◌, ℕ, true, List, Result, Ok, Err, Option}
use Rattle.std.specs.Str.{IsCharBoundary}
use Rattle.toml_span_lex.specs.Bytes.{is_blank, is_keylike, MaximalRun}
use Rattle.toml_span_lex.specs.Laws.{HasTokenOrFault}
use Rattle.toml_span_tree.specs.Node.{Scalar}
use Rattle.toml_span_read.specs.declared.fault.Fault.{Fault}
use Rattle.toml_span_read.specs.code.Gaps.{DotGives, TailGives}
use Rattle.toml_span_read.specs.Gaps.{MaximalGap}
use Rattle.toml_span_read.specs.Dates.{begins_date}
use Rattle.toml_span_read.specs.Read as read

-- j is i or after it, and is a character boundary.
abbrev pub Onto : List ℕ → ℕ → ℕ → Type 0
Onto text i j = (i ≤ j) × IsCharBoundary text j

-- If something was read, rather than a fault, it ends after i, at a character boundary.
abbrev pub EndsPast : {A : Type 0} → List ℕ → ℕ → Result (A × ℕ) Fault → Type 0
EndsPast text i (Ok found) = Onto text (i + 1) found.1
EndsPast text i (Err fault) = Unit {0}

-- What is at i: a token, a fault or the end of the text; a gap, a run of spaces and tabs, and a run of bare-key bytes
-- (each may be empty); a dot or no dot; the rest of a line or something else; and, if a date or time begins at i, this
-- date or time, or its fault.
pub record Judged (text : List ℕ) (i : ℕ) : Type 0 where
  pub stands : HasTokenOrFault text i
  pub gap : (j : ℕ) × MaximalGap text i j × Onto text i j
  pub blank : (j : ℕ) × MaximalRun is_blank text i j × Onto text i j
  pub run : (j : ℕ) × MaximalRun is_keylike text i j × Onto text i j
  pub dot : (found : Option ℕ) × DotGives text i found
  pub tail : (found : Result ℕ ℕ) × TailGives text i found
  pub date : begins_date text i ≡ true
      → (found : Result (Scalar × ℕ) Fault) × read.date text i found × EndsPast text i found
