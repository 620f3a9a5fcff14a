-- What the functions for gaps and separators return.
use Rattle.std.specs.Prelude.{◌≡◌, ℕ, ◌<◌, ◌≤◌, false, ◌==◌, List, slice_index, Result, Ok, Err, Option, Some, None}
use Rattle.std.specs.Str.{IsCharBoundary}
use Rattle.toml_span_lex.specs.Bytes.{is_blank, MaximalRun, comma, equals}
use Rattle.toml_span_read.specs.Gaps.{GapPiece, begins_gap, Tail, NoTail, Dot, NoDot, Separator, Closes, Neither}
use Rattle.toml_span_read.specs.Gaps.{MaximalGap, Equals}
use Rattle.toml_span_read.specs.declared.gaps.AfterElement.{AfterElement}
use Rattle.toml_span_read.specs.declared.gaps.AfterElement.TheVariants as after

-- j is after i, and is a character boundary.
pub record Further (text : List ℕ) (i j : ℕ) : Type 0 where
  pub on : i < j
  pub boundary : IsCharBoundary text j

abbrev pub GapPieceGives : List ℕ → ℕ → Option ℕ → Type 0
GapPieceGives text i None = begins_gap text i ≡ false
GapPieceGives text i (Some j) = GapPiece text i j × Further text i j

abbrev pub TailGives : List ℕ → ℕ → Result ℕ ℕ → Type 0
TailGives text i (Ok j) = Tail text i j × (i ≤ j) × IsCharBoundary text j
TailGives text i (Err k) = NoTail text i k × IsCharBoundary text k

abbrev pub DotGives : List ℕ → ℕ → Option ℕ → Type 0
DotGives text i None = NoDot text i
DotGives text i (Some j) = Dot text i j × Further text i j

abbrev pub AfterElementGives : ℕ → List ℕ → ℕ → AfterElement → Type 0
AfterElementGives c text i (after.Comma j) = Separator comma text i j × Further text i j
AfterElementGives c text i (after.Closed j) = Closes c text i j × Further text i j
AfterElementGives c text i (after.Neither j) = Neither c text i j × IsCharBoundary text j

-- The result is the end of the byte c with the gaps around it, or the offset at which the byte was expected.
abbrev pub SeparatorGives : ℕ → List ℕ → ℕ → Result ℕ ℕ → Type 0
SeparatorGives c text i (Ok j) = Separator c text i j × Further text i j
SeparatorGives c text i (Err k) = MaximalGap text i k × ((slice_index text k == c) ≡ false) × IsCharBoundary text k

abbrev pub EqualsGives : List ℕ → ℕ → Result ℕ ℕ → Type 0
EqualsGives text i (Ok j) = Equals text i j × Further text i j
EqualsGives text i (Err k) =
    MaximalRun is_blank text i k × ((slice_index text k == equals) ≡ false) × IsCharBoundary text k
