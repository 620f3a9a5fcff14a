-- Which errors have fixes that `check --fix` applies.
use Rattle.std.specs.Prelude.{◌≡◌, ◌⊎◌, ℕ, ◌+◌, Bool, true, false, not, List, [], ◌∷◌, ◌++◌, map, length, codes}
use Rattle.std.specs.Prelude.{count_by, Option, Some, None, if◌then◌else◌}
use Rattle.toml_span_report.specs.Report.{Repair, ReportContent}
use Rattle.toml_span_syntax.specs.declared.pieces.Piece.{Piece}
use Rattle.toml_span_syntax.specs.declared.statements.Statement.{Statement}
use Rattle.toml_span_check.specs.Drafts.{IsReading}
use Rattle.toml_span_check.specs.Fixing.{CanFix}
use Rattle.toml_span_check.specs.Safety.{all_safe}
use Rattle.toml_span_check.specs.Statements.{faulty}
use Rattle.toml_span_check.specs.declared.fixable.Count.{Count}
use Rattle.toml_span_check.specs.declared.fixing.FixLevel.{FixLevel}
use Rattle.toml_span_check.specs.declared.fixing.FixLevel.TheVariants as levels
use Rattle.toml_span_check.specs.declared.fixing.FixLevel.TheVariants.{Safe, Unsafe}

-- the level of a fix with these replacements, if there are any
abbrev pub level_of : List Repair → Option FixLevel
level_of [] = None
level_of (first ∷ more) = if all_safe (first ∷ more) then Some Safe else Some Unsafe

-- ---- which fixes are made

abbrev pub marked : Bool → Repair → Repair
marked is_safe repair = record repair { is_safe = is_safe }

-- `settled` is the report `made` of an error in a statement. Its replacements are marked as safe if safe fixes fix the
-- statement, and otherwise as unsafe.
abbrev pub IsSettled : List ℕ → List Piece → List Statement → Statement → ReportContent → ReportContent → Type 0
IsSettled text pieces ss s made settled =
    ((made.replacements ≡ []) × (settled ≡ made))
    ⊎ ((is_safe : Bool) × CanFix text pieces ss s levels.Safe is_safe
    × (settled ≡ record made { replacements = map (marked is_safe) made.replacements }))

abbrev pub first_start : List Repair → ℕ
first_start [] = 0
first_start (repair ∷ repairs) = repair.span.start

-- the statement with the first replacement
abbrev pub repaired_statement : List ℕ → List Piece → List Statement → List Repair → Statement
repaired_statement text pieces ss repairs = faulty text pieces ss 0 (first_start repairs) true

-- `shown` is the report `made`, without its replacements if unsafe fixes don't fix the statement.
abbrev pub IsShown : List ℕ → List Piece → List Statement → ReportContent → ReportContent → Type 0
IsShown text pieces ss made shown =
    ((made.replacements ≡ []) × (shown ≡ made))
    ⊎ (CanFix text pieces ss (repaired_statement text pieces ss made.replacements) levels.Unsafe true × (shown ≡ made))
    ⊎ (CanFix text pieces ss (repaired_statement text pieces ss made.replacements) levels.Unsafe false
    × (shown ≡ record made { replacements = [] }))

-- this of each report
pub data AllShown (text : List ℕ) (pieces : List Piece) (ss : List Statement)
    : List ReportContent → List ReportContent → Type 0 where
  no_report : AllShown text pieces ss [] []
  one_more : (rs shown : List ReportContent) (r made : ReportContent) → AllShown text pieces ss rs shown
      → IsShown text pieces ss r made → AllShown text pieces ss (rs ++ r ∷ []) (shown ++ made ∷ [])

abbrev pub AreShown : List ℕ → List ReportContent → List ReportContent → Type 0
AreShown text rs shown =
    (pieces : List Piece) × (ss : List Statement) × IsReading text pieces ss × AllShown text pieces ss rs shown

-- ---- numbers of errors

abbrev pub no_error : Count
no_error = record { errors = 0; safe_fixes = 0; unsafe_fixes = 0 }

abbrev pub one_error : Count
one_error = record { errors = 1; safe_fixes = 0; unsafe_fixes = 0 }

abbrev pub plus : Count → Count → Count
plus count more = record {
  errors = count.errors + more.errors;
  safe_fixes = count.safe_fixes + more.safe_fixes;
  unsafe_fixes = count.unsafe_fixes + more.unsafe_fixes;
}

abbrev pub has : Bool → Option FixLevel → Bool
has is_safe None = false
has is_safe (Some Safe) = is_safe
has is_safe (Some Unsafe) = not is_safe

-- whether a report has a safe fix or, if `is_safe` is false, a fix that is not safe
abbrev pub has_fix : Bool → ReportContent → Bool
has_fix is_safe r = has is_safe (level_of r.replacements)

abbrev pub fixable : Bool → List ReportContent → ℕ
fixable is_safe rs = count_by (has_fix is_safe) rs

abbrev pub count_of : List ReportContent → Count
count_of rs = record { errors = length rs; safe_fixes = fixable true rs; unsafe_fixes = fixable false rs }

-- ---- words

abbrev pub words_for : Option FixLevel → List ℕ
words_for None = []
words_for (Some Safe) = codes " (safe fix)"
words_for (Some Unsafe) = codes " (unsafe fix)"

-- what the help of a report says at its end
abbrev pub words_of : ReportContent → List ℕ
words_of r = words_for (level_of r.replacements)
