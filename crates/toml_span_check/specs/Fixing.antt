-- How the replacements of reports fix errors.
use Rattle.std.specs.Prelude.{◌≡◌, ◌<◌, ◌≤◌, ◌⊎◌, ℕ, ◌+◌, min, Bool, true, false, List, map, length}
use Rattle.std.specs.Prelude.{drop, get_or, if◌then◌else◌, Option, Some, None, String, string_bytes}
use Rattle.std.specs.Global.{Global}
use Rattle.std.specs.Str.{IsUtf8}
use Rattle.toml_span_lex.specs.declared.stop.Stop.TheVariants as stops
use Rattle.toml_span_read.specs.Data.{depth_limit}
use Rattle.toml_span_tree.specs.declared.error.Error.{Error}
use Rattle.toml_span_tree.specs.declared.value.Value.{Value}
use Rattle.toml_span_tree.specs.Error.{ErrorContent, content_of}
use Rattle.toml_span.specs.Parsing.{IsTree, IsRefusal}
use Rattle.toml_span_places.specs.Replace.{SpanEdit}
use Rattle.toml_span_mistakes.specs.Errors.{ReportsError}
use Rattle.toml_span_report.specs.Report.{Repair, ReportContent}
use Rattle.toml_span_report.specs.declared.report.Severity.TheVariants as severity
use Rattle.toml_span_check.specs.Drafts.{HasSizes, IsReading, Parts, add, draft, empty}
use Rattle.toml_span_syntax.specs.declared.pieces.Piece.{Piece}
use Rattle.toml_span_syntax.specs.declared.statements.Statement.{Statement}
use Rattle.toml_span_check.specs.Safety.{first_open, keeps, kept, may_fix, may_head, repaired, uses_crlf}
use Rattle.toml_span_check.specs.Statements.{is_continued, own_bytes, own_pieces, with_continued}
use Rattle.toml_span_check.specs.declared.fixing.Fix.{Fix}
use Rattle.toml_span_check.specs.declared.fixing.Fixed.{Fixed}
use Rattle.toml_span_check.specs.declared.fixing.FixLevel.{FixLevel}
use Rattle.toml_span_check.specs.declared.fixing.Step.{Step}
use Rattle.toml_span_check.specs.declared.fixing.Step.TheVariants as steps
use Rattle.toml_span_check.specs.declared.fixing.Way.{Way}
use Rattle.toml_span_check.specs.declared.fixing.Work.{Work}

abbrev pub edits : List Repair → List SpanEdit
edits repairs = map (λ repair. (repair.span, repair.text)) repairs

-- ---- a statement

-- the statement with the replacements of this error's report, or `None` if they may not be made (see `repaired`)
abbrev pub FixesError : List ℕ → ErrorContent → Way → Option (List ℕ) → Type 0
FixesError text error way new =
    (report : ReportContent) × ReportsError severity.Error text error report
    × (new ≡ repaired text report.replacements way)

-- The first error of the statement is fixed, or can't be fixed, or there is none.
abbrev pub NextFix : List ℕ → Way → Step → Type 0
NextFix text way steps.Valid = (root : Value) × IsTree text depth_limit root
NextFix text way steps.Stuck =
    (error : Error) × IsRefusal text depth_limit (stops.Fault error) × FixesError text (content_of error) way None
NextFix text way (steps.Fixed new) =
    (error : Error) × IsRefusal text depth_limit (stops.Fault error)
    × FixesError text (content_of error) way (Some (string_bytes new))

-- `text` after this number of fixes, one after the other
pub data Leads (text : List ℕ) (way : Way) : ℕ → List ℕ → Type 0 where
  no_fix : (new : List ℕ) → new ≡ text → Leads text way 0 new
  one_more : (n : ℕ) (mid : List ℕ) (new : String Global) → Leads text way n mid → NextFix mid way (steps.Fixed new)
      → Leads text way (n + 1) (string_bytes new)

-- a new text, and the number of its fixes
abbrev pub Made : Type 0
Made = List ℕ × ℕ

abbrev pub fixed : Fixed → Made
fixed f = (string_bytes f.text, f.count)

-- All errors of the statement are fixed. Or one of them can't be fixed, or there are more than 100.
abbrev pub Mends : List ℕ → Way → Option Made → Type 0
Mends text way (Some made) = Leads text way made.1 made.0 × ((root : Value) × IsTree made.0 depth_limit root)
Mends text way None =
    (n : ℕ) × (mid : List ℕ) × Leads text way n mid × ((n ≡ 100) ⊎ NextFix mid way steps.Stuck)

-- a new text for a statement, the number of its fixes, and its pieces and statements
pub record Mended : Type 0 where
  pub text : List ℕ
  pub count : ℕ
  pub pieces : List Piece
  pub statements : List Statement

abbrev pub fix : Fix → Mended
fix f = record {
  text = string_bytes f.new.text;
  count = f.new.count;
  pieces = f.reading.pieces.items;
  statements = f.reading.statements.items;
}

abbrev pub mended : Parts → Mended → Parts
mended parts m = add parts m.text m.pieces m.statements

-- The new text has fixes, the same comments as these pieces of the text, and no header unless `heads`.
abbrev pub Checks : List ℕ → List Piece → Bool → Made → Option Mended → Type 0
Checks text own heads made (Some m) =
    (m.text ≡ made.0) × (m.count ≡ made.1) × IsReading m.text m.pieces m.statements
    × (0 < m.count) × (keeps text own heads m.text m.pieces m.statements ≡ true)
Checks text own heads made None =
    (made.1 ≡ 0)
    ⊎ ((pieces : List Piece) × (statements : List Statement) × IsReading made.0 pieces statements
    × (keeps text own heads made.0 pieces statements ≡ false))

-- The statement is fixed, or has no error, or can't be fixed, or may not be fixed.
abbrev pub FixOf : List ℕ → List Piece → Statement → Way → Option Mended → Type 0
FixOf text pieces s way new =
    ((made : Made) × Mends (own_bytes text pieces s) way (Some made) × Checks text (own_pieces pieces s) (may_head pieces s) made new
    × (may_fix text pieces s way ≡ true))
    ⊎ ((Mends (own_bytes text pieces s) way None ⊎ ¬ IsUtf8 (own_bytes text pieces s)
    ⊎ (may_fix text pieces s way ≡ false)) × (new ≡ None))

-- ---- a text

-- the text of a statement is valid, or not
abbrev pub Judges : List ℕ → Bool → Type 0
Judges text true = (root : Value) × IsTree text depth_limit root
Judges text false = ((error : Error) × IsRefusal text depth_limit (stops.Fault error)) ⊎ ¬ IsUtf8 text

-- What is fixed together: a statement or, if it has an error and is continued, the statement and the lines that continue
-- it, as one. `rest` has the statements after it.
abbrev pub IsUnit : List ℕ → List Piece → List Statement → Statement → Statement → Type 0
IsUnit text pieces rest s unit =
    (((is_continued pieces s ≡ false) ⊎ Judges (own_bytes text pieces s) true) × (unit ≡ s))
    ⊎ ((is_continued pieces s ≡ true) × Judges (own_bytes text pieces s) false
    × (unit ≡ with_continued pieces rest s))

-- the new text so far, the number of fixes, the end of what was fixed together last, or could not be, and whether it was
pub record Progress : Type 0 where
  pub parts : Parts
  pub count : ℕ
  pub end : ℕ
  pub is_fixed : Bool

abbrev pub work : Work → Progress
work w = record { parts = draft w.draft; count = w.count; end = w.end; is_fixed = w.is_fixed }

abbrev pub start : Progress
start = record { parts = empty; count = 0; end = 0; is_fixed = false }

abbrev pub with_fix : Progress → Statement → Mended → Progress
with_fix p unit m = record {
  parts = mended p.parts m;
  count = min (p.count + m.count) 18446744073709551615;
  end = unit.end;
  is_fixed = true;
}

abbrev pub with_kept : List ℕ → List Piece → Progress → Statement → Progress
with_kept text pieces p s = record p { parts = kept p.parts text pieces s }

-- A unit is fixed, or its first statement is kept.
abbrev pub AddsUnit : List ℕ → List Piece → Statement → Statement → Way → Progress → Progress → Type 0
AddsUnit text pieces s unit way old new =
    ((m : Mended) × FixOf text pieces unit way (Some m) × (new ≡ with_fix old unit m))
    ⊎ (FixOf text pieces unit way None
    × (new ≡ with_kept text pieces (record old { end = unit.end; is_fixed = false }) s))

-- One more statement, with which a unit begins. Or it is a part of the last unit, and is kept if that could not be
-- fixed.
abbrev pub AddsStatement : List ℕ → List Piece → List Statement → Statement → Way → Progress → Progress → Type 0
AddsStatement text pieces rest s way old new =
    ((old.end ≤ s.first)
    × ((unit : Statement) × IsUnit text pieces rest s unit × AddsUnit text pieces s unit way old new))
    ⊎ ((s.first < old.end) × (new ≡ if old.is_fixed then old else with_kept text pieces old s))

-- this number of the statements, one after the other
pub data Drafts (text : List ℕ) (pieces : List Piece) (ss : List Statement) (way : Way) : ℕ → Progress → Type 0 where
  nothing : (p : Progress) → p ≡ start → Drafts text pieces ss way 0 p
  another : (i : ℕ) (p q : Progress) (s : Statement) → Drafts text pieces ss way i p → i < length ss
      → AddsStatement text pieces (drop i ss) (get_or ss i s) way p q → Drafts text pieces ss way (i + 1) q

-- The draft has fixes, and its text has the pieces and statements that it must have.
abbrev pub Finishes : Progress → Option Made → Type 0
Finishes p (Some made) =
    (0 < p.count) × HasSizes p.parts.text p.parts true × (made.0 ≡ p.parts.text) × (made.1 ≡ p.count)
Finishes p None = (p.count ≡ 0) ⊎ HasSizes p.parts.text p.parts false ⊎ ¬ IsUtf8 p.parts.text

-- Lines end as the first one does. Nothing is fixed after a multi-line string that is not closed: any line may then be a
-- part of the string.
abbrev pub way_of : List Piece → FixLevel → Way
way_of pieces level = record { level = level; is_crlf = uses_crlf pieces; limit = first_open pieces }

-- The statements are fixed one by one.
abbrev pub FixesStatements : List ℕ → FixLevel → Option Made → Type 0
FixesStatements text level made =
    (pieces : List Piece) × (statements : List Statement) × IsReading text pieces statements
    × ((p : Progress) × Drafts text pieces statements (way_of pieces level) (length statements) p
    × Finishes p made)

-- The text with its errors fixed, or as it was: if it is valid, or if its statements have no fixes.
abbrev pub Fixes : List ℕ → FixLevel → Made → Type 0
Fixes text level made =
    FixesStatements text level (Some made)
    ⊎ ((((root : Value) × IsTree text depth_limit root) ⊎ FixesStatements text level None)
    × (made.0 ≡ text) × (made.1 ≡ 0))

-- Fixes of this level fix the errors of a statement and of the lines that continue it, or not.
abbrev pub CanFix : List ℕ → List Piece → List Statement → Statement → FixLevel → Bool → Type 0
CanFix text pieces ss s level true =
    (unit : Statement) × IsUnit text pieces ss s unit
    × ((m : Mended) × FixOf text pieces unit (way_of pieces level) (Some m))
CanFix text pieces ss s level false =
    (unit : Statement) × IsUnit text pieces ss s unit × FixOf text pieces unit (way_of pieces level) None
