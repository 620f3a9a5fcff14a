-- The reports that are shown.
use Rattle.toml_span_lex.proofs.Common.{◌≡◌, ◌∙◌, ℕ, Bool, true, false, Global, List, [], ◌∷◌, ◌++◌, Vec, ap, inl, inr, map, map-append, map-id, refl, subst, sym}
use Rattle.toml_span_report.specs.Report.{ReportContent, report_content, repair_of}
use Rattle.toml_span_report.specs.declared.report.Report.{Report}
use Rattle.toml_span_report.specs.declared.report.Replacement.{Replacement}
use Rattle.toml_span_check.specs.Drafts.{IsReading}
use Rattle.toml_span_syntax.specs.declared.pieces.Piece.{Piece}
use Rattle.toml_span_syntax.specs.declared.statements.Statement.{Statement}
use Rattle.toml_span_check.specs.Fixable.{AllShown, AreShown, IsShown, first_start, no_report, one_more}
use Rattle.toml_span_check.specs.Fixing.{CanFix}
use Rattle.toml_span_check.specs.Statements.{faulty}
use Rattle.toml_span_check.specs.declared.fixing.FixLevel.TheVariants.{Unsafe}

-- no report
pub shows_none : (text : List ℕ) (pieces : List Piece) (ss : List Statement) (made : List Report) → made ≡ [] → AllShown text pieces ss [] (map report_content made)
shows_none text pieces ss made is = subst (λ (rs : List Report). AllShown text pieces ss [] (map report_content rs)) (sym is) no_report

-- one more report
pub shows_more : (text : List ℕ) (pieces : List Piece) (ss : List Statement) (rs old new : List Report) (r made : Report) → AllShown text pieces ss (map report_content rs) (map report_content old) →
    IsShown text pieces ss (report_content r) (report_content made) → new ≡ old ++ made ∷ [] → AllShown text pieces ss (map report_content (rs ++ r ∷ [])) (map report_content new)
shows_more text pieces ss rs old new r made all shown is =
    let more = one_more (map report_content rs) (map report_content old) (report_content r) (report_content made) all shown in
    subst (λ (xs : List ReportContent). AllShown text pieces ss xs (map report_content new)) (sym (map-append report_content rs (r ∷ [])))
    (subst (λ (xs : List ReportContent). AllShown text pieces ss (map report_content rs ++ report_content r ∷ []) xs)
    (sym (ap (map report_content) is ∙ map-append report_content old (made ∷ []))) more)

-- all reports
pub shows_all : (text : List ℕ) (pieces others : List Piece) (ss more : List Statement) (rs yielded made : List Report) → IsReading text others more → pieces ≡ others → ss ≡ more →
    AllShown text pieces ss (map report_content yielded) (map report_content made) → map (λ r. r) yielded ≡ rs → AreShown text (map report_content rs) (map report_content made)
shows_all text pieces others ss more rs yielded made reading same_pieces same_statements all is = (
  pieces,
  ss,
  subst (λ (xs : List Piece). IsReading text xs ss) (sym same_pieces) (subst (λ (xs : List Statement). IsReading text others xs) (sym same_statements) reading),
  subst (λ (xs : List Report). AllShown text pieces ss (map report_content xs) (map report_content made)) (sym (map-id yielded) ∙ is) all,
)

-- whether unsafe fixes fix the statement with the first replacement
can : (text : List ℕ) (pieces : List Piece) (ss : List Statement) (report : Report) (s : Statement) (start : ℕ) (is other : Bool) → start ≡ first_start (map repair_of report.replacements.items) →
    s ≡ faulty text pieces ss 0 start true → CanFix text pieces ss s Unsafe is → is ≡ other → CanFix text pieces ss (faulty text pieces ss 0 (first_start (map repair_of report.replacements.items)) true) Unsafe other
can text pieces ss report s start is other at found fixes same =
    subst (λ (b : Bool). CanFix text pieces ss (faulty text pieces ss 0 (first_start (map repair_of report.replacements.items)) true) Unsafe b) same
    (subst (λ (x : Statement). CanFix text pieces ss x Unsafe is) (found ∙ ap (λ (n : ℕ). faulty text pieces ss 0 n true) at) fixes)

-- unsafe fixes fix it
pub shows_fixed : (text : List ℕ) (pieces : List Piece) (ss : List Statement) (report : Report) (s : Statement) (start : ℕ) (is : Bool) → start ≡ first_start (map repair_of report.replacements.items) →
    s ≡ faulty text pieces ss 0 start true → CanFix text pieces ss s Unsafe is → is ≡ true → IsShown text pieces ss (report_content report) (report_content report)
shows_fixed text pieces ss report s start is at found fixes same = inr (inl (can text pieces ss report s start is true at found fixes same, refl))

-- they don't
pub shows_bare : (text : List ℕ) (pieces : List Piece) (ss : List Statement) (report : Report) (s : Statement) (start : ℕ) (is : Bool) (none : Vec Replacement Global) →
    start ≡ first_start (map repair_of report.replacements.items) → s ≡ faulty text pieces ss 0 start true → CanFix text pieces ss s Unsafe is → is ≡ false → none.items ≡ [] →
    IsShown text pieces ss (report_content report) (report_content (record report { replacements = none }))
shows_bare text pieces ss report s start is none at found fixes same empty =
    inr (inr (can text pieces ss report s start is false at found fixes same, ap (λ (rs : List Replacement). record (report_content report) { replacements = map repair_of rs }) empty))
