-- All errors of a text.
use Rattle.toml_span_lex.proofs.Common.{◌≡◌, ◌≤◌, ◌++◌, ◌∷◌, ◌∙◌, ℕ, Bool, List, [], Option, Some, None, Result, Ok, Err, IfOk, AllocError, Global, Vec, map, length, inl, inr, refl, true, subst, sym, ap, arith, nat_tests, common_steps}
use Rattle.toml_span_lex.specs.Stop.{fault_of}
use Rattle.toml_span_lex.specs.declared.stop.Stop.{Stop}
use Rattle.toml_span_lex.specs.declared.stop.Stop.TheVariants as stops
use Rattle.toml_span_tree.specs.declared.error.Error.{Error}
use Rattle.toml_span_tree.specs.declared.value.Value.{Value}
use Rattle.toml_span_lex.specs.declared.span.Span.{Span}
use Rattle.toml_span_tree.specs.Error.{ErrorContent, content_of, kind_of}
use Rattle.toml_span_read.specs.Data.{depth_limit}
use Rattle.toml_span_read.specs.Faults.{StartsInside}
use Rattle.toml_span_read.specs.Reading.{ReadsDocument, RefusedInside}
use Rattle.toml_span.specs.Parsing.{IsParseResult, IsRefusal, IsTree}
use Rattle.toml_span_report.specs.Report.{ReportContent, report_content}
use Rattle.toml_span_report.specs.declared.report.Report.{Report}
use Rattle.toml_span_report.specs.declared.report.Severity.TheVariants as severity
use Rattle.toml_span_mistakes.specs.Errors.{ReportsError}
use Rattle.toml_span_syntax.specs.declared.pieces.Piece.{Piece}
use Rattle.toml_span_syntax.specs.declared.statements.Statement.{Statement}
use Rattle.toml_span_check.specs.Fixable.{IsSettled}
use Rattle.toml_span_check.specs.Statements.{extent_of, offset_of}
use Rattle.toml_span_syntax.specs.Pieces.{Covers}
use Rattle.toml_span_check.specs.Every.{Adds, AddsError, Checks, Finds, IsRead, Progress, Reads, Source, all, clash, extent, blank, fault, faults, is_clash, many, most, none, rest, too_many, valid}
use Rattle.toml_span_check.specs.code.Every.{HasNoFault, IsErrorOf, IsNextError, IsRefusedAt}
use Rattle.toml_span_check.specs.declared.every.ErrorAt.{ErrorAt}
use Rattle.toml_span_check.specs.declared.statements.Extent.{Extent}

abbrev error_in : Error → Result Error AllocError → Error
error_in other (Ok e) = e
error_in other (Err x) = other

-- the error that stops `parse`
pub refused : (text : List ℕ) (stop : Stop Error) (error : Error) → IsParseResult text depth_limit (Err stop) → Ok error ≡ fault_of stop → IsRefusal text depth_limit (stops.Fault error)
refused text (stops.Fault e) error answers is = subst (λ (x : Error). IsParseResult text depth_limit (Err (stops.Fault x))) (sym (ap (error_in e) is)) answers
refused text (stops.Memory e) error answers is = grind (arith, nat_tests, common_steps)

-- `parse` fails with the fault with which `read_sections` fails
pub refused_reading : (text : List ℕ) (stop : Stop Error) (error : Error) → ReadsDocument text depth_limit (Err stop) → RefusedInside text (Err stop) → Ok error ≡ fault_of stop →
    IsRefusal text depth_limit (stops.Fault error)
refused_reading text (stops.Fault e) error read inside is =
    let span : inside.0.span ≡ read.0.span = ap (λ (c : ErrorContent). c.span) (sym inside.2 ∙ read.2) in
    subst (λ (x : Error). IsRefusal text depth_limit (stops.Fault x)) (sym (ap (error_in e) is))
    (inl (read.0, read.1, (subst (λ (s : Span). StartsInside text s) span inside.1, read.2)))
refused_reading text (stops.Memory e) error read inside is = grind (arith, nat_tests, common_steps)

-- what is found in a copy is one more error of it
adds_error : (source : Source) (copy : List ℕ) (from : ℕ) (error : Error) (made : ErrorAt) (p q : Progress) → IsRefusal copy depth_limit (stops.Fault error) → IsErrorOf source copy from error made →
    Adds source made.extent (report_content made.report) made.place p q → AddsError source from copy p q
adds_error source copy from error made p q refusal is adds = (
  error,
  refusal,
  (
    report_content made.report,
    is.report,
    subst (λ (e : Extent). Adds source e (report_content made.report) error.span.start p q) is.extent
        (subst (λ (place : ℕ). Adds source made.extent (report_content made.report) place p q) is.place adds),
  ),
)

-- nothing has been found at first
pub begins : (source : Source) (p : Progress) → p.places ≡ [] → p.reports ≡ [] → p.next ≡ 0 → p.blanked ≡ source.text → Reads source p
begins source p a b c d = rw (a, b, c, d) none

-- the first error is that of the source, in which nothing has been read
start_none : (text : List ℕ) (ps : List Piece) → Covers text 0 ps (length text) → offset_of text ps 0 ≡ 0
start_none text [] covers = sym covers
start_none text (p ∷ ps) covers = covers.0

rest_none : (source : Source) → IsRead source → rest source 0 ≡ source.text
rest_none source read = ap (λ (n : ℕ). blank 0 n source.text) (start_none source.text source.pieces read.covers)

pub reads_first : (source : Source) (error : Error) (made : ErrorAt) (p q : Progress) → IsRead source → IsRefusal source.text depth_limit (stops.Fault error) → IsErrorOf source source.text 0 error made →
    Reads source p → p.next ≡ 0 → Adds source made.extent (report_content made.report) made.place p q → Reads source q
reads_first source error made p q read refusal is found next adds =
    let more : AddsError source 0 source.text p q = adds_error source source.text 0 error made p q refusal is adds in
    let at : AddsError source 0 (rest source 0) p q = subst (λ (copy : List ℕ). AddsError source 0 copy p q) (sym (rest_none source read)) more in
    fault p q found (subst (λ (n : ℕ). AddsError source n (rest source n) p q) (sym next) at)

pub reads_fault : (source : Source) (copy : List ℕ) (made : ErrorAt) (p q : Progress) → Reads source p → copy ≡ rest source p.next → IsRefusedAt source copy p.next made →
    Adds source made.extent (report_content made.report) made.place p q → Reads source q
reads_fault source copy made p q found same j adds =
    fault p q found (subst (λ (k : List ℕ). AddsError source p.next k p q) same (adds_error source copy p.next j.0 made p q j.1 j.2 adds))

-- nothing remains to be read
pub through_none : (source : Source) (copy : List ℕ) (p : Progress) → Reads source p → copy ≡ rest source p.next → HasNoFault copy → Finds source p
through_none source copy p found same read = faults p found (inl (subst HasNoFault same read))

pub through_clash : (source : Source) (copy : List ℕ) (made : ErrorAt) (p : Progress) → Reads source p → copy ≡ rest source p.next → IsRefusedAt source copy p.next made → made.is_clash ≡ true → Finds source p
through_clash source copy made p found same j is =
    faults p found (inr (inl (j.0, subst (λ (k : List ℕ). IsRefusal k depth_limit (stops.Fault j.0)) same j.1, sym j.2.clash ∙ is)))

pub finds_clash : (source : Source) (copy : List ℕ) (field : Option ErrorAt) (made : ErrorAt) (p q : Progress) → Finds source p → copy ≡ p.blanked → IsNextError source copy 0 field → field ≡ Some made →
    Adds source made.extent (report_content made.report) made.place p q → Finds source q
finds_clash source copy field made p q found same judged is adds =
    let j = subst (λ (f : Option ErrorAt). IsNextError source copy 0 f) is judged in
    clash p q found (subst (λ (k : List ℕ). AddsError source 0 k p q) same (adds_error source copy 0 j.0 made p q j.1 j.2 adds))

-- the text with spaces is a document
pub checks_all : (source : Source) (copy : List ℕ) (field : Option ErrorAt) (p : Progress) → IsRead source → Finds source p → copy ≡ p.blanked → IsNextError source copy 0 field → field ≡ None → Checks source.text p.reports
checks_all source copy field p read found same judged is =
    let j = subst (λ (f : Option ErrorAt). IsNextError source copy 0 f) is judged in
    all source p j.0 refl read found (subst (λ (k : List ℕ). IsTree k depth_limit j.0) same j.1)

-- or it has one more error
pub checks_many : (source : Source) (copy : List ℕ) (field : Option ErrorAt) (made : ErrorAt) (p : Progress) (r : Result (Vec Report Global) AllocError) → IsRead source → Finds source p → copy ≡ p.blanked → IsNextError source copy 0 field → field ≡ Some made →
    most (length source.text) ≤ length p.places → IfOk r (λ more. map report_content more.items ≡ p.reports ++ too_many ∷ []) →
    IfOk r (λ reports. Checks source.text (map report_content reports.items))
checks_many source copy field made p (Err e) read found same judged is full made_of = tt
checks_many source copy field made p (Ok reports) read found same judged is full made_of =
    let j = subst (λ (f : Option ErrorAt). IsNextError source copy 0 f) is judged in
    let refusal = subst (λ (k : List ℕ). IsRefusal k depth_limit (stops.Fault j.0)) same j.1 in
    subst (λ (rs : List ReportContent). Checks source.text rs) (sym made_of) (many source p j.0 refl read found refusal full)

pub checks_valid : (text : List ℕ) (root : Value) (rs : List ReportContent) → IsTree text depth_limit root → rs ≡ [] → Checks text rs
checks_valid text root rs tree nil = subst (λ (x : List ReportContent). Checks text x) (sym nil) (valid root tree)

-- the report of an error, and the statements that it concerns
pub error_of : (source : Source) (copy : List ℕ) (from : ℕ) (error : Error) (made report : Report) (ps : List Piece) (ss : List Statement) (clashes : Bool) (e : Extent) → ps ≡ source.pieces → ss ≡ source.statements →
    clashes ≡ is_clash (kind_of error.kind) → e ≡ extent_of source.text ps ss from error.span.start clashes → ReportsError severity.Error copy (content_of error) (report_content made) →
    IsSettled source.text ps ss e.statement (report_content made) (report_content report) → IsErrorOf source copy from error (record { report = report; place = error.span.start; is_clash = clashes; extent = e })
error_of source copy from error made report ps ss clashes e pieces statements agree is reports settled =
    let same : e ≡ extent source from error =
    is
    ∙ (ap (λ (xs : List Piece). extent_of source.text xs ss from error.span.start clashes) pieces
    ∙ (ap (λ (xs : List Statement). extent_of source.text source.pieces xs from error.span.start clashes) statements
    ∙ ap (λ (b : Bool). extent_of source.text source.pieces source.statements from error.span.start b) agree)) in
    record {
      report = (
        report_content made,
        reports,
        subst (λ (x : Extent). IsSettled source.text source.pieces source.statements x.statement (report_content made) (report_content report)) same
            (subst (λ (xs : List Statement). IsSettled source.text source.pieces xs e.statement (report_content made) (report_content report)) statements
            (subst (λ (xs : List Piece). IsSettled source.text xs ss e.statement (report_content made) (report_content report)) pieces settled)),
      );
      place = refl;
      extent = same;
      clash = agree;
    }
