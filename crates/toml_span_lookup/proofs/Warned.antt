-- Reports of violations, followed by warnings.
use Rattle.toml_span_lex.proofs.Common.{◌≡◌, ◌<◌, ◌==◌, ◌∙◌, ◌++◌, ap, sym, subst, inl, inr, ℕ, zero, suc, List, [], ◌∷◌, map, length, Option, Some, Result, Ok, Err, IfOk, AllocError, Global, Vec, append_assoc, map-append, length-map, arith}
use Rattle.std.specs.List.{All}
use Rattle.std.proofs.lemmas.List.{append-nil}
use Rattle.std.proofs.lemmas.List.Elements.{All-append, All-map}
use Rattle.toml_span_tree.specs.Node.{Node}
use Rattle.toml_span_report.specs.Report.{ReportContent, report_content}
use Rattle.toml_span_report.specs.declared.report.Report.{Report}
use Rattle.toml_span_report.specs.declared.report.Severity.TheVariants.{Warning}
use Rattle.toml_span_schema.specs.Valid.{valid}
use Rattle.toml_span_schema.specs.declared.schema.Schema.{Schema}
use Rattle.toml_span_schema.specs.declared.guide.Guide.{Guide}
use Rattle.toml_span_lookup.specs.Findings.{AddsWarnings, ChecksWith, IsError, IsWarning, ReportsOf}

pub adds-none : (reports : List ReportContent) → AddsWarnings reports reports
adds-none reports = ([], sym (append-nil reports), λ k d within. absurd (omega arith))

all-one : (report : ReportContent) → IsWarning report → All IsWarning (report ∷ [])
all-one report warns zero d within = warns
all-one report warns (suc k) d within = absurd (omega arith)

pub adds-more : (old : List ReportContent) (mid new : List Report) (report : Report) → AddsWarnings old (map report_content mid) → new ≡ mid ++ report ∷ [] → report.severity ≡ Warning →
    AddsWarnings old (map report_content new)
adds-more old mid new report (warnings, is, all) more warns = (
  warnings ++ report_content report ∷ [],
  ap (map report_content) more ∙ map-append report_content mid (report ∷ []) ∙ ap (λ l. l ++ report_content report ∷ []) is
      ∙ append_assoc old warnings (report_content report ∷ []),
  All-append IsWarning warnings (report_content report ∷ []) all (all-one (report_content report) warns),
)

-- more warnings may follow
pub checks_more : (schema : Schema) (root : Node) (reports more : List ReportContent) → ChecksWith schema root reports → AddsWarnings reports more → ChecksWith schema root more
checks_more schema root reports more (errors, is, wrong, (first, same, all)) (others, after, each) = (
  errors,
  is,
  wrong,
  (
    first ++ others,
    after ∙ ap (λ l. l ++ others) same ∙ append_assoc errors first others,
    All-append IsWarning first others all each,
  ),
)

-- the reports of a check, with more warnings
pub noted : (r : Result (Vec Report Global) AllocError) (found : Option Guide) (guide : Guide) (name : List ℕ) (root : Node) (reports : List ReportContent) (before after : List ℕ) →
    found ≡ Some guide → ChecksWith guide.schema root reports →
    IfOk r (λ all. AddsWarnings reports (map report_content all.items) × (after ≡ before)) →
    IfOk r (λ all. ReportsOf found name root (map report_content all.items) before after)
noted (Ok all) found guide name root reports before after is checks (adds, same) =
    subst (λ g. ReportsOf g name root (map report_content all.items) before after) (sym is)
    (inl (checks_more guide.schema root reports (map report_content all.items) checks adds, same))
noted (Err e) found guide name root reports before after is checks adds = tt

pub checks-with : (schema : Schema) (root : Node) (errors reports : List Report) → valid schema schema.depth root ≡ Some (length errors == 0) →
    All (λ report. IsError (report_content report)) errors → AddsWarnings (map report_content errors) (map report_content reports) → ChecksWith schema root (map report_content reports)
checks-with schema root errors reports is wrong adds = (
  map report_content errors,
  is ∙ ap (λ n. Some (n == 0)) (sym (length-map errors report_content)),
  All-map IsError report_content errors wrong,
  adds,
)
