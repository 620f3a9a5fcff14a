-- Reports that are certain, one after the other.
use Rattle.toml_span_lex.proofs.Common.{◌≡◌, ◌∙◌, ap, inl, inr, subst, sym, refl, map, map-append, append_assoc, ℕ, Bool, true, false, List, [], ◌∷◌, ◌++◌, if◌then◌else◌}
use Rattle.std.specs.List.{list_any}
use Rattle.std.specs.Str.{bytes_eq}
use Rattle.toml_span_report.specs.Report.{ReportContent, report_content}
use Rattle.toml_span_report.specs.declared.report.Report.{Report}
use Rattle.toml_span_editor.specs.Labels.{main_span}
use Rattle.toml_span.specs.Parsing.{IsTree}
use Rattle.toml_span_check.specs.Schemas.{Says}
use Rattle.toml_span_check.specs.declared.schemas.Chooser.{Chooser}
use Rattle.toml_span_read.specs.Data.{depth_limit}
use Rattle.toml_span_tree.specs.Value.{view}
use Rattle.toml_span_editor.specs.Documents.{IsNoDocument, IsRead, IsReadable}
use Rattle.toml_span_editor.specs.Partial.{ArePartialReports, certain, certain_codes, doubts, is_doubted, with_certain}
use Rattle.toml_span_editor.specs.declared.document.Document.{Document}
use Rattle.toml_span_editor.specs.declared.document.Part.{Part}
use Rattle.toml_span_editor.specs.declared.partial.Doubt.{Doubt}

either_way : (doubted : Bool) (kept rest : List ReportContent) (report : ReportContent) →
    (if doubted then kept else kept ++ report ∷ []) ++ rest ≡ kept ++ (if doubted then rest else report ∷ rest)
either_way true kept rest report = refl
either_way false kept rest report = append_assoc kept (report ∷ []) rest

pub certain-next : (sure : List (List ℕ)) (doubts : List Doubt) (kept new all reports : List ReportContent) (report : ReportContent) →
    new ≡ with_certain sure doubts kept report → kept ++ certain sure doubts (report ∷ reports) ≡ all → new ++ certain sure doubts reports ≡ all
certain-next sure doubts kept new all reports report is before =
    ap (λ l. l ++ certain sure doubts reports) is
    ∙ either_way (is_doubted (main_span report.labels).start (list_any (bytes_eq report.code) sure) doubts) kept (certain sure doubts reports) report
    ∙ before

pub with-one : (sure : List (List ℕ)) (doubts : List Doubt) (kept new : List Report) (report : Report) →
    is_doubted (main_span (report_content report).labels).start (list_any (bytes_eq (report_content report).code) sure) doubts ≡ false →
    new ≡ kept ++ report ∷ [] → map report_content new ≡ with_certain sure doubts (map report_content kept) (report_content report)
with-one sure doubts kept new report sound is =
    let old = map report_content kept in
    ap (map report_content) is
    ∙ map-append report_content kept (report ∷ [])
    ∙ sym (ap (λ b. if b then old else old ++ report_content report ∷ []) sound)

-- the reports of the schema on what can be read, without those that are doubted
pub partial_of : (says : Says) (chooser : Chooser) (name text : List ℕ) (parts : List Part) (kept one other : List ℕ) (document : Document) (found reports : List ReportContent) (complaint : List ℕ) →
    IsReadable text parts kept → one ≡ kept → other ≡ kept → IsRead one document → says chooser name other (view document.root) found complaint →
    reports ≡ certain certain_codes (doubts parts) found → ArePartialReports says chooser name text reports
partial_of says chooser name text parts kept one other document found reports complaint readable first second read said is =
    (parts, kept, readable, inr (document.root, found, complaint, subst (λ (t : List ℕ). IsTree t depth_limit document.root) first read.tree, subst (λ (t : List ℕ). says chooser name t (view document.root) found complaint) second said, is))

-- no reports, since what can be read is not a document
pub none_of : (says : Says) (chooser : Chooser) (name text : List ℕ) (parts : List Part) (kept one : List ℕ) (reports : List ReportContent) →
    IsReadable text parts kept → one ≡ kept → IsNoDocument one → reports ≡ [] → ArePartialReports says chooser name text reports
none_of says chooser name text parts kept one reports readable is none empty =
    (parts, kept, readable, inl (subst IsNoDocument is none, empty))
