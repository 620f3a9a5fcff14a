-- The faults that the fast path returns.
use Rattle.toml_span_lex.proofs.Common.{◌≡◌, ℕ, ◌<◌, List, Option, Some, None, IfSome, Ok, Err, refl, inl, inr, length}
use Rattle.toml_span_lex.specs.Text.{FirstPlace}
use Rattle.toml_span_lex.specs.declared.stop.Stop.{Stop}
use Rattle.toml_span_lex.specs.declared.stop.Stop.TheVariants as stops
use Rattle.toml_span_read.specs.Data.{ParsedSection}
use Rattle.toml_span_read.specs.Faults.{StartsInside, fault_content}
use Rattle.toml_span_read.specs.Read as read
use Rattle.toml_span_read.specs.Read.{Reading}
use Rattle.toml_span_read.specs.code.Sections.{head_found}
use Rattle.toml_span_read.specs.declared.fault.Fault.{Fault}
use Rattle.toml_span_read.specs.declared.sections.Header.{Header}
use Rattle.toml_span_read.proofs.FaultPlaces.{OfFault}
use Rattle.toml_span_read.proofs.LineRead.{document_refused, document_stops}
use Rattle.toml_span_tree.specs.Error.{content_of}
use Rattle.toml_span_tree.specs.declared.error.Error.{Error}
use Rattle.toml_span.specs.Parsing.{IsParseResult}
use Rattle.toml_span.specs.code.Lines.{fault_in}
use Rattle.toml_span.specs.code.Placing.{Table}
use Rattle.toml_span.proofs.RootTable.{Growing}

-- the fault that m has, if there is one
abbrev Refused : {B : Type 0} → List ℕ → Reading B → Option Fault → Type 0
Refused text m o = IfSome o (λ fault. m (Err fault) × StartsInside text fault.span)

-- what is stated about the fault of a stop
pub of-stop : (P Q : Fault → Type 0) (stop : Stop Fault) → OfFault P stop → OfFault Q stop → IfSome (fault_in stop) (λ fault. P fault × Q fault)
of-stop P Q (stops.Memory e) p q = tt
of-stop P Q (stops.Fault e) p q = (p, q)

-- ---- from the lines to the document

pub refused-lines : (text : List ℕ) (limit at : ℕ) (header : Header) (o : Option Fault) → read.header text limit at (Ok (head_found header)) → Refused text (read.assignment_lines text limit header.extent.end) o
    → Refused text (read.section text limit at) o
refused-lines text limit at header None found h = tt
refused-lines text limit at header (Some e) found (h, placed) = (inl (head_found header, found, inr (e, h, refl)), placed)

pub refused-first : (text : List ℕ) (limit from : ℕ) (o : Option Fault) → FirstPlace text from → Refused text (read.assignment_lines text limit from) o → Refused text (read.document text limit) o
refused-first text limit from None begins h = tt
refused-first text limit from (Some e) begins (h, placed) = (document_refused text limit e (from, begins, inr (e, h, refl)), placed)

pub refused-later : (text : List ℕ) (limit at : ℕ) (t : Table) (o : Option Fault) → at < length text → Growing text limit at t → Refused text (read.section text limit at) o → Refused text (read.document text limit) o
refused-later text limit at t None under inv h = tt
refused-later text limit at t (Some e) under inv (h, placed) =
    (document_stops {A = List ParsedSection} (λ bs. bs) (stops.Fault e) text limit at inv.sections inv.whole under h, placed)

-- ---- the result of `parse`

pub answers-refused : (text : List ℕ) (limit : ℕ) (o : Option Fault) (fault : Fault) (error : Error) → o ≡ Some fault → Refused text (read.document text limit) o → content_of error ≡ fault_content text fault
    → IsParseResult text limit (Err (stops.Fault error))
answers-refused text limit o fault error is h tells =
    let g : read.document text limit (Err fault) × StartsInside text fault.span = rw is at h in inl (fault, g.0, (g.1, tells))

begun : (text : List ℕ) (limit : ℕ) (fault : Fault) → read.document text limit (Err fault) → (start : ℕ) × FirstPlace text start
unfolding read.document
begun text limit fault (inl (found, (start, begins, h), more)) = (start, begins)
begun text limit fault (inr (e, (start, begins, h), is)) = (start, begins)

-- where the reading of a text begins that has a fault
pub begun-refused : (text : List ℕ) (limit : ℕ) (o : Option Fault) (fault : Fault) → o ≡ Some fault → Refused text (read.document text limit) o → (start : ℕ) × FirstPlace text start
begun-refused text limit o fault is h = let g : read.document text limit (Err fault) × StartsInside text fault.span = rw is at h in begun text limit fault g.0
