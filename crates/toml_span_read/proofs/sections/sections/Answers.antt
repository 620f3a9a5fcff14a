use Rattle.toml_span_lex.proofs.Common.{arith, refl, ◌≡◌, ◌<◌, ℕ, length, map, Option, Vec, Global}
use Rattle.toml_span_read.specs.Data.{parsed_section}
use Rattle.toml_span_read.specs.code.Sections.{sections_found}
use Rattle.toml_span_read.specs.declared.fault.Fault.{Fault}
use Rattle.toml_span_read.specs.declared.section.Section.{Section}
use Rattle.toml_span_read.proofs.BorrowLemmas as borrow
use Rattle.toml_span_read.proofs.FaultPlaces.{so_told}
use Rattle.toml_span_read.proofs.KeyLemmas.{handed_on}
use Rattle.toml_span_read.proofs.LineRead.{sections_end, section_on, document_read, document_stops, document_refused}
use Rattle.toml_span_read.proofs.MemoryLemmas.{begun_on, keeps, keeps_same}
use Rattle.toml_span_read.proofs.StepLemmas.{Begins, begins_with, first_begun, first_keeps}
use Rattle.toml_span_read.proofs.sections.sections.Goals as goal
use Rattle.toml_span_read.proofs.sections.sections.Goals.{in-Some+in_default, in-None}

pub sections-init : goal.sections-init
sections-init c =
    let first = c.in_ok-first.ensures in
    let e = c.new-found.ensures.items in
    let b : Begins c.args.text.now c.args.limit c.in_ok-first.at c.match-first.found.items = elim c.match-first.branch [
      | in-Some+in_default w ↦ rw w.found-is (begins_with _ _ _ c.in_ok-first.first _ (rw (w.in-Some.is, w.in_default.ensures, e) refl) first.reads.0 first.first)
      | in-None w ↦ rw w.found-is (begins_with _ _ _ c.in_ok-first.first _ (rw (w.in-None.is, e) refl) first.reads.0 first.first)
    ] in
    record {
      boundary = first.reads.1.0;
      begun = first_begun c.args.text.now c.args.limit c.in_ok-first.at c.in_ok-first.first first.first;
      header = first.reads.1.1;
      borrows = b.borrows;
      whole = b.whole;
    }

pub sections-preserved : goal.sections-preserved
sections-preserved c =
    let read = c.in_ok-section.ensures in
    let m = c.in_default-add.ensures in
    let i = c.sections.invariant in
    let under : c.sections.at < length c.args.text.now = omega arith in
    record {
      boundary = read.reads.2.0;
      begun = begun_on c.args.text.now c.sections.at _ i.begun (omega (arith, read.reads.1.on));
      header = read.reads.2.1;
      borrows = borrow.sections_more c.args.text.now c.sections.found.items c.add-in-sections.new.items.items _ m i.borrows read.reads.0;
      whole = rw (sections_end c.sections.found.items c.add-in-sections.new.items.items _ m) (section_on c.args.text.now c.args.limit c.sections.at _ (map parsed_section c.sections.found.items) _ i.whole under read.section);
    }

pub returns-clause-document : goal.returns-clause-document
returns-clause-document c =
    let e : c.sections.at ≡ length c.args.text.now = omega (arith, c.sections.invariant.boundary.0) in
    document_read c.args.text.now c.args.limit c.sections.at (map parsed_section c.sections.found.items) c.sections.invariant.whole e

pub returns-in-Err-clause-memory : goal.returns-in-Err-clause-memory
returns-in-Err-clause-memory c = first_keeps c.args.text.now c.args.limit c.in_ok-first.at c.in_ok-first.first _ c.in-Some.is c.in_ok-first.ensures.first

pub returns-in_err-first-clause-document : goal.returns-in_err-first-clause-document
returns-in_err-first-clause-document c = rw (handed_on c.from_residual.result c.in_err-first.field-0.0 c.from_residual.ensures.1) (so_told _ _ c.in_err-first.field-0.0 c.in_err-first.ensures.first (document_refused c.args.text.now c.args.limit))

pub returns-in_err-first-clause-memory : goal.returns-in_err-first-clause-memory
returns-in_err-first-clause-memory c = rw (handed_on c.from_residual.result c.in_err-first.field-0.0 c.from_residual.ensures.1) (keeps_same (Option Section × ℕ) (Vec Section Global) c.in_err-first.field-0.0 c.args.text.now c.in_err-first.ensures.memory)

pub returns-in_err-section-clause-document : goal.returns-in_err-section-clause-document
returns-in_err-section-clause-document c =
    let under : c.sections.at < length c.args.text.now = omega arith in
    rw (handed_on c.from_residual-in_err-section.result c.in_err-section.field-0.0 c.from_residual-in_err-section.ensures.1)
    (document_stops sections_found c.in_err-section.field-0.0 c.args.text.now c.args.limit c.sections.at (map parsed_section c.sections.found.items) c.sections.invariant.whole under c.in_err-section.ensures.section)

pub returns-in_err-section-clause-memory : goal.returns-in_err-section-clause-memory
returns-in_err-section-clause-memory c = rw (handed_on c.from_residual-in_err-section.result c.in_err-section.field-0.0 c.from_residual-in_err-section.ensures.1) (keeps (Vec Section Global) Fault c.in_err-section.field-0.0 c.args.text.now c.sections.at c.sections.invariant.begun (omega arith))
