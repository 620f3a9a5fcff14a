use Rattle.toml_span_lex.proofs.Common.{arith, rules, length, get_or, ◌≡◌, ◌<◌}
use Rattle.toml_span_read.proofs.KeyLemmas.{handed_on}
use Rattle.toml_span_read.proofs.MemoryLemmas.{begun_on, keeps}
use Rattle.toml_span_read.proofs.StepLemmas.{first_begun}
use Rattle.toml_span_read.specs.declared.fault.Fault.{Fault}
use Rattle.toml_span_lex.specs.declared.stop.Stop.TheVariants as stops
use Rattle.toml_span.specs.declared.sections.Assembly.{Assembly}
use Rattle.toml_span.proofs.AssemblyLemmas.{begin-keeps, first-refused, assembling-first, assembling-more, assembly-whole, section-refused}
use Rattle.toml_span.proofs.de.assemble.Goals as goal

pub sections-init : goal.sections-init
sections-init c =
    let first = c.in_ok-first.ensures in
    let begun = c.in-Ok.ensures in
    record {
      boundary = first.reads.1.0;
      begun = first_begun c.args.text.now c.args.limit _ c.in_ok-first.first first.first;
      header = first.reads.1.1;
      assembling = assembling-first c.args.text.now c.args.limit _ c.in_ok-first.first c.in-Ok.assembly first.reads.0 first.first begun.assembles begun.borrows begun.bare;
    }

pub sections-preserved : goal.sections-preserved
sections-preserved c =
    let read = c.in_ok-section.ensures in
    let more = c.in_default.ensures in
    let i = c.sections.invariant in
    let under : c.sections.at < length c.args.text.now = omega arith in
    let here : get_or c.args.text.now c.sections.at 0 ≡ 91 = search rules in
    record {
      boundary = read.reads.2.0;
      begun = begun_on c.args.text.now c.sections.at _ i.begun (omega (arith, read.reads.1.on));
      header = read.reads.2.1;
      assembling = assembling-more c.args.text.now c.args.limit c.sections.at _ c.in_ok-section.section c.sections.assembly c.add_section.new.assembly under here read.reads.0 read.section i.assembling more.assembles more.borrows;
    }

pub returns-in_err-first-clause-assembly : goal.returns-in_err-first-clause-assembly
returns-in_err-first-clause-assembly c =
    rw (handed_on c.from_residual.result c.in_err-first.field-0.0 c.from_residual.ensures.1)
    (first-refused c.in_err-first.field-0.0 c.args.text.now c.args.limit c.in_err-first.ensures.first)

pub returns-in_err-section-clause-assembly : goal.returns-in_err-section-clause-assembly
returns-in_err-section-clause-assembly c =
    let under : c.sections.at < length c.args.text.now = omega arith in
    rw (handed_on c.from_residual-in_err-section.result c.in_err-section.field-0.0 c.from_residual-in_err-section.ensures.1)
    (section-refused c.in_err-section.field-0.0 c.args.text.now c.args.limit c.sections.at c.sections.assembly under c.sections.invariant.assembling c.in_err-section.ensures.section)

pub returns-clause-assembly : goal.returns-clause-assembly
returns-clause-assembly c =
    let end : c.sections.at ≡ length c.args.text.now = omega (arith, c.sections.invariant.boundary.0) in
    assembly-whole c.args.text.now c.args.limit c.sections.at c.sections.assembly c.sections.invariant.assembling end

pub returns-in-Err-clause-memory : goal.returns-in-Err-clause-memory
returns-in-Err-clause-memory c = begin-keeps c.args.text.now c.args.limit _ c.in_ok-first.first c.in_ok-first.ensures.first c.in-Err.ensures.bare

pub returns-in_err-section-clause-memory : goal.returns-in_err-section-clause-memory
returns-in_err-section-clause-memory c =
    let under : c.sections.at < length c.args.text.now = omega arith in
    rw (handed_on c.from_residual-in_err-section.result c.in_err-section.field-0.0 c.from_residual-in_err-section.ensures.1)
    (keeps Assembly Fault c.in_err-section.field-0.0 c.args.text.now c.sections.at c.sections.invariant.begun under)

pub returns-in-Err-add_section-clause-memory : goal.returns-in-Err-add_section-clause-memory
returns-in-Err-add_section-clause-memory c =
    let under : c.sections.at < length c.args.text.now = omega arith in
    keeps Assembly Fault (stops.Memory c.in-Err-add_section.error) c.args.text.now c.sections.at c.sections.invariant.begun under
