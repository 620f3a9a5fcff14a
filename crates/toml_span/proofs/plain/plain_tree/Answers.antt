use Rattle.toml_span_lex.proofs.Common.{arith, length, ◌≡◌, ◌<◌}
use Rattle.toml_span.proofs.FastFaults.{refused-first, refused-later}
use Rattle.toml_span.proofs.FinishedRoot.{first-growing, plain-borrowed, plain-tree}
use Rattle.toml_span.proofs.RootTable.{growing-more}
use Rattle.toml_span.proofs.plain.plain_tree.Goals as goal

pub sections-init : goal.sections-init
sections-init c =
    let s = c.in-Ok.ensures.lines in
    record {
      boundary = s.boundary;
      header = s.header;
      growing = first-growing c.args.text.now c.args.limit _ _ c.first_place.ensures.place s;
    }

pub sections-preserved : goal.sections-preserved
sections-preserved c =
    let m = c.in-Ok-add_section.ensures.section in
    let under : c.sections.at < length c.args.text.now = omega arith in
    record {
      boundary = m.boundary;
      header = m.header;
      growing = growing-more c.args.text.now c.args.limit c.sections.at _ c.sections.root c.add_section.new.root under c.sections.invariant.growing m;
    }

pub returns-clause-tree : goal.returns-clause-tree
returns-clause-tree c =
    let end : c.sections.at ≡ length c.args.text.now = omega (arith, c.sections.invariant.boundary.0) in
    plain-tree c.args.text.now c.args.limit c.sections.at c.sections.root _ c.in_order.ensures c.sections.invariant.growing end c.with_span.ensures.view

pub returns-clause-borrows : goal.returns-clause-borrows
returns-clause-borrows c =
    let end : c.sections.at ≡ length c.args.text.now = omega (arith, c.sections.invariant.boundary.0) in
    plain-borrowed c.args.text.now c.args.limit c.sections.at c.sections.root _ _ c.in_order.ensures c.sections.invariant.growing end c.with_span.ensures.kept

pub returns-in-Err-clause-fault : goal.returns-in-Err-clause-fault
returns-in-Err-clause-fault c = refused-first c.args.text.now c.args.limit _ c.in-Err.fault c.first_place.ensures.place c.in-Err.ensures.fault

pub returns-in-Err-add_section-clause-fault : goal.returns-in-Err-add_section-clause-fault
returns-in-Err-add_section-clause-fault c =
    let under : c.sections.at < length c.args.text.now = omega arith in
    refused-later c.args.text.now c.args.limit c.sections.at c.sections.root c.in-Err-add_section.fault under c.sections.invariant.growing c.in-Err-add_section.ensures.fault
