use Rattle.toml_span_lex.proofs.Common.{List, length, subst, sym}
use Rattle.toml_span_syntax.specs.Statements.{Splits}
use Rattle.toml_span_syntax.specs.declared.statements.Statement.{Statement}
use Rattle.toml_span_editor.proofs.PartLemmas.{are_cut, cuts_more, cuts_none, is_cut, parts_all, zip_more, zip_none}
use Rattle.toml_span_editor.proofs.document.parts.Goals as goal

pub loop-statement-init : goal.loop-statement-init
loop-statement-init c = record {
  parts = zip_none c.args.text.now c.in_ok-pieces.pieces.items c.new-parts.result.items c.new-parts.ensures.items;
  cuts = cuts_none c.args.text.now c.new-parts.result.items c.new-parts.ensures.items;
}

pub part_of-requires : goal.part_of-requires
part_of-requires c =
    are_cut c.args.text.now c.in_ok-pieces.pieces.items c.as_slice-in-loop-statement.result.now c.utf8.text c.in_ok-pieces.ensures c.as_slice-in-loop-statement.ensures.value

pub loop-statement-preserved : goal.loop-statement-preserved
loop-statement-preserved c =
    let slice = c.as_slice-in-loop-statement.result.now in
    record {
      parts =
          zip_more c.args.text.now c.in_ok-pieces.pieces.items slice c.deref-statement-items.result.now c.loop-statement.parts.items c.push.new.self.items c.loop-statement.statement-index _ c.in_ok-part.part
          c.loop-statement-test.true c.in_ok-push.ensures.items c.as_slice-in-loop-statement.ensures.value c.loop-statement.invariant.parts c.in_ok-part.ensures;
      cuts =
          cuts_more c.args.text.now c.loop-statement.parts.items c.push.new.self.items c.in_ok-part.part c.in_ok-push.ensures.items c.loop-statement.invariant.cuts
          (is_cut c.args.text.now slice _ c.in_ok-part.part (are_cut c.args.text.now c.in_ok-pieces.pieces.items slice c.utf8.text c.in_ok-pieces.ensures c.as_slice-in-loop-statement.ensures.value) c.in_ok-part.ensures);
    }

pub returns-clause-parts : goal.returns-clause-parts
returns-clause-parts c =
    let slice = c.as_slice.result.now in
    parts_all c.args.text.now c.in_ok-pieces.pieces.items slice c.deref-statement-items.result.now c.loop-statement.parts.items c.loop-statement.statement-index c.in_ok-pieces.ensures c.as_slice.ensures.value
    (subst (λ (ss : List Statement). Splits slice 0 ss (length slice)) (sym c.deref-statement-items.ensures.value) c.in_ok-statements.ensures) c.loop-statement-test.false c.loop-statement.invariant.parts

pub returns-clause-cuts : goal.returns-clause-cuts
returns-clause-cuts c = c.loop-statement.invariant.cuts
