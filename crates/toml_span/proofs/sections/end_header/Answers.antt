use Rattle.toml_span_lex.proofs.Common.{[], map, refl, subst, sym, ◌∙◌, not-false, not-true}
use Rattle.toml_span_read.specs.Data.{parsed_assignment, simple_key}
use Rattle.toml_span.specs.declared.claims.ClaimKind.TheVariants.{ArrayOfTables}
use Rattle.toml_span.specs.Claims.{assignments_claims, part_info}
use Rattle.toml_span.specs.code.Relative.{adding, counts_after_adding}
use Rattle.toml_span.specs.code.Placing.{Reaches}
use Rattle.toml_span.specs.code.Tree.{IsHeld, IsOpen, counts}
use Rattle.toml_span.proofs.Claimed.{Marked, marked-roll}
use Rattle.toml_span.proofs.Placed.{err-of}
use Rattle.toml_span.proofs.Borrowing.{keeps_array, keeps_marked, keeps_same}
use Rattle.toml_span.proofs.Headers.{end-first, end-first-err, end-further, end-table}
use Rattle.toml_span.proofs.Nodes.{no-entries, some-entries}
use Rattle.toml_span.proofs.sections.end_header.Goals as goal
use Rattle.toml_span.proofs.sections.end_header.Goals.{then-is_empty+in_ok-record_claim, else-is_empty}

pub returns-then-not-head-clause-places : goal.returns-then-not-head-clause-places
returns-then-not-head-clause-places c =
    end-table c.args.head (simple_key c.args.part.now) (assignments_claims (map parsed_assignment c.args.pairs.items) []) c.args.node.now c.open_table.new.node c.open_table.result
    (not-true c.args.head.array c.if-not-head.true) c.open_table.ensures.places

pub returns-in_err-record_claim-clause-places : goal.returns-in_err-record_claim-clause-places
returns-in_err-record_claim-clause-places c =
    end-first-err c.args.head (simple_key c.args.part.now) (assignments_claims (map parsed_assignment c.args.pairs.items) []) c.args.node.now _ c.from_residual.result c.in_err-record_claim.field-0.0 _ _
    (not-false c.args.head.array c.if-not-head.false) (no-entries c.args.node.now (sym c.is_empty.ensures ∙ c.if-is_empty.true))
    (err-of c.from_residual.result c.in_err-record_claim.field-0.0 _ c.from_residual.ensures.1 (λ y p. p)) (rw c.part_info-info.ensures at c.in_err-record_claim.ensures)

pub returns-clause-places : goal.returns-clause-places
returns-clause-places c =
    let k = simple_key c.args.part.now in
    let m = part_info c.args.head ArrayOfTables c.args.part.now.span in
    let tail = assignments_claims (map parsed_assignment c.args.pairs.items) [] in
    let array = not-false c.args.head.array c.if-not-head.false in
    elim c.if-is_empty.branch [
      | then-is_empty+in_ok-record_claim w ↦
          let claimed = rw w.part_info-info.ensures at w.in_ok-record_claim.ensures in
          end-first c.args.head k tail c.args.node.now c.if-is_empty.node c.add_entry.new.node c.add_entry.result array
          (no-entries c.args.node.now (sym c.is_empty.ensures ∙ w.if-is_empty.true)) claimed.0
          (subst (Marked m c.args.node.now) (sym w.node-is) (marked-roll m c.args.node.now _ claimed.1 refl refl refl)) c.add_entry.ensures.places
      | else-is_empty w ↦
          end-further c.args.head k tail c.args.node.now c.add_entry.new.node c.add_entry.result array
          (some-entries c.args.node.now (sym c.is_empty.ensures ∙ w.if-is_empty.false))
          (subst (λ n. Reaches IsOpen IsHeld n c.add_entry.new.node c.add_entry.result (adding c.args.head k tail (counts n [])) (counts_after_adding (counts n))) w.node-is c.add_entry.ensures.places)
    ]

pub returns-clause-borrows : goal.returns-clause-borrows
returns-clause-borrows c = λ text pairs.
    let keep = c.add_entry.ensures.borrows text pairs in
    elim c.if-is_empty.branch [
      | then-is_empty+in_ok-record_claim w ↦
          let claimed = rw w.part_info-info.ensures at w.in_ok-record_claim.ensures in
          keeps_marked text c.args.node.now _ (part_info c.args.head ArrayOfTables c.args.part.now.span) c.args.part.now.span c.add_entry.new.node c.add_entry.result refl claimed.1 refl refl refl
          (keeps_same text _ _ c.add_entry.new.node c.add_entry.result w.node-is keep)
      | else-is_empty w ↦
          keeps_array text c.args.part.now.span c.args.node.now c.add_entry.new.node c.add_entry.result (some-entries c.args.node.now (sym c.is_empty.ensures ∙ w.if-is_empty.false))
          (keeps_same text _ c.args.node.now c.add_entry.new.node c.add_entry.result w.node-is keep)
    ]
