use Rattle.toml_span_lex.proofs.Common.{refl, map, []}
use Rattle.toml_span_read.specs.Data.{parsed_assignment, simple_key}
use Rattle.toml_span.specs.Claims.{assignments_claims, part_info}
use Rattle.toml_span.specs.code.Placing.{Opens}
use Rattle.toml_span.proofs.Claimed.{marked-roll}
use Rattle.toml_span.proofs.Placed.{err-of}
use Rattle.toml_span.proofs.Borrowing.{err_ok, keeps_marked}
use Rattle.toml_span.proofs.Headers.{opened-table, opening-err}
use Rattle.toml_span.proofs.sections.open_table.Goals as goal

pub returns-in_err-record_claim : goal.returns-in_err-record_claim
returns-in_err-record_claim c = record {
  places =
      opening-err c.args.head (simple_key c.args.part.now) (Opens c.args.kind) c.args.kind
      (assignments_claims (map parsed_assignment c.args.pairs.items) []) c.args.node.now _ c.from_residual.result c.in_err-record_claim.field-0.0 _ _
      (err-of c.from_residual.result c.in_err-record_claim.field-0.0 _ c.from_residual.ensures.1 (λ y p. p)) (rw c.part_info.ensures at c.in_err-record_claim.ensures);
  borrows = λ text pairs before. err_ok c.from_residual.result _ _ c.from_residual.ensures.1;
}

pub returns : goal.returns
returns c = record {
  places =
      let claimed = rw c.part_info.ensures at c.in_ok-record_claim.ensures in
      opened-table c.args.head (simple_key c.args.part.now) c.args.kind (assignments_claims (map parsed_assignment c.args.pairs.items) []) c.args.node.now _ c.place_all.new.node c.place_all.result claimed.0
      (marked-roll (part_info c.args.head c.args.kind c.args.part.now.span) c.args.node.now _ claimed.1 refl refl refl) c.place_all.ensures.places;
  borrows = λ text pairs.
      let claimed = rw c.part_info.ensures at c.in_ok-record_claim.ensures in
      keeps_marked text c.args.node.now _ (part_info c.args.head c.args.kind c.args.part.now.span) c.args.part.now.span _ c.place_all.result refl claimed.1 refl refl refl (c.place_all.ensures.borrows text pairs);
}
