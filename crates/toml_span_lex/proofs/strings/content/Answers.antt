use Rattle.toml_span_lex.proofs.Common.{arith, refl, ◌≡◌, ◌<◌, ◌++◌, ◌∷◌, [], slice_range}
use Rattle.toml_span_lex.specs.Strings.{content, content_end}
use Rattle.toml_span_lex.proofs.PieceLemmas.{Cut-more, content-more, piece_forward}
use Rattle.toml_span_lex.proofs.strings.content.Goals as goal
use Rattle.toml_span_lex.proofs.strings.content.Goals.{then-multi, else-multi}

pub pieces-preserved : goal.pieces-preserved
pieces-preserved c =
    let text = c.args.text.now in
    let q = c.args.quote in
    let m = c.args.multi in
    let arm = c.in-Ok-Some-default in
    let at = c.pieces.at in
    let cut = c.pieces.invariant.cut in
    let is = rw arm.field-0-0-is at arm.ensures.piece in
    let on : at < arm.next = piece_forward q m text at arm.next arm.piece is in
    record {
      forward = omega (arith, c.pieces.invariant.forward);
      boundary = arm.ensures.boundary;
      cut = (
        cut.0 ++ (arm.piece, arm.next) ∷ [],
        Cut-more q m text c.args.from at arm.next cut.0 arm.piece cut.1 is,
        rw (content-more q m text c.args.from at arm.next cut.0 arm.piece cut.1) (c.in-Ok-with_piece.ensures.ok q m (content text c.args.from cut.0) is cut.2),
      );
    }

pub returns-in-Ok-clause-content : goal.returns-in-Ok-clause-content
returns-in-Ok-clause-content c =
    let text = c.args.text.now in
    let arm = c.in-Ok-None-default in
    let cut = c.pieces.invariant.cut in
    let closes = rw arm.field-0-0-is at arm.ensures.piece in
    let to_is : c.if-multi.to ≡ content_end c.args.multi arm.end =
    elim c.if-multi.branch [ then-multi w ↦ rw w.if-multi.true w.to-is | else-multi w ↦ rw w.if-multi.false w.to-is ] in (
      content text c.args.from cut.0 ++ slice_range text c.pieces.at c.if-multi.to,
      record { pieces = cut.0; at = c.pieces.at; cut = cut.1; closes = closes; to_is = to_is; value_is = refl },
      c.in-Ok.ensures.ok c.args.quote _ cut.2,
    )

pub returns-in-Err-same-clause-content : goal.returns-in-Err-same-clause-content
returns-in-Err-same-clause-content c =
    let cut = c.pieces.invariant.cut in
    record { pieces = cut.0; at = c.pieces.at; cut = cut.1; change = c.in-Err-same.ensures.memory c.args.quote _ cut.2 }

pub returns-in-Err-with_piece-clause-content : goal.returns-in-Err-with_piece-clause-content
returns-in-Err-with_piece-clause-content c =
    let text = c.args.text.now in
    let q = c.args.quote in
    let m = c.args.multi in
    let arm = c.in-Ok-Some-default in
    let cut = c.pieces.invariant.cut in
    let is = rw arm.field-0-0-is at arm.ensures.piece in
    record {
      pieces = cut.0 ++ (arm.piece, arm.next) ∷ [];
      at = arm.next;
      cut = Cut-more q m text c.args.from c.pieces.at arm.next cut.0 arm.piece cut.1 is;
      change = c.in-Err-with_piece.ensures.memory q m _ is cut.2;
    }
