use Rattle.toml_span_lex.proofs.Common.{refl}
use Rattle.toml_span_lex.proofs.Tables.{agree_below}
use Rattle.toml_span_lex.proofs.Marks.{beside, each, masked_by_table}
use Rattle.toml_span_lex.proofs.lanes.marked_in_comments.Goals as goal

pub returns : goal.returns
unfolding agree_below
returns c =
    let v = c.args.bytes in
    let n = c.fits-bytes.0 in
    masked_by_table _ _ v _ n c.fits-bytes.1 (each _ _ _ v _ _ (each _ _ _ v _ _ (beside _ v 32 n) (beside _ v 9 n)) (beside _ v 127 n)) refl
