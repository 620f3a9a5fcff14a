use Rattle.toml_span_lex.proofs.Common.{refl}
use Rattle.toml_span_lex.proofs.Tables.{agree_below}
use Rattle.toml_span_lex.proofs.Marks.{alone, beside, each, inverted, masked_by_table}
use Rattle.toml_span_lex.proofs.lanes.marked_in_keys.Goals as goal

pub returns : goal.returns
unfolding agree_below
returns c =
    let v = c.args.bytes in
    let n = c.fits-bytes.0 in
    masked_by_table _ _ v _ n c.fits-bytes.1
    (inverted _ _ v _
    (each _ _ _ v _ _
    (each _ _ _ v _ _
    (each _ _ _ v _ _
    (each _ _ _ v _ _ (each _ _ _ v _ _ (beside _ v 32 n) (alone v 97 n)) (alone v 26 n))
    (each _ _ _ v _ _ (beside _ v 48 n) (alone v 10 n)))
    (beside _ v 45 n))
    (beside _ v 95 n)))
    refl
