use Rattle.toml_span_lex.proofs.Common.{inl, inr, ne_eqb}
use Rattle.std.proofs.lemmas.Simd.{zip2_of_maps, zip2_splat}
use Rattle.toml_span_lex.proofs.Marks.{control_byte, masked, special_byte}
use Rattle.toml_span_lex.proofs.lanes.marked_in_strings.Goals.{then-quote-eq34, else-quote-eq34}
use Rattle.toml_span_lex.proofs.lanes.marked_in_strings.Goals as goal

pub returns : goal.returns
returns c =
    let v = c.args.bytes in
    let n = c.fits-bytes.0 in
    masked _ _ v _ n c.fits-bytes.1
    (zip2_of_maps _ _ _ v
    (zip2_of_maps _ _ _ v (zip2_of_maps _ _ _ v (zip2_splat _ v 16 32 n) (zip2_splat _ v 16 9 n)) (zip2_splat _ v 16 127 n))
    (zip2_of_maps _ _ _ v (zip2_splat _ v 16 c.args.quote n) (zip2_splat _ v 16 c.if-quote-eq34.escape n)))
    (λ x l. special_byte c.args.quote c.if-quote-eq34.escape x _ (control_byte x l) (elim c.if-quote-eq34.branch [ then-quote-eq34 w ↦ inl (w.if-quote-eq34.true, w.escape-is) | else-quote-eq34 w ↦ inr (ne_eqb _ _ w.if-quote-eq34.false, w.escape-is) ]))
