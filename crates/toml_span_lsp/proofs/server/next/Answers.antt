use Rattle.toml_span_lex.proofs.Common.{[], inl, inr}
use Rattle.std.proofs.KnownBytes.{Consumes-nil}
use Rattle.toml_span_lsp.proofs.Served.{ends_stay, framed_as, no_frame_after, no_frame_fault, no_frame_long, no_frame_part}
use Rattle.toml_span_lsp.proofs.server.next.Goals as goal

pub read_more-requires : goal.read_more-requires
read_more-requires g c = no_frame_part _ c.as_slice.result.now _ c.as_slice.ensures.value c.frame.ensures.frame c.in-Part.is

pub refuse_frame-requires-clause-frame : goal.refuse_frame-requires-clause-frame
refuse_frame-requires-clause-frame g c =
    framed_as _ c.as_slice.result.now _ _ c.as_slice.ensures.value c.in-TooLong.is c.frame.ensures.framed

pub refuse_frame-requires-clause-long : goal.refuse_frame-requires-clause-long
refuse_frame-requires-clause-long g c = λ more.
    no_frame_long _ c.as_slice.result.now more _ _ c.as_slice.ensures.value c.frame.ensures.frame c.in-TooLong.is

pub take_frame-requires-clause-frame : goal.take_frame-requires-clause-frame
take_frame-requires-clause-frame g c =
    framed_as _ c.as_slice.result.now _ _ c.as_slice.ensures.value c.in-Whole.is c.frame.ensures.framed

pub returns-in-Fault-Headers : goal.returns-in-Fault-Headers
returns-in-Fault-Headers g c = ends_stay _ c.args.bytes.now.items [] _ _ _ _ _ _ _ (Consumes-nil _) (inr (inr (inl (
  c.end_with.ensures,
  no_frame_after _ [] _ (λ more. no_frame_fault _ c.as_slice.result.now more _ _ c.as_slice.ensures.value c.frame.ensures.frame c.in-Fault-Headers.is),
))))

pub returns-in-Fault-Length : goal.returns-in-Fault-Length
returns-in-Fault-Length g c = ends_stay _ c.args.bytes.now.items [] _ _ _ _ _ _ _ (Consumes-nil _) (inr (inr (inl (
  c.end_with-in-Fault-Length.ensures,
  no_frame_after _ [] _ (λ more. no_frame_fault _ c.as_slice.result.now more _ _ c.as_slice.ensures.value c.frame.ensures.frame c.in-Fault-Length.is),
))))
