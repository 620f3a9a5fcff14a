use Rattle.toml_span_lex.proofs.Common.{◌≡◌, ◌-◌, ◌++◌, ◌∙◌, ap, arith, drop, inl, inr, length, sym, take, take-append-drop, ⊎_elim}
use Rattle.toml_span_lsp.proofs.Served.{drop_read, ends_memory, ends_stay, long_step, no_frame_after, serves_finish}
use Rattle.toml_span_lsp.proofs.server.refuse_frame.Goals as goal

pub returns-in_default : goal.returns-in_default
returns-in_default g c = λ p alive. ends_memory _ _ _ _ _ _ _ c.end_with.ensures

pub returns-in-Some : goal.returns-in-Some
returns-in-Some g c = λ p alive.
    let got = c.in-Some.ensures in
    ends_stay p c.args.bytes.now.items got.0 _ _ _ _ _ _ _ got.1 (⊎_elim
    (λ e. inr (inr (inl (e.0, no_frame_after _ _ _ c.requires.long)))) (λ e. inr (inr (inr (inl (e.0, inl e.1))))) got.2)

pub returns : goal.returns
returns g c = λ p alive.
    let bytes = c.args.bytes.now.items in
    let end = c.args.end in
    let got = c.in_default-discard.ensures in
    let count : length got.0 ≡ end - length bytes = omega (arith, got.2, c.len.ensures, c.saturating_sub-left.ensures, c.args.bytes.now.ok.0) in
    let frame = take end (bytes ++ got.0) in
    serves_finish c.finish_frame.result p p frame _ bytes _ (drop end bytes) got.0 _ _ c.finish_frame.ensures.writer
    (long_step p bytes got.0 c.in-Ok.out.items _ end c.requires.frame alive count c.as_slice.ensures.value c.in-Ok.ensures)
    (sym (take-append-drop end (bytes ++ got.0)) ∙ ap (λ xs. frame ++ xs) (drop_read bytes got.0 end count)) got.1 alive c.finish_frame.ensures.bytes
