use Rattle.toml_span_lex.proofs.Common.{[], ◌++◌, ◌∙◌, Some, ap, append-nil, drop, sym, take, take-append-drop}
use Rattle.std.proofs.KnownBytes.{Consumes-nil}
use Rattle.toml_span_lsp.proofs.Served.{ends_exit, ends_finish, ends_memory, goes_step, take_step}
use Rattle.toml_span_lsp.proofs.server.take_frame.Goals as goal

pub returns-in_default : goal.returns-in_default
returns-in_default g c = λ left unread. ends_memory _ _ _ _ _ _ _ c.end_with.ensures

pub returns-in-Some : goal.returns-in-Some
returns-in-Some g c = λ left unread.
    let bytes = c.args.bytes.now.items in
    let end = c.args.span.end in
    ends_finish c.in-Some.end _ _ (take end bytes) _ bytes (drop end bytes) [] _ _ c.in-Some.ensures.writer
    (take_step _ _ bytes c.as_slice.result.now c.in-Ok.out.items _ c.args.span.start end c.requires.frame c.requires.phase c.as_slice.ensures.value c.as_slice-2.ensures.value c.in-Ok.ensures)
    (append-nil bytes ∙ sym (take-append-drop end bytes)) (Consumes-nil left)

pub returns-in-Some-exit_status : goal.returns-in-Some-exit_status
returns-in-Some-exit_status g c = λ left unread.
    let bytes = c.args.bytes.now.items in
    let end = c.args.span.end in
    ends_exit _ _ (take end bytes) _ bytes (drop end bytes) [] _ _ _ c.in_default-finish_frame.ensures.writer.1
    (take_step _ _ bytes c.as_slice.result.now c.in-Ok.out.items _ c.args.span.start end c.requires.frame c.requires.phase c.as_slice.ensures.value c.as_slice-2.ensures.value c.in-Ok.ensures)
    (append-nil bytes ∙ sym (take-append-drop end bytes)) (Consumes-nil left)
    (sym c.in-Some-exit_status.ensures ∙ ap (λ s. Some s) (sym c.end_with-in-Some-exit_status.ensures))

pub returns : goal.returns
returns g c = λ left unread.
    let bytes = c.args.bytes.now.items in
    let end = c.args.span.end in
    let done = c.in_default-finish_frame.ensures in
    goes_step _ _ (take end bytes) _ bytes _ [] _ _ done.writer.1
    (take_step _ _ bytes c.as_slice.result.now c.in-Ok.out.items _ c.args.span.start end c.requires.frame c.requires.phase c.as_slice.ensures.value c.as_slice-2.ensures.value c.in-Ok.ensures)
    (append-nil bytes ∙ sym (take-append-drop end bytes) ∙ ap (λ xs. take end bytes ++ xs) (sym done.bytes)) (Consumes-nil left) (sym c.in-None.ensures) done.writer.0
