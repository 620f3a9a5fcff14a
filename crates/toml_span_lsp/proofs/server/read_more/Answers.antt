use Rattle.toml_span_lex.proofs.Common.{◌≡◌, ◌<◌, [], ◌++◌, ◌∙◌, ap, append-nil, arith, common_steps, inl, inr, length, nat_tests, nil_from_length, take}
use Rattle.std.proofs.KnownBytes.{Consumes-kept, Consumes-nil}
use Rattle.toml_span_lsp.proofs.Served.{consumes_none, ends_stay, goes_read, no_frame_at_end}
use Rattle.toml_span_lsp.proofs.server.read_more.Goals as goal

pub returns-in-Ok-eq0 : goal.returns-in-Ok-eq0
returns-in-Ok-eq0 g c = λ p w x alive good.
    let bytes = c.args.bytes.now in
    let read = c.in-Ok-eq0.ensures.bytes in
    let none : c.in-Ok-eq0.field-0 ≡ 0 = omega arith in
    let size : length bytes.items ≡ 0 = grind (arith, nat_tests, c.is_empty.ensures, c.if-is_empty.true, bytes.ok.0) in
    let room : 0 < length c.read.new.buf = omega arith in
    ends_stay p bytes.items [] _ _ w _ _ x _ (consumes_none _ _ c.read.new.buf _ none read.0)
    (inr (inl (c.end_with.ensures, append-nil bytes.items ∙ nil_from_length bytes.items size, read.1 none room)))

pub returns-in-Ok-eq0-2 : goal.returns-in-Ok-eq0-2
returns-in-Ok-eq0-2 g c = λ p w x alive good.
    let read = c.in-Ok-eq0.ensures.bytes in
    let none : c.in-Ok-eq0.field-0 ≡ 0 = omega arith in
    let room : 0 < length c.read.new.buf = omega arith in
    ends_stay p c.args.bytes.now.items [] _ _ w _ _ x _ (consumes_none _ _ c.read.new.buf _ none read.0)
    (inr (inr (inl (c.end_with-in-Ok-eq0-2.ensures, no_frame_at_end _ _ (read.1 none room) c.requires))))

pub returns-in-Ok-extend_from_slice : goal.returns-in-Ok-extend_from_slice
returns-in-Ok-extend_from_slice g c = λ p w x alive good.
    let old = c.args.bytes.now.items in
    let more = take c.in-Ok.count c.read.new.buf in
    let grown : c.extend_from_slice.new.self.items ≡ old ++ more = grind (arith, common_steps) in
    goes_read p old _ more _ _ w _ _ x c.in-Ok.ensures.bytes.0 grown alive good

pub returns-in-Err-extend_from_slice : goal.returns-in-Err-extend_from_slice
returns-in-Err-extend_from_slice g c = λ p w x alive good.
    let more = take c.in-Ok.count c.read.new.buf in
    ends_stay p _ more _ _ w _ _ x _ c.in-Ok.ensures.bytes.0 (inr (inr (inr (inr c.end_with-in-Err-extend_from_slice.ensures))))

pub returns-in-Err : goal.returns-in-Err
returns-in-Err g c = λ p w x alive good.
    let left = g.R.Source.remaining c.args.reader.now in
    ends_stay p _ [] left _ w _ _ x _ (Consumes-kept left left _ [] (Consumes-nil left) c.in-Err.ensures.bytes)
    (inr (inr (inr (inl (c.end_with-in-Err.ensures, inl c.in-Err.ensures.failed_after)))))
