use Rattle.toml_span_lex.proofs.Common.{◌∙◌, ◌<◌, ◌^◌, ℕ, List, IsUtf8, length, none-some, same_Some, subst, sym, arith}
use Rattle.toml_span_lsp.specs.Frames.{IsShort}
use Rattle.toml_span_lsp.proofs.Headers.{framed_from, head_read, head_utf8, length_head, line_short, same_frame}
use Rattle.toml_span_lsp.proofs.frames.frame_after.Goals as goal

small : (content : List ℕ) → IsShort content → length content < 2 ^ 64
small content short = omega arith

pub returns-in_default-clause-frame : goal.returns-in_default-clause-frame
returns-in_default-clause-frame c = λ content more rest short is at.
    let heads = head_read content more rest c.args.bytes.now c.args.start is (at ∙ length_head (length content)) c.requires.within in
    absurd (c.in_default.ensures.cases.0 (subst IsUtf8 (sym heads) (head_utf8 (length content) (small content short))))

pub returns-in-None-clause-frame : goal.returns-in-None-clause-frame
returns-in-None-clause-frame c = λ content more rest short is at.
    let heads = head_read content more rest c.args.bytes.now c.args.start is (at ∙ length_head (length content)) c.requires.within in
    absurd (none-some _ (c.in-None.ensures (length content) (small content short) (c.in-Ok.ensures.cases.0 ∙ heads)))

pub returns-in-Some-clause-frame : goal.returns-in-Some-clause-frame
returns-in-Some-clause-frame c = λ content more rest short is at.
    let n = length content in
    let heads = head_read content more rest c.args.bytes.now c.args.start is (at ∙ length_head (length content)) c.requires.within in
    let count = same_Some _ _ (c.in-Some.ensures n (small content short) (c.in-Ok.ensures.cases.0 ∙ heads)) in
    c.content.ensures.frame (omega arith) (omega (arith, length_head n, line_short n short)) ∙ same_frame content c.args.start c.in-Some.length _ at count

pub returns-in-Some-clause-framed : goal.returns-in-Some-clause-framed
returns-in-Some-clause-framed c =
    framed_from c.args.bytes.now c.args.start c.in-Some.length _ c.content.ensures.fits c.requires.within
    (c.requires.headers, λ m small is. same_Some _ _ (c.in-Some.ensures m small (c.in-Ok.ensures.cases.0 ∙ is)))
