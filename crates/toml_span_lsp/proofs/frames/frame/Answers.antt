use Rattle.toml_span_lex.proofs.Common.{◌∙◌, ◌++◌, sym, length, arith}
use Rattle.std.proofs.lemmas.Bool.{cond_below}
use Rattle.toml_span_lsp.specs.Frames.{frame_of, head_of}
use Rattle.toml_span_lsp.specs.declared.frames.Framed.TheVariants.{Part, Whole}
use Rattle.toml_span_lsp.proofs.Headers.{frame_line, length_frame, length_head, line_lacks, line_of, line_short, no_end, some_end}
use Rattle.toml_span_lsp.proofs.frames.frame.Goals as goal

pub returns-in-Some-clause-frame : goal.returns-in-Some-clause-frame
returns-in-Some-clause-frame c = λ content more rest short is.
    let n = length content in
    let found = some_end _ _ _ (c.in-Some.ensures.first (line_of n) more (content ++ rest) (line_lacks n (omega arith)) (line_short n short) (is ∙ frame_line content rest)) in
    c.frame_after.ensures.frame content more rest short is (found.0 ∙ sym (length_head n))

pub returns-in-None-clause-frame : goal.returns-in-None-clause-frame
returns-in-None-clause-frame c = λ content more rest short is.
    let n = length content in
    let low = no_end _ _ (c.in-None.ensures.first (line_of n) more (content ++ rest) (line_lacks n (omega arith)) (line_short n short) (is ∙ frame_line content rest)) in
    cond_below (length c.args.bytes.now) (length (frame_of content)) Part (Whole (length (head_of n)) (length (frame_of content))) (omega (arith, low, length_frame content, length_head n))

pub returns-in-None-2-clause-frame : goal.returns-in-None-2-clause-frame
returns-in-None-2-clause-frame c = λ content more rest short is.
    let n = length content in
    let low = no_end _ _ (c.in-None.ensures.first (line_of n) more (content ++ rest) (line_lacks n (omega arith)) (line_short n short) (is ∙ frame_line content rest)) in
    absurd (omega (arith, low, line_short n short))
