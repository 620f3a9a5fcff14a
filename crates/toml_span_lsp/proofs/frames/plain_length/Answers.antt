use Rattle.toml_span_lex.proofs.Common.{◌++◌, codes, decimal, arith, common_steps}
use Rattle.std.proofs.lemmas.Fmt.{parse-decimal}
use Rattle.toml_span_lsp.proofs.Headers.{after_front, before_end}
use Rattle.toml_span_lsp.proofs.frames.plain_length.Goals as goal

pub returns-in_err-value : goal.returns-in_err-value
returns-in_err-value c = λ n small is. absurd (c.in_err-value.ensures.cases (decimal n ++ codes "\r\n\r\n") is)

pub returns-in_err-strip_suffix : goal.returns-in_err-strip_suffix
returns-in_err-strip_suffix c = λ n small is.
    let front = c.in_ok-value.ensures.cases in
    let value = after_front (codes "Content-Length: ") c.args.headers.now _ (decimal n ++ codes "\r\n\r\n") _ front.1.0 is front.2 in
    absurd (c.in_err-strip_suffix.ensures.cases (decimal n) value)

pub returns : goal.returns
returns c = λ n small is.
    let front = c.in_ok-value.ensures.cases in
    let value = after_front (codes "Content-Length: ") c.args.headers.now _ (decimal n ++ codes "\r\n\r\n") _ front.1.0 is front.2 in
    let end = c.in_ok-strip_suffix.ensures.cases in
    let digits = before_end (codes "\r\n\r\n") _ _ (decimal n) _ end.1.0 value end.2 in
    let read = parse-decimal 64 n _ c.parse.result small small digits c.parse.ensures.value.0 in
    grind (arith, common_steps, read)
