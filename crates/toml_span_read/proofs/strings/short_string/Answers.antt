use Rattle.toml_span_lex.proofs.Common.{rules, ◌≡◌, ◌<◌, ◌+◌, get_or, ap, Global}
use Rattle.std.specs.declared.borrow.CowStr.TheVariants as cow
use Rattle.toml_span_read.proofs.ShortStrings.{short_read, after_quote}
use Rattle.toml_span_read.proofs.strings.short_string.Goals as goal

pub plain_end-end-requires-clause-boundary : goal.plain_end-end-requires-clause-boundary
plain_end-end-requires-clause-boundary c = after_quote c.args.text.now c.args.at c.utf8.text c.requires.quote

pub range-requires-clause-start_boundary : goal.range-requires-clause-start_boundary
range-requires-clause-start_boundary c = λ some. after_quote c.args.text.now c.args.at c.utf8.text c.requires.quote

pub returns-clause-string : goal.returns-clause-string
returns-clause-string c =
    let text = c.args.text.now in
    let i = c.args.at in
    let j = c.plain_end-end.result in
    let q = ap (λ xs. get_or xs i 0) c.as_bytes.ensures.value in
    let l : i + 1 < j = search rules in
    let e : get_or text j 0 ≡ get_or c.as_bytes.result.now i 0 = search rules in
    (short_read {Z = Global} text (get_or c.as_bytes.result.now i 0) i j (cow.Borrowed c.range.result) c.utf8.text q c.requires.quote l c.plain_end-end.ensures.run e tt c.range.ensures.value).0
