use Rattle.toml_span_lex.proofs.Common.{◌+◌, ◌-◌, ◌∙◌, Decides-eqb, Some, None, codes, length, drop, sym, take, take_all, length-drop, arith}
use Rattle.std.proofs.lemmas.Bool.{cond_below}
use Rattle.std.proofs.lemmas.Slice.Eq.{starts_is}
use Rattle.toml_span_lsp.proofs.Headers.{ends_at, ends_later, headers_at}
use Rattle.toml_span_lsp.proofs.frames.headers_end.Goals as goal

pub loop-at-init : goal.loop-at-init
loop-at-init c = λ head more rest is. omega arith

pub loop-at-preserved : goal.loop-at-preserved
loop-at-preserved c = λ head more rest is.
    let low = c.loop-at.invariant head more rest is in
    let bytes = c.args.bytes.now in
    let from = c.loop-at.at - 3 in
    ends_later head rest bytes more (take (length bytes - from) (drop from bytes)) _ _ is
    (take_all (length bytes - from) (drop from bytes) (omega (arith, length-drop from bytes)))
    c.starts_with.ensures.value c.if-starts_with.false (omega arith) (omega arith) low

pub returns-then-starts_with-clause-first : goal.returns-then-starts_with-clause-first
returns-then-starts_with-clause-first c = λ head more rest lacks short is.
    let low = c.loop-at.invariant head more rest is in
    let bytes = c.args.bytes.now in
    let from = c.loop-at.at - 3 in
    ends_at head rest bytes more (take (length bytes - from) (drop from bytes)) _ _ lacks is
    (take_all (length bytes - from) (drop from bytes) (omega (arith, length-drop from bytes)))
    c.starts_with.ensures.value c.if-starts_with.true (omega arith) low

pub returns-then-starts_with-clause-headers : goal.returns-then-starts_with-clause-headers
returns-then-starts_with-clause-headers c =
    let bytes = c.args.bytes.now in
    let from = c.loop-at.at - 3 in
    let rest = take (length bytes - from) (drop from bytes) in
    let here = sym (take_all (length bytes - from) (drop from bytes) (omega (arith, length-drop from bytes)))
    ∙ (starts_is Decides-eqb rest (codes "\r\n\r\n") _ c.starts_with.ensures.value).0 c.if-starts_with.true in
    headers_at bytes (drop 4 rest) c.loop-at.at (omega arith) (omega arith) here c.loop-at.invariant

pub returns-clause-first : goal.returns-clause-first
returns-clause-first c = λ head more rest lacks short is.
    let low = c.loop-at.invariant head more rest is in
    cond_below (length c.args.bytes.now) (length head + 4) None (Some (length head + 4)) (omega arith)
