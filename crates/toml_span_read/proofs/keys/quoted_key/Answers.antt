use Rattle.toml_span_lex.proofs.Common.{refl, true, false}
use Rattle.toml_span_lex.specs.Tokens.{string}
use Rattle.toml_span_read.specs.Read.{token}
use Rattle.toml_span_read.proofs.keys.quoted_key.Goals as goal

pub returns-then-token-clause-key : goal.returns-then-token-clause-key
returns-then-token-clause-key c =
    let h = c.in_ok-token.ensures.string in
    (token c.in_ok-token.token.span (string h.0 _ true) c.in_ok-token.token.end, (rw c.if-token.true at h.1), (rw c.as_ref.ensures.value refl))

pub returns-clause-key : goal.returns-clause-key
returns-clause-key c =
    let h = c.in_ok-token.ensures.string in
    (token c.in_ok-token.token.span (string h.0 _ false) c.in_ok-token.token.end, (rw c.if-token.false at h.1), refl)
