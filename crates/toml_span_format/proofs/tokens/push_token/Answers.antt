use Rattle.toml_span_lex.proofs.Common.{◌∙◌, ◌++◌, ◌∷◌, [], ap, append-nil, map, map-append, sym}
use Rattle.toml_span_format.proofs.PieceLemmas.{token_dropped, token_kept}
use Rattle.toml_span_format.proofs.tokens.push_token.Goals as goal

pub returns-then-is_layout : goal.returns-then-is_layout
returns-then-is_layout c =
    let before = map (λ t. t.now) c.args.found.now.items in
    sym (ap (λ ts. before ++ ts) (token_dropped c.args.text.now c.args.piece (sym c.is_layout.ensures ∙ c.if-is_layout.true)) ∙ append-nil before)

pub returns : goal.returns
returns c =
    let before = map (λ t. t.now) c.args.found.now.items in
    let one = token_kept c.args.text.now c.args.piece c.trim_ascii_end.result.now (sym c.is_layout.ensures ∙ c.if-is_layout.false) c.trim_ascii_end.ensures.value in
    rw c.in_ok-push.ensures.items (map-append (λ t. t.now) c.args.found.now.items (c.trim_ascii_end.result ∷ []) ∙ ap (λ ts. before ++ ts) (sym one))
