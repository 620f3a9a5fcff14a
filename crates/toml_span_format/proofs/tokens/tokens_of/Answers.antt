use Rattle.toml_span_lex.proofs.Common.{◌∙◌, ◌++◌, ◌∷◌, [], get_or, ap, arith, sym, take_all}
use Rattle.toml_span_format.specs.Tokens.{tokens}
use Rattle.toml_span_format.proofs.PieceLemmas.{no_piece, tokens_more}
use Rattle.toml_span_format.proofs.tokens.tokens_of.Goals as goal

pub push_token-requires : goal.push_token-requires
push_token-requires c = c.requires c.loop-piece.piece-index no_piece (omega arith)

pub loop-piece-preserved : goal.loop-piece-preserved
loop-piece-preserved c =
    let text = c.args.text.now in
    let ps = c.args.pieces.now in
    let i = c.loop-piece.piece-index in
    let more = tokens_more text ps i (omega arith) in
    c.in_ok-push_token.ensures ∙ ap (λ ts. ts ++ tokens text (get_or ps i no_piece ∷ [])) c.loop-piece.invariant ∙ sym more

pub returns : goal.returns
returns c = c.loop-piece.invariant ∙ ap (tokens c.args.text.now) (take_all c.loop-piece.piece-index c.args.pieces.now (omega arith))
