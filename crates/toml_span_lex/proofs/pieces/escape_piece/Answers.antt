use Rattle.toml_span_lex.proofs.Common.{arith, refl, inl, inr, sym, ◌∙◌, false≢true}
use Rattle.toml_span_lex.proofs.Runs.{after_ascii}
use Rattle.toml_span_lex.proofs.pieces.escape_piece.Goals as goal
use Rattle.toml_span_lex.proofs.pieces.escape_piece.Goals.{else-multi-via-then-multi+else-ws_or_newline_at, else-multi-via-else-multi}

pub escape-requires : goal.escape-requires
escape-requires c = after_ascii c.args.text.now c.args.at _ refl c.utf8.text c.requires.within (omega arith)

pub returns-in-Err-clause-piece : goal.returns-in-Err-clause-piece
returns-in-Err-clause-piece c = inr (inr (inr (inl (
  refl,
  c.requires.here,
  (λ m. elim c.else-multi.branch [
    | else-multi-via-then-multi+else-ws_or_newline_at w ↦ cc w.ws_or_newline_at.ensures.gap
    | else-multi-via-else-multi w ↦ absurd (false≢true (sym w.if-multi.false ∙ m))
  ]),
  c.in-Err.ensures.escape,
))))
