use Rattle.toml_span_lex.proofs.Common.{◌≡◌, map, take}
use Rattle.toml_span_format.specs.Tokens.{tokens}
use Rattle.toml_span_format.proofs.tokens.tokens_of.Given as goal

abbrev pub invariant-loop-piece : goal.invariant-loop-piece
invariant-loop-piece l = map (λ t. t.now) l.found.items ≡ tokens l.text (take l.piece-index l.pieces)
