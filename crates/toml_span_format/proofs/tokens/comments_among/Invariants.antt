use Rattle.toml_span_lex.proofs.Common.{◌≡◌, filter, map, take}
use Rattle.toml_span_format.specs.Tokens.{is_comment}
use Rattle.toml_span_format.proofs.tokens.comments_among.Given as goal

abbrev pub invariant-loop-token : goal.invariant-loop-token
invariant-loop-token l = map (λ t. t.now) l.found.items ≡ filter is_comment (map (λ t. t.now) (take l.token-index l.tokens))
