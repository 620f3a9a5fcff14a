use Rattle.toml_span_lex.proofs.Common.{◌≡◌, drop, map}
use Rattle.toml_span_edit.specs.Comments.{are_among}
use Rattle.toml_span_edit.proofs.comments.are_among.Given as goal

abbrev pub invariant-loop-other : goal.invariant-loop-other
invariant-loop-other l =
    are_among (map (λ t. t.now) (drop l.at l.parts)) (map (λ t. t.now) (drop l.other-index l.whole))
    ≡ are_among (map (λ t. t.now) l.parts) (map (λ t. t.now) l.whole)
