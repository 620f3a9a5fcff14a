use Rattle.toml_span_lex.proofs.Common.{◌∙◌}
use Rattle.toml_span_edit.proofs.CommentLemmas.{among_end}
use Rattle.toml_span_edit.proofs.comments.are_among.Goals as goal

pub returns : goal.returns
returns c =
    among_end c.args.parts.now c.args.whole.now c.loop-other.at c.loop-other.other-index c.loop-other-test.false
    ∙ c.loop-other.invariant
