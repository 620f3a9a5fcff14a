use Rattle.toml_span_lex.proofs.Common.{sym, ap, ◌∙◌, map-id, YieldsList-from_chars, YieldsList-end, flat_map}
use Rattle.toml_span_check.specs.Words.{shown_word, shown_char}
use Rattle.toml_span_check.proofs.words.shown_word.Goals as goal

pub returns : goal.returns
unfolding shown_word
returns c =
    let end = YieldsList-end (YieldsList-from_chars c.args.text.now c.utf8.text cc) c.loop-c.yielded _ c.loop-c.yielded_by _ _ c.in-None.is c.next.ensures.steps in
    c.loop-c.invariant ∙ ap (flat_map shown_char) (sym (map-id c.loop-c.yielded) ∙ end.0)
