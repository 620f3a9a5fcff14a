use Rattle.toml_span_lex.proofs.Common.{[], rules, sym, ap, ◌∙◌, map-id, has_written_append, has_written_of_eq, flat_map_more, YieldsList-from_chars, YieldsList-end, flat_map}
use Rattle.toml_span_tree.specs.Listed.{quoted_char}
use Rattle.toml_span_tree.proofs.listed.write_quoted_chars.Goals as goal

pub loop-c-preserved : goal.loop-c-preserved
loop-c-preserved g c = λ plain.
    let before = c.loop-c.invariant plain in
    has_written_of_eq _ _ _ _ _ (flat_map_more quoted_char [] c.loop-c.yielded c.in-Some.c)
    (has_written_append _ _ _ _ _ _ before (c.write_quoted_char.ensures before.plain (search rules)))

pub returns : goal.returns
returns g c = λ plain ok.
    let end = YieldsList-end (YieldsList-from_chars c.args.name.now c.utf8.name cc) c.loop-c.yielded _ c.loop-c.yielded_by _ _ c.in-None.is c.next.ensures.steps in
    has_written_of_eq _ _ _ _ _ (ap (flat_map quoted_char) (sym (map-id c.loop-c.yielded) ∙ end.0)) (c.loop-c.invariant plain)
