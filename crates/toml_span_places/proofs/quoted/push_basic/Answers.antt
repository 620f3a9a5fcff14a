use Rattle.toml_span_lex.proofs.Common.{sym, ap, ◌∙◌, map-id, string_bytes, ◌++◌, YieldsList-from_chars, YieldsList-end, flat_map}
use Rattle.toml_span_places.specs.Quoted.{basic, basic_char}
use Rattle.toml_span_places.proofs.quoted.push_basic.Goals as goal

pub returns : goal.returns
unfolding basic
returns c =
    let end = YieldsList-end (YieldsList-from_chars c.args.text.now c.utf8.text cc) c.loop-c.yielded _ c.loop-c.yielded_by _ _ c.in-None.is c.next.ensures.steps in
    c.loop-c.invariant ∙ ap (λ cs. string_bytes c.args.out.now ++ flat_map basic_char cs) (sym (map-id c.loop-c.yielded) ∙ end.0)
