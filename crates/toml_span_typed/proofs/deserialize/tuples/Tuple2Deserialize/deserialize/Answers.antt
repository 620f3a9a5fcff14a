use Rattle.toml_span_lex.proofs.Common.{ap, map, sym, ◌∙◌}
use Rattle.toml_span_tree.specs.Error.{content_of}
use Rattle.toml_span_tree.specs.Value.{view}
use Rattle.toml_span_tree.specs.code.Errors.{all_of_option}
use Rattle.toml_span_typed.proofs.Tuples.{pair_failed}
use Rattle.toml_span_typed.proofs.deserialize.tuples.Tuple2Deserialize.deserialize.Goals as goal

pub returns-in-Some : goal.returns-in-Some
returns-in-Some g c =
    let none = map content_of c.new-faults.result.items in
    let first = map content_of c.read_or_keep.new.faults.items in
    let both = map content_of c.read_or_keep-2.new.faults.items in
    let left = sym c.from_list.ensures ∙ ap all_of_option c.in-Some.is in
    pair_failed g.A.Deserialize.reads g.B.Deserialize.reads (view c.args.value.now) _ _ _ _ _ _ none first both _ c.in-Ok.ensures.ok
    c.two.ensures.taken (ap (map content_of) c.new-faults.ensures.items) c.in-Ok-read_or_keep.ensures.ok c.in_ok-second.ensures.ok left
