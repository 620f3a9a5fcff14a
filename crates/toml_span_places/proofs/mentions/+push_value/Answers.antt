use Rattle.toml_span_lex.proofs.Common.{◌≡◌, ◌∷◌, [], ◌++◌, ◌∙◌, map, sym}
use Rattle.toml_span_read.specs.Data.{parsed_value}
use Rattle.toml_span_tree.specs.Nodes.{step_of}
use Rattle.toml_span_tree.specs.Path.{position}
use Rattle.toml_span_places.specs.Mentions.{mentioned, value_mentions}
use Rattle.toml_span_places.proofs.ValueSizes.{elements_next, elements_small}
use Rattle.toml_span_places.proofs.mentions.+push_value.Goals as goal

pub push_items-loop-position-preserved : goal.push_items-loop-position-preserved
push_items-loop-position-preserved t c =
    let l = c.loop-position in
    let vs = c.args.items.now in
    let path = map step_of c.args.path.now in
    let v = c.index-items-position.result in
    let here = sym c.index-items-position.is in
    let more : map mentioned c.push_value.new.out.items
    ≡ map mentioned l.out.items ++ value_mentions (path ++ (position l.position ∷ [])) (parsed_value v) =
    c.in_ok-push_value.ensures ∙ rw (c.as_slice.ensures.value, c.in_ok-element.ensures) in
    record {
      small = elements_small l.position vs v _ c.loop-position-test.true here l.invariant.small;
      out = elements_next path l.position vs v _ _ _ c.loop-position-test.true here more l.invariant.out;
    }
