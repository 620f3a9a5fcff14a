use Rattle.toml_span_lex.proofs.Common.{◌≡◌, fold, map, option_map}
use Rattle.std.specs.Prelude.{filter_map}
use Rattle.toml_span_tree.specs.Nodes.{seen}
use Rattle.toml_span_tree.specs.Value.{view}
use Rattle.toml_span_places.specs.Spots.{later, node_at, spot, spot_of}
use Rattle.toml_span_places.proofs.spots.node_at.Given as goal

abbrev pub invariant-loop-node : goal.invariant-loop-node
invariant-loop-node l =
    fold later (option_map spot l.best) (filter_map (spot_of l.text l.offset) (map seen l.node-iterator.rest.items))
    ≡ node_at l.text l.offset (view l.root)
