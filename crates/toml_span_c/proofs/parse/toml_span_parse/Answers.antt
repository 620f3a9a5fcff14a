use Rattle.toml_span_read.specs.Data.{depth_limit}
use Rattle.toml_span_c.proofs.Bound.{tree-fits}
use Rattle.toml_span_c.proofs.parse.toml_span_parse.Goals as goal

pub put_tree-requires : goal.put_tree-requires
put_tree-requires c = rw c.in-Tree.ensures.1 (tree-fits c.args.text.now depth_limit c.in-Tree.root c.in-Tree.ensures.0 c.in-Tree.ensures.2)
