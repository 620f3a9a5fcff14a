use Rattle.toml_span_lex.proofs.Common.{arith, ◌≡◌, refl, common_steps, cow_str_bytes}
use Rattle.toml_span_read.proofs.EarlierTree.{puts-key}
use Rattle.toml_span_read.proofs.earlier.put_child.Goals as goal

pub returns : goal.returns
returns c =
    let k = cow_str_bytes c.args.key.now.name in
    let key = c.in_ok-key.key in
    let same : cow_str_bytes key.name ≡ k = grind (arith, common_steps) in
    puts-key c.args.node.now _ k key c.args.child same refl c.in_ok-insert.ensures.entries
