use Rattle.toml_span_lex.proofs.Common.{◌∙◌, refl, arith, nat_tests, common_steps}
use Rattle.toml_span_tree.specs.Value.{view}
use Rattle.toml_span_c.specs.Records.{tree_entries, tree_records, tree_strings}
use Rattle.toml_span_c.proofs.Arrays.{laid-filled}
use Rattle.toml_span_c.proofs.Puts.{length-records}
use Rattle.toml_span_c.proofs.fill.put_tree.Goals as goal

pub returns-clause-nodes : goal.returns-clause-nodes
returns-clause-nodes c =
    let puts = c.put_value.ensures 0 0 (record { nodes = refl; strings = refl }) c.requires in
    puts.nodes ∙ laid-filled (tree_records c.args.document.now (view c.args.root.now)) c.args.nodes.now

pub returns-clause-strings : goal.returns-clause-strings
returns-clause-strings c =
    let puts = c.put_value.ensures 0 0 (record { nodes = refl; strings = refl }) c.requires in
    puts.strings ∙ laid-filled (tree_strings c.args.document.now (view c.args.root.now)) c.args.strings.now

pub returns-clause-counts : goal.returns-clause-counts
returns-clause-counts c =
    let puts = c.put_value.ensures 0 0 (record { nodes = refl; strings = refl }) c.requires in
    let es = tree_entries (view c.args.root.now) in
    grind (arith, nat_tests, common_steps, puts.counts.nodes, puts.counts.strings, length-records c.args.document.now 0 es)
