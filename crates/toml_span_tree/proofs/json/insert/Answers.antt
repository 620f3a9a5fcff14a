use Rattle.serde_json.proofs.Views.{members_view-insert_entry}
use Rattle.serde_json.specs.View.{members_view}
use Rattle.toml_span_lex.proofs.Common.{ap, ◌∙◌}
use Rattle.toml_span_tree.proofs.json.insert.Goals as goal

pub returns : goal.returns
returns c = ap members_view c.in_ok-insert.ensures.entries ∙ members_view-insert_entry c.args.made.now.entries c.args.name c.args.json
