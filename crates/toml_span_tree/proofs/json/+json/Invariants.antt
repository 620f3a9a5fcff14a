use Rattle.toml_span_lex.proofs.Common.{◌≡◌, List, ◌++◌, take, map}
use Rattle.serde_json.specs.View as made
use Rattle.toml_span_tree.specs.Value.{view, members_view}
use Rattle.toml_span_tree.specs.Json.{json_of, json_members}
use Rattle.toml_span_tree.proofs.Values.{Entry}
use Rattle.toml_span_tree.proofs.json.+json.Given as goal

abbrev pub invariant-push_elements-loop-value : goal.invariant-push_elements-loop-value
invariant-push_elements-loop-value l =
    map made.view l.made.items ≡ map made.view l.fn.made.items ++ map (λ v. json_of (view v)) (take l.value-index l.elements)

abbrev pub invariant-json_of_entries-loop-key : goal.invariant-json_of_entries-loop-key
invariant-json_of_entries-loop-key l =
    (done : List Entry) × (l.table.entries ≡ done ++ l.key-iterator) × (made.members_view l.made.entries ≡ json_members (members_view done))
