use Rattle.std.proofs.Common.{◌≡◌, ◌+◌, ◌*◌, drop, map}
use Rattle.json.specs.Value.{items_view, members_view, value_view}
use Rattle.toml_span_schema.specs.Compiled.{are_led, below, items_lead, members_lead}
use Rattle.toml_span_schema.proofs.schema.Schema.+compiled.Given as goal

abbrev pub decreases-is_compiled : goal.decreases-is_compiled
decreases-is_compiled l = 9 * l.left

abbrev pub decreases-keeps : goal.decreases-keeps
decreases-keeps l = 9 * l.left + 8

abbrev pub decreases-is_around : goal.decreases-is_around
decreases-is_around l = 9 * l.left + 7

abbrev pub decreases-keeps_all : goal.decreases-keeps_all
decreases-keeps_all l = 9 * l.left + 6

abbrev pub decreases-keeps_schemas : goal.decreases-keeps_schemas
decreases-keeps_schemas l = 9 * l.left + 5

abbrev pub decreases-keeps_members : goal.decreases-keeps_members
decreases-keeps_members l = 9 * l.left + 5

abbrev pub decreases-items_led : goal.decreases-items_led
decreases-items_led l = 9 * l.left + 5

abbrev pub decreases-are_led : goal.decreases-are_led
decreases-are_led l = 9 * l.left + 4

abbrev pub decreases-is_led : goal.decreases-is_led
decreases-is_led l = 9 * l.left + 3

abbrev pub decreases-items_lead : goal.decreases-items_lead
decreases-items_lead l = 9 * l.left + 2

abbrev pub decreases-members_lead : goal.decreases-members_lead
decreases-members_lead l = 9 * l.left + 2

abbrev pub decreases-leads : goal.decreases-leads
decreases-leads l = 9 * l.left + 1

abbrev pub invariant-are_led-loop-name : goal.invariant-are_led-loop-name
invariant-are_led-loop-name l =
    are_led (below l.self l.draft l.left) (map (λ n. n.now) (drop l.name-index l.names)) l.keywords
    (value_view l.value)
    ≡ are_led (below l.self l.draft l.left) (map (λ n. n.now) l.names) l.keywords (value_view l.value)

abbrev pub invariant-items_lead-loop-at : goal.invariant-items_lead-loop-at
invariant-items_lead-loop-at l =
    items_lead (below l.self l.draft l.left) l.name l.keywords l.at (items_view (drop l.at l.items))
    ≡ items_lead (below l.self l.draft l.left) l.name l.keywords 0 (items_view l.items)

abbrev pub invariant-members_lead-loop-at : goal.invariant-members_lead-loop-at
invariant-members_lead-loop-at l =
    members_lead (below l.self l.draft l.left) l.name l.keywords l.at
    (members_view (drop l.at l.members))
    ≡ members_lead (below l.self l.draft l.left) l.name l.keywords 0 (members_view l.members)
