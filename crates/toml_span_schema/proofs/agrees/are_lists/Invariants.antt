use Rattle.std.proofs.Common.{◌≡◌, ◌≤◌, drop}
use Rattle.json.specs.Value.{members_view}
use Rattle.toml_span_schema.specs.Agrees.{are_lists}
use Rattle.toml_span_schema.proofs.agrees.are_lists.Given as goal

abbrev pub invariant-loop-member : goal.invariant-loop-member
invariant-loop-member l = record {
  in_range : l.at ≤ l.member-index;
  rest : are_lists l.entries l.at (members_view (drop l.member-index l.members))
      ≡ are_lists l.entries 0 (members_view l.members);
}
