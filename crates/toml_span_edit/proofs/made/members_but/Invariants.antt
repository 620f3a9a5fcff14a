use Rattle.toml_span_lex.proofs.Common.{◌≡◌}
use Rattle.toml_span_tree.specs.Value.{members_view}
use Rattle.toml_span_edit.specs.Made.{members_but}
use Rattle.toml_span_edit.proofs.made.members_but.Given as goal

abbrev pub invariant-loop-key : goal.invariant-loop-key
invariant-loop-key l =
    members_but l.name (members_view l.table.entries) (members_view l.others.entries)
    ≡ members_but l.name (members_view l.key-iterator) (members_view l.rest)
