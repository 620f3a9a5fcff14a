use Rattle.toml_span_lex.proofs.Common.{◌≡◌, length}
use Rattle.toml_span_tree.specs.Value.{members_view}
use Rattle.toml_span_edit.specs.Made.{without}
use Rattle.toml_span_edit.proofs.made.next_but.Given as goal

abbrev pub invariant-entries : goal.invariant-entries
invariant-entries l = without l.name (members_view l.fn.rest) ≡ without l.name (members_view l.rest)

abbrev pub decreases-entries : goal.decreases-entries
decreases-entries l = length l.rest
