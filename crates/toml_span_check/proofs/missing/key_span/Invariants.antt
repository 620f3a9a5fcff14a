use Rattle.toml_span_lex.proofs.Common.{◌≡◌}
use Rattle.toml_span_tree.specs.Value.{members_view}
use Rattle.toml_span_check.specs.Missing.{key_span}
use Rattle.toml_span_check.proofs.missing.key_span.Given as goal

abbrev pub invariant-loop-key : goal.invariant-loop-key
invariant-loop-key l = key_span l.name (members_view l.table.entries) ≡ key_span l.name (members_view l.key-iterator)
