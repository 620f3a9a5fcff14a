use Rattle.toml_span_lex.proofs.Common.{◌≡◌, ◌++◌, map}
use Rattle.toml_span_tree.specs.Value.{members_view}
use Rattle.toml_span_check.specs.Missing.{names_of}
use Rattle.toml_span_check.proofs.missing.names_of.Given as goal

abbrev pub invariant-loop-key : goal.invariant-loop-key
invariant-loop-key l =
    map (λ name. name.now) l.names.items ++ names_of (members_view l.key-iterator) ≡ names_of (members_view l.table.entries)
