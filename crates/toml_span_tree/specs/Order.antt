-- A table's entries by reference.
use Rattle.std.specs.Prelude.{ℕ}
use Rattle.std.specs.Borrow.{Bor}
use Rattle.toml_span_lex.specs.declared.key.Key.{Key}
use Rattle.toml_span_tree.specs.declared.value.Value.{Value}

-- the entry to which the references point
abbrev pub entry_of : Bor Key × Bor Value → Key × Value
entry_of entry = (entry.0.now, entry.1.now)

-- the start of the key's span
abbrev pub start_of : Bor Key × Bor Value → ℕ
start_of entry = entry.0.now.span.start
