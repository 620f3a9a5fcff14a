use Rattle.toml_span_lex.proofs.Common.{◌≡◌, drop}
use Rattle.toml_span_format.specs.Entries.{entries, entries_from, state}
use Rattle.toml_span_format.proofs.entries.entries_of.Given as goal

abbrev pub invariant-loop-statement : goal.invariant-loop-statement
invariant-loop-statement l = entries l.text l.pieces l.is_headed l.statements ≡ entries_from l.text l.pieces (state l.grouping) (drop l.statement-index l.statements)
