use Rattle.std.proofs.Common.{◌≡◌, ◌++◌, drop}
use Rattle.toml_span_check.specs.Drafts.{statement_sizes}
use Rattle.toml_span_check.proofs.drafts.push_statements.Given as goal

abbrev pub invariant-loop-statement : goal.invariant-loop-statement
invariant-loop-statement l =
    l.out.items ++ statement_sizes (drop l.statement-index l.statements) ≡ l.initial.out.items ++ statement_sizes l.statements
