use Rattle.toml_span_lex.proofs.Common.{◌≡◌, ℕ, ◌+◌, List, length, Consumes}
use Rattle.toml_span_lsp.proofs.server.discard.Given as goal

abbrev pub invariant-rest : goal.invariant-rest
invariant-rest g l = (bytes : List ℕ)
    × Consumes (g.R.Source.remaining l.fn.reader) (g.R.Source.remaining l.reader) bytes × (length bytes + l.left ≡ l.count)

abbrev pub decreases-rest : goal.decreases-rest
decreases-rest g l = l.left
