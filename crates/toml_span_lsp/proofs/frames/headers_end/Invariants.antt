use Rattle.toml_span_lex.proofs.Common.{◌≡◌, ℕ, ◌+◌, ◌≤◌, List, ◌++◌, codes, length}
use Rattle.toml_span_lsp.proofs.frames.headers_end.Given as goal

abbrev pub invariant-loop-at : goal.invariant-loop-at
invariant-loop-at l =
    (head more rest : List ℕ) → l.bytes ++ more ≡ head ++ (codes "\r\n\r\n" ++ rest) → l.at ≤ length head + 3
