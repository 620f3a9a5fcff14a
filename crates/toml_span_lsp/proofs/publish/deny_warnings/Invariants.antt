use Rattle.toml_span_lex.proofs.Common.{◌≡◌, ◌++◌, drop, map, take}
use Rattle.toml_span_lsp.specs.Shown.{denied}
use Rattle.toml_span_lsp.proofs.publish.deny_warnings.Given as goal

abbrev pub invariant-loop-index : goal.invariant-loop-index
invariant-loop-index l =
    l.diagnostics.items ≡ map denied (take l.index l.fn.diagnostics.items) ++ drop l.index l.fn.diagnostics.items
