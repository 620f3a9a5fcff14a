use Rattle.toml_span_lex.proofs.Common.{◌≡◌, drop, fold, string_bytes}
use Rattle.toml_span_lsp.specs.Sync.{after}
use Rattle.toml_span_lsp.proofs.sync.applied.Given as goal

abbrev pub invariant-loop-change : goal.invariant-loop-change
invariant-loop-change l =
    fold (after l.encoding) (string_bytes l.made) (drop l.change-index l.changes) ≡ fold (after l.encoding) l.text l.changes
