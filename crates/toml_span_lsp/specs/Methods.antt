-- The requests about documents (LSP 3.17, Language Features).
use Rattle.std.specs.Prelude.{ℕ, List, codes}
use Rattle.toml_span_lsp.specs.declared.methods.Method.{Method}
use Rattle.toml_span_lsp.specs.declared.methods.Method.TheVariants as methods

-- the name of the request
abbrev pub method_name : Method → List ℕ
method_name methods.Symbols = codes "textDocument/documentSymbol"
method_name methods.Folds = codes "textDocument/foldingRange"
method_name methods.Selections = codes "textDocument/selectionRange"
method_name methods.Highlights = codes "textDocument/documentHighlight"
method_name methods.References = codes "textDocument/references"
method_name methods.Definition = codes "textDocument/definition"
method_name methods.Hover = codes "textDocument/hover"
method_name methods.Rename = codes "textDocument/rename"
method_name methods.PrepareRename = codes "textDocument/prepareRename"
method_name methods.Format = codes "textDocument/formatting"
method_name methods.FormatRange = codes "textDocument/rangeFormatting"
method_name methods.Actions = codes "textDocument/codeAction"
method_name methods.Complete = codes "textDocument/completion"
method_name methods.Tokens = codes "textDocument/semanticTokens/full"
method_name methods.TokensInRange = codes "textDocument/semanticTokens/range"
method_name methods.TokenChanges = codes "textDocument/semanticTokens/full/delta"
method_name methods.Links = codes "textDocument/documentLink"
method_name methods.Diagnose = codes "textDocument/diagnostic"
