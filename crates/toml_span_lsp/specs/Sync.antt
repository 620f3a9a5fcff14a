-- The texts of open documents after changes.
use Rattle.std.specs.Prelude.{ℕ, List}
use Rattle.toml_span_editor.specs.Changes.{changed}
use Rattle.toml_span_editor.specs.declared.positions.Encoding.{Encoding}
use Rattle.toml_span_lsp.specs.declared.sync.TextChange.{TextChange}

-- the text after a change
abbrev pub after : Encoding → List ℕ → TextChange → List ℕ
after encoding text change = changed encoding text change.range change.text.now
