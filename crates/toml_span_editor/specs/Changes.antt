-- Changes of a text (LSP 3.17: TextDocumentContentChangeEvent).
use Rattle.std.specs.Prelude.{ℕ, ◌++◌, List, Option, Some, None, take, drop, min, max}
use Rattle.toml_span_editor.specs.declared.positions.Encoding.{Encoding}
use Rattle.toml_span_editor.specs.declared.positions.Range.{Range}
use Rattle.toml_span_editor.specs.Positions.{offset_of}

-- `text` with `new` in place of the bytes between the offsets `from` and `to`, which may be in either order
abbrev pub spliced : List ℕ → ℕ → ℕ → List ℕ → List ℕ
spliced text from to new = take (min from to) text ++ new ++ drop (max from to) text

-- the text after a change: `new` replaces the range or, without a range, the whole text
abbrev pub changed : Encoding → List ℕ → Option Range → List ℕ → List ℕ
changed encoding text None new = new
changed encoding text (Some range) new =
    spliced text (offset_of encoding text range.start) (offset_of encoding text range.end) new
