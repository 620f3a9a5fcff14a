-- Lines and columns.
use Rattle.std.specs.Prelude.{ℕ, ◌==◌, not, List, take, count_by}
use Rattle.std.specs.List.{suffix_len}
use Rattle.toml_span_lex.specs.Bytes.{line_feed}

-- The line and the column of the offset i, both counted from 0: the number of line feeds before i, and the number of
-- bytes from the start of the line to i.
abbrev pub line_info : List ℕ → ℕ → ℕ × ℕ
line_info text i =
    let before = take i text in
    (count_by (λ c. c == line_feed) before, suffix_len (λ c. not (c == line_feed)) before)
