-- The pieces of a row, and those that a reader has not read.
use Rattle.std.specs.Prelude.{List, map, drop}
use Rattle.toml_span_serde.specs.Pieces.{Piece}
use Rattle.toml_span_serde.specs.Tasks.{piece_of}
use Rattle.toml_span_serde.specs.declared.reader.Reader.{Reader}
use Rattle.toml_span_serde.specs.declared.row.Row.{Row}

abbrev pub pieces_in : Row → List Piece
pieces_in row = map piece_of row.pieces.items

-- all pieces of the row
abbrev pub laid : Reader → List Piece
laid r = map piece_of r.pieces.now

abbrev pub ahead : Reader → List Piece
ahead r = map piece_of (drop r.next r.pieces.now)
