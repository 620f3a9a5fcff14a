-- The text of a float.
use Rattle.std.specs.Prelude.{List, ℕ, codes, if◌then◌else◌}
use Rattle.toml_span_tree.specs.Node.{FloatValue, finite, infinite, not_a_number}

-- the stored literal, `inf`, `-inf`, `nan` or `-nan`
abbrev pub float_text : FloatValue → List ℕ
float_text (finite text) = text
float_text (infinite negative) = if negative then codes "-inf" else codes "inf"
float_text (not_a_number negative) = if negative then codes "-nan" else codes "nan"
