-- Floats, read as binary numbers.
use Rattle.std.specs.Prelude.{ℕ, List, Option, Some, None, Result, Ok, Err, codes, if◌then◌else◌}
use Rattle.std.specs.Float.{Float, Format, float_is_finite}
use Rattle.fast_float.specs.Parse.{parse_float}
use Rattle.toml_span_lex.specs.declared.span.Span.{Span}
use Rattle.toml_span_lex.specs.declared.stop.Stop.{Stop}
use Rattle.toml_span_lex.specs.declared.stop.Stop.TheVariants as stop
use Rattle.toml_span_tree.specs.Float.{float_text}
use Rattle.toml_span_tree.specs.Node.{Node, node, scalar, float}
use Rattle.toml_span_tree.specs.Errors.{Errors, one}
use Rattle.toml_span_typed.specs.Reads.{beyond_range, or_out_of, refused}

abbrev pub if_finite : Option Float → Option Float
if_finite (Some x) = if float_is_finite x then Some x else None
if_finite None = None

-- the number of this format that is nearest to the number that the text spells, if it is finite
abbrev pub finite_float : Format → List ℕ → Option Float
finite_float format s = if_finite (parse_float format s)

-- the number, or the error that the type with this name can't represent it
abbrev pub or_beyond : {T : Type 0} → List ℕ → Span → Option T → Result T (Stop Errors)
or_beyond name span (Some x) = Ok x
or_beyond name span None = Err (stop.Fault (one (beyond_range name span)))

-- the number of this format that is nearest to the float; if that number is not finite, the error that it is beyond the
-- range of the type with this name
abbrev pub read_number : List ℕ → Format → Node → Result Float Errors
read_number name format (node (scalar (float x)) span) = or_out_of name span (finite_float format (float_text x))
read_number name format value = refused (codes "a float") value
