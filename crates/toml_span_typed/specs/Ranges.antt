-- Integers and floats that must be in a range.
use Rattle.std.specs.Prelude.{◌≡◌, ℤ, List, [], ◌∷◌, ℕ, ◌++◌, Option, Some, None, MatchOption, option_and_then, Result, Err}
use Rattle.std.specs.Prelude.{Bool, false, codes, int_lt, ◌||◌, ◌&&◌, if◌then◌else◌}
use Rattle.std.specs.Float.{Float, binary64}
use Rattle.std.specs.Float.Ieee.{le}
use Rattle.std.specs.Fmt.{signed_decimal}
use Rattle.fast_float.specs.Parse.{parse_float}
use Rattle.toml_span_lex.specs.declared.span.Span.{Span}
use Rattle.toml_span_tree.specs.Error.{ErrorContent, marked}
use Rattle.toml_span_tree.specs.Float.{float_text}
use Rattle.toml_span_tree.specs.Node.{FloatValue, Node, float, node, scalar}
use Rattle.toml_span_tree.specs.Value.{inner_of, integer_in, span_of}
use Rattle.toml_span_tree.specs.Errors.{Errors, one}
use Rattle.toml_span_typed.specs.Aliases.{ReadsMoved}
use Rattle.toml_span_typed.specs.TableHelper.{State, keeping}

unfoldable pub range_message : ℤ → ℤ → ℤ → List ℕ
range_message low high found = codes "expected a value in " ++ signed_decimal low ++ codes "..=" ++ signed_decimal high
    ++ codes ", found " ++ signed_decimal found

-- the error with this message, of a number that is not in a range
abbrev pub outside : List ℕ → Span → ErrorContent
outside message span = record { kind = marked (codes "out-of-range") message []; span = span; line_info = None }

-- the error of an integer that is not in the range
abbrev pub out_of_range : ℤ → ℤ → Span → ℤ → ErrorContent
out_of_range low high span found = outside (range_message low high found) span

-- the error, if the integer `found` is below `low` or above `high`
abbrev pub fault_at : ℤ → ℤ → Span → ℤ → Option ErrorContent
fault_at low high span found =
    if int_lt found low || int_lt high found then Some (out_of_range low high span found) else None

abbrev pub range_fault : ℤ → ℤ → Node → Option ErrorContent
range_fault low high value = option_and_then (fault_at low high (span_of value)) (integer_in (inner_of value))

-- A read of T allows this result, unless the value is an integer outside the range. In that case, the only error is
-- `out_of_range`, and the value is unchanged.
abbrev pub in_range : {T : Type 0} → ℤ → ℤ → (Node → Result T Errors → Node → Type 0) → Node → Result T Errors → Node
    → Type 0
in_range low high reads value answer left = MatchOption (range_fault low high value)
    (reads value answer left)
    (λ fault. (answer ≡ Err (one fault)) × (left ≡ value))

-- ---- floats

-- whether the number is from `low` to `high`
abbrev pub is_from_to : Float → Float → Option Float → Bool
is_from_to low high (Some x) = le low x && le x high
is_from_to low high None = false

-- whether the f64 that is nearest to the float with this text is from `low` to `high`
abbrev pub is_within : Float → Float → List ℕ → Bool
is_within low high s = is_from_to low high (parse_float binary64 s)

-- a float and its span
abbrev pub FloatAt : Type 0
FloatAt = FloatValue × Span

abbrev pub float_node : FloatAt → Node
float_node f = node (scalar (float f.0)) f.1

-- the error of a float that is not in the range, which is written as `range`
abbrev pub float_outside : List ℕ → FloatAt → ErrorContent
float_outside range f =
    outside (codes "expected a value in " ++ range ++ codes ", found " ++ float_text f.0) f.1

-- the error, if the float is not from `low` to `high`
abbrev pub float_fault : Float → Float → List ℕ → FloatAt → Option ErrorContent
float_fault low high range f = if is_within low high (float_text f.0) then None else Some (float_outside range f)

-- The value, read as T, or None after keeping all errors of the read. If there is an error already, None, after keeping
-- that error.
abbrev pub ReadsUnless : {T : Type 0} → (Node → Result T Errors → Node → Type 0) → Option ErrorContent → Node → State
    → Option T → State → Type 0
ReadsUnless reads None value before field after = ReadsMoved reads (λ s. s) (Some value) before field after
ReadsUnless reads (Some fault) value before field after = (field ≡ None) × (after ≡ keeping (fault ∷ []) before)

-- `within`: the float, read as T, or None after keeping all errors of the read. If the float is not in the range, None,
-- after keeping the error for that. Without a float, None, and nothing changes.
abbrev pub ReadsWithin : {T : Type 0} → (Node → Result T Errors → Node → Type 0) → Float → Float → List ℕ
    → Option FloatAt → State → Option T → State → Type 0
ReadsWithin reads low high range None before field after = (field ≡ None) × (after ≡ before)
ReadsWithin reads low high range (Some f) before field after =
    ReadsUnless reads (float_fault low high range f) (float_node f) before field after
