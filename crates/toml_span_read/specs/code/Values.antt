-- What the functions for values return.
use Rattle.std.specs.Prelude.{◌≡◌, ℕ, ◌⊎◌, Bool, true, false, List, Result, Ok, Err, codes}
use Rattle.toml_span_lex.specs.declared.stop.Stop.{Stop}
use Rattle.toml_span_lex.specs.declared.stop.Stop.TheVariants as stops
use Rattle.toml_span_tree.specs.Node.{Scalar}
use Rattle.toml_span_read.specs.Data.{ParsedInner, scalar, array, inline, parsed_kind, parsed_value, parsed_assignment}
use Rattle.toml_span_read.specs.Data.{ParsedAssignment}
use Rattle.toml_span_read.specs.declared.fault.Fault.{Fault}
use Rattle.toml_span_read.specs.declared.fault.FaultKind.TheVariants as kinds
use Rattle.toml_span_read.specs.declared.value.Assignment.{Assignment}
use Rattle.toml_span_read.specs.declared.value.ValKind.{ValKind}
use Rattle.toml_span_read.specs.declared.value.Val.{Val}
use Rattle.toml_span_read.specs.declared.values.Run.{Run}
use Rattle.toml_span_read.specs.declared.values.Run.TheVariants as runs
use Rattle.toml_span_read.specs.Faults.{fault_at}
use Rattle.toml_span_read.specs.Read.{Reading, ValueEnd}

abbrev pub value_found : Val × ℕ → ValueEnd
value_found (v, j) = (parsed_value v, j)

abbrev pub assignment_found : Assignment × ℕ → ParsedAssignment × ℕ
assignment_found (a, j) = (parsed_assignment a, j)

-- whether a value is neither an array nor an inline table
abbrev pub is_scalar : ParsedInner → Bool
is_scalar (scalar s) = true
is_scalar (array vs) = false
is_scalar (inline ps) = false

abbrev pub IsScalarKind : Result (ValKind × ℕ) (Stop Fault) → Type 0
IsScalarKind (Ok found) = is_scalar (parsed_kind found.0) ≡ true
IsScalarKind (Err stop) = Unit {0}

-- If the function returns a value, it is a scalar, and m reads it. If the function returns a fault, m has that fault.
abbrev pub ScalarGives : Reading (Scalar × ℕ) → Result (ValKind × ℕ) (Stop Fault) → Type 0
ScalarGives m (Ok (kind, j)) = (s : Scalar) × (parsed_kind kind ≡ scalar s) × m (Ok (s, j))
ScalarGives m (Err (stops.Memory e)) = Unit {0}
ScalarGives m (Err (stops.Fault fault)) = m (Err fault)

-- The fault is that of a value at i that is nested too deep.
abbrev pub IsTooDeep : ℕ → Stop Fault → Type 0
IsTooDeep i (stops.Memory e) = ⊥
IsTooDeep i (stops.Fault fault) = fault ≡ fault_at kinds.ExceededDepthLimit i

-- The word is neither a boolean nor `inf` or `nan`.
pub record IsOtherWord (word : List ℕ) : Type 0 where
  pub no_true : word ≡ codes "true" → ⊥
  pub no_false : word ≡ codes "false" → ⊥
  pub no_infinity : word ≡ codes "inf" → ⊥
  pub no_nan : word ≡ codes "nan" → ⊥

-- The `Run` says which word the bytes spell.
abbrev pub IsRunOf : List ℕ → Run → Type 0
IsRunOf bytes runs.True = bytes ≡ codes "true"
IsRunOf bytes runs.False = bytes ≡ codes "false"
IsRunOf bytes runs.Special = (bytes ≡ codes "inf") ⊎ (bytes ≡ codes "nan")
IsRunOf bytes runs.Other = IsOtherWord bytes
