-- Why a call failed.
use Rattle.std.specs.Prelude.{◌≡◌, ℕ, List, Option, Some, Result, Ok, Err, codes}
use Rattle.std.specs.declared.alloc.AllocError.{AllocError}
use Rattle.toml_span_lex.specs.declared.stop.Stop.{Stop}
use Rattle.toml_span_lex.specs.declared.stop.Stop.TheVariants.{Memory, Fault}

-- the text that is displayed: that of the fault, as `output` returns it, or `memory allocation failed`
abbrev pub stop_text : {E : Type 0} → (E → Option (List ℕ)) → Stop E → Option (List ℕ)
stop_text output (Fault fault) = output fault
stop_text output (Memory error) = Some (codes "memory allocation failed")

-- Both stops are failed allocations, or both are faults, and `gives` converts the first fault to the second.
abbrev pub Converts : {E F : Type 0} → (E → F → Type 0) → Stop E → Stop F → Type 0
Converts gives (Fault fault) stop = (other : _) × gives fault other × (stop ≡ Fault other)
Converts gives (Memory error) stop = stop ≡ Memory error

-- the fault, or the allocator's error
abbrev pub fault_of : {E : Type 0} → Stop E → Result E AllocError
fault_of (Fault fault) = Ok fault
fault_of (Memory error) = Err error
