-- How a helper reads a value that it moved out of its table, and how it lists keys with their spans.
use Rattle.std.specs.Prelude.{◌≡◌, ℕ, List, String, string_bytes, Result, Ok, Err}
use Rattle.std.specs.declared.alloc.Global.{Global}
use Rattle.toml_span_lex.specs.declared.span.Span.{Span}
use Rattle.toml_span_lex.specs.declared.stop.Stop.{Stop}
use Rattle.toml_span_lex.specs.declared.stop.Stop.TheVariants as stop
use Rattle.toml_span_tree.specs.declared.error.Error.{Error}
use Rattle.toml_span_tree.specs.Error.{content_of}
use Rattle.toml_span_tree.specs.Node.{Node}
use Rattle.toml_span_tree.specs.Errors.{Errors, all}
use Rattle.toml_span_typed.specs.TableHelper.{State, keeping}

-- the read value; or the last error of the read, after keeping all errors of the read
abbrev pub ReadsValue : {T : Type 0} → (Node → Result T Errors → Node → Type 0) → Node → State → Result T (Stop Error)
    → State → Type 0
ReadsValue reads value before (Ok x) after = (left : Node) × reads value (Ok x) left × (after ≡ before)
ReadsValue reads value before (Err (stop.Fault error)) after = (faults : Errors) × (left : Node)
    × reads value (Err faults) left × (content_of error ≡ faults.last) × (after ≡ keeping (all faults) before)
ReadsValue reads value before (Err (stop.Memory error)) after = after ≡ before

-- a key's name and its span
abbrev pub key_text : String Global × Span → List ℕ × Span
key_text key = (string_bytes key.0, key.1)
