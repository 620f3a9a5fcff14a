-- The result of parsing bytes.
use Rattle.std.specs.Prelude.{◌≡◌, ℕ, List}
use Rattle.toml_span.specs.Parsing.{IsTree, IsRefusal}
use Rattle.toml_span_c.specs.Calls.{IsText}
use Rattle.toml_span_c.specs.declared.answer.Answer.{Answer}
use Rattle.toml_span_c.specs.declared.answer.Answer.TheVariants.{Tree, Fault, Unread, Memory}
use Rattle.toml_span_lex.specs.declared.stop.Stop.TheVariants as stops
use Rattle.toml_span_read.specs.Data.{depth_limit}

abbrev pub IsAnswer : List ℕ → Answer → Type 0
IsAnswer bytes (Tree text root) = IsText bytes × (text.now ≡ bytes) × IsTree bytes depth_limit root
IsAnswer bytes (Fault text error) =
    IsText bytes × (text.now ≡ bytes) × IsRefusal bytes depth_limit (stops.Fault error)
IsAnswer bytes Unread = ¬ IsText bytes
IsAnswer bytes Memory = IsText bytes
