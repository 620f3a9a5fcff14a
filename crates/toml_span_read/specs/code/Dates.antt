-- What the function `date` returns.
use Rattle.std.specs.Prelude.{ℕ, List, Result, Ok, Err}
use Rattle.toml_span_tree.specs.declared.date.DateText.{DateText}
use Rattle.toml_span_tree.specs.Node.{datetime}
use Rattle.toml_span_tree.specs.Value.{date_bytes}
use Rattle.toml_span_read.specs.declared.fault.Fault.{Fault}
use Rattle.toml_span_read.specs.code.Gaps.{Further}
use Rattle.toml_span_read.specs.Read as read

abbrev pub DateGives : List ℕ → ℕ → Result (DateText × ℕ) Fault → Type 0
DateGives text i (Ok (date, j)) = read.date text i (Ok (datetime (date_bytes date), j)) × Further text i j
DateGives text i (Err fault) = read.date text i (Err fault)
