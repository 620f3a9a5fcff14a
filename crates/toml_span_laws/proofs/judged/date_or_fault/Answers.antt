use Rattle.toml_span_lex.proofs.Common.{ℕ, List, arith, Result, Ok, Err}
use Rattle.toml_span_tree.specs.Node.{Scalar, datetime}
use Rattle.toml_span_tree.specs.Value.{date_bytes}
use Rattle.toml_span_tree.specs.declared.date.DateText.{DateText}
use Rattle.toml_span_read.specs.declared.fault.Fault.{Fault}
use Rattle.toml_span_read.specs.code.Dates.{DateGives}
use Rattle.toml_span_read.specs.Read as read
use Rattle.toml_span_laws.specs.code.Judged.{EndsPast}
use Rattle.toml_span_laws.proofs.judged.date_or_fault.Goals as goal

date_read : (text : List ℕ) (i : ℕ) (r : Result (DateText × ℕ) Fault) → DateGives text i r → (found : Result (Scalar × ℕ) Fault) × read.date text i found × EndsPast text i found
date_read text i (Ok (date, j)) (h, f) = (Ok (datetime (date_bytes date), j), h, (omega (arith, f.on), f.boundary))
date_read text i (Err e) h = (Err e, h, tt)

pub returns-then-begins_date : goal.returns-then-begins_date
returns-then-begins_date c = λ b. date_read c.args.text.now c.args.at c.date.result c.date.ensures.date
