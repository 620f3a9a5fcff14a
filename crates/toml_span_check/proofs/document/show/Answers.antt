use Rattle.toml_span_lex.proofs.Common.{◌≡◌, ℕ, Bool, false, List, Option, Result, Ok, Err, IsErrAnd, Appends-nil, arith}
use Rattle.toml_span_lines.specs.Held.{Streams}
use Rattle.toml_span_lines.specs.declared.held.Unwritten.{Unwritten}
use Rattle.toml_span_lines.specs.declared.held.Unwritten.TheVariants.{Failed, Memory}
use Rattle.toml_span_check.proofs.document.show.Goals as goal

-- nothing has been written if an allocation fails first
streams-nothing : {A : Type 0} (r : Result A Unwritten) (a : Option (List ℕ)) (failed : Bool) (text kept : List ℕ) →
    failed ≡ false → IsErrAnd r (λ y. y ≡ Memory) → Streams r a a failed text kept
streams-nothing (Ok done) a failed text kept good err = absurd err
streams-nothing (Err Memory) a failed text kept good err = (good, (0, omega arith, Appends-nil a))
streams-nothing (Err Failed) a failed text kept good err = absurd (cc err)

pub returns-in_err-formatted_report-in-None-clause-out : goal.returns-in_err-formatted_report-in-None-clause-out
returns-in_err-formatted_report-in-None-clause-out g c =
    streams-nothing c.from_residual-in_err-formatted_report-in-None.result _ _ _ _ c.requires c.from_residual-in_err-formatted_report-in-None.ensures.1
