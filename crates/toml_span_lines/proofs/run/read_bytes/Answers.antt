use Rattle.toml_span_lex.proofs.Common.{arith, ℕ, ◌+◌, ◌++◌, ◌≤◌, ◌∙◌, take, length, length-append, length-take}
use Rattle.toml_span_lines.specs.Run.{bound}
use Rattle.toml_span_lines.proofs.Known.{consumes_more}
use Rattle.toml_span_lines.proofs.run.read_bytes.Goals as goal

pub returns-then-is_err-clause-err : goal.returns-then-is_err-clause-err
returns-then-is_err-clause-err g c =
    let before = c.loop-buf.bytes in
    let more = take c.in-Ok.n c.read.new.buf in
    let within : length (before.items ++ more) ≤ bound + 1 = simp (length-append, length-take) (omega (arith, length-take {A = ℕ})) in (
      c.in-Ok.ensures.failed_after ∙ c.loop-buf.invariant.good,
      (before.items ++ more, (consumes_more _ _ _ before.items more c.loop-buf.invariant.read c.in-Ok.ensures.bytes.0, within)),
    )
