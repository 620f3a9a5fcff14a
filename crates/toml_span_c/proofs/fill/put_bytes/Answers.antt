use Rattle.toml_span_lex.proofs.Common.{arith, nat_tests, common_steps}
use Rattle.toml_span_c.proofs.Arrays.{laid-mid, laid-past}
use Rattle.toml_span_c.proofs.fill.put_bytes.Goals.{then-at-room, else-at-room}
use Rattle.toml_span_c.proofs.fill.put_bytes.Goals as goal

pub returns : goal.returns
returns c m e fits =
    elim c.if-at-room.branch [
      | then-at-room w ↦ grind (arith, nat_tests, common_steps, laid-mid)
      | else-at-room w ↦ grind (arith, nat_tests, common_steps, laid-past)
    ]
