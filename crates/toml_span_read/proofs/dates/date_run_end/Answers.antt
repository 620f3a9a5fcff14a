use Rattle.toml_span_lex.proofs.Common.{arith, common_steps, nat_tests, ℕ, ◌≡◌, ◌<◌, true}
use Rattle.toml_span_lex.proofs.Runs.{boundary_after}
use Rattle.toml_span_read.specs.Dates.{is_date_byte}
use Rattle.toml_span_read.proofs.dates.date_run_end.Goals as goal

date_ascii : (c : ℕ) → is_date_byte c ≡ true → c < 128
date_ascii c h = grind (arith, nat_tests, common_steps)

pub returns-then-not-is_date_byte-clause-boundary : goal.returns-then-not-is_date_byte-clause-boundary
returns-then-not-is_date_byte-clause-boundary c =
    boundary_after is_date_byte c.args.text.now c.args.from c.loop-at.at date_ascii c.utf8.text c.requires (omega arith) (omega arith) c.loop-at.invariant
