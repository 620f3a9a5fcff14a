-- The statuses: 0 or 1 for bytes, and 2 at most.
use Rattle.toml_span_lex.proofs.Common.{◌≡◌, ◌↔◌, ℕ, ◌≤◌, Bool, false, ◌||◌, IsTrue, List, arith, nat_tests, common_steps}
use Rattle.toml_span_check.specs.Run.{Reading, Gathered, nothing, answered, unread}
use Rattle.toml_span_check.specs.Schemas.{Says}
use Rattle.toml_span_check.specs.declared.answer.Task.{Task}
use Rattle.toml_span_check.specs.declared.formats.Format.{Format}
use Rattle.toml_span_check.specs.declared.run.Tally.{Tally}

pub stdout-small : (says : Says) (format : Format) (task : Task) (pointer : List ℕ) (rs : List Reading) (out errors : List ℕ) (status : ℕ) (wrong : Tally) → Gathered says format task pointer rs out errors status wrong → status ≤ 2
stdout-small says format task pointer rs out errors status wrong nothing = omega arith
stdout-small says format task pointer rs out errors status wrong (answered before said stderr earlier some name bytes answer stdout is) = grind (arith, nat_tests, common_steps, stdout-small says format task pointer before said stderr earlier some stdout)
stdout-small says format task pointer rs out errors status wrong (unread before said stderr earlier some name reason stdout) = omega arith

-- where neither write failed, the status is not that of a failed one
pub neither-failed : (out_failed err_failed : Bool) (status : ℕ) → ¬ (status ≡ 3) → out_failed ≡ false → err_failed ≡ false → (status ≡ 3) ↔ IsTrue (out_failed || err_failed)
neither-failed out_failed err_failed status other good fine = grind (arith, nat_tests, common_steps)
