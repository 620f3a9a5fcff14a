use Rattle.toml_span_lex.proofs.Common.{nat_tests, common_steps, ◌≡◌, ◌≤◌, ◌<◌, ℕ, List, Result, Ok, Err, IfOk, IsUtf8, length, subst, sym, arith, AllocError}
use Rattle.std.specs.Str.{IsValidUpTo}
use Rattle.toml_span_check.specs.declared.answer.Judged.{Judged}
use Rattle.toml_span_check.specs.declared.answer.Judged.TheVariants.{Text, Document}
use Rattle.toml_span_check.specs.declared.answer.Task.{Task}
use Rattle.toml_span_check.specs.declared.formats.Format.{Format}
use Rattle.toml_span_lines.specs.Run.{bound}
use Rattle.toml_span_check.specs.Answer.{Answer, too_long, not_utf8, IsRead, IsAnswer}
use Rattle.toml_span_check.specs.Schemas.{Says}
use Rattle.toml_span_check.specs.code.Judged.{Judges, JudgesText}
use Rattle.toml_span_check.proofs.answer.judge.Goals as goal

long : (says : Says) (format : Format) (task : Task) (pointer name bytes : List ℕ) (answer : Answer) → bound < length bytes → answer ≡ too_long format task name → IsAnswer says format task pointer name bytes answer
long says format task pointer name bytes answer above h = grind (arith, nat_tests, common_steps)

no_text : (says : Says) (format : Format) (task : Task) (pointer name bytes : List ℕ) (at : ℕ) (answer : Answer) → length bytes ≤ bound → ¬ (IsUtf8 bytes) → IsValidUpTo bytes at → answer ≡ not_utf8 format task name bytes at → IsAnswer says format task pointer name bytes answer
no_text says format task pointer name bytes at answer small none front h = record {
  long = λ above. absurd (omega arith);
  no_text = λ _ _. (at, front, h);
  read = λ _ utf8. absurd (none utf8);
}

read : (says : Says) (format : Format) (task : Task) (pointer name bytes text : List ℕ) (answer : Answer) → length bytes ≤ bound → IsUtf8 bytes → text ≡ bytes → IsRead says format task pointer name text answer → IsAnswer says format task pointer name bytes answer
read says format task pointer name bytes text answer small utf8 is h = record {
  long = λ above. absurd (omega arith);
  no_text = λ _ none. absurd (none utf8);
  read = λ _ _. subst (λ (b : List ℕ). IsRead says format task pointer name b answer) is h;
}

judged : (r : Result Judged AllocError) (says : Says) (format : Format) (task : Task) (name bytes text : List ℕ) → length bytes ≤ bound → IsUtf8 bytes → text ≡ bytes →
    IfOk r (λ a. (pointer : List ℕ) → JudgesText says format task pointer name text a) → IfOk r (λ a. (pointer : List ℕ) → Judges says format task pointer name bytes a)
judged (Err e) says format task name bytes text small utf8 is h = tt
judged (Ok (Text verdict out)) says format task name bytes text small utf8 is h = λ pointer. read says format task pointer name bytes text _ small utf8 is (h pointer)
judged (Ok (Document document)) says format task name bytes text small utf8 is h =
    λ pointer. let both = h pointer in (both.0, λ answer found. read says format task pointer name bytes text _ small utf8 is (both.1 answer found))

pub returns-in-Ok : goal.returns-in-Ok
returns-in-Ok g c = judged _ _ _ _ _ _ _ c.if-bytes-gt-BOUND.false c.in-Ok.ensures.cases.1 c.in-Ok.ensures.cases.0 c.judge_text.ensures

pub not_utf8_fault-requires : goal.not_utf8_fault-requires
not_utf8_fault-requires g c = subst (IsValidUpTo c.args.bytes.now) (sym c.valid_up_to-at.ensures) c.in-Err.ensures.cases.1
