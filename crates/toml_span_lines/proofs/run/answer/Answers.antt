use Rattle.toml_span_lex.proofs.Common.{◌≡◌, ◌≤◌, ℕ, List, Vec, Result, Ok, Err, IfOk, IsUtf8, length, subst, arith, Global, AllocError}
use Rattle.toml_span_lines.specs.Run.{bound, IsAnswer, IsShown}
use Rattle.toml_span_lines.proofs.run.answer.Goals as goal

-- the output for a text is the answer to its bytes
answered : (r : Result (ℕ × Vec ℕ Global) AllocError) (bytes text : List ℕ) (limit : ℕ) → length bytes ≤ bound → IsUtf8 bytes → text ≡ bytes →
    IfOk r (λ a. IsShown text limit a.0 a.1.items) → IfOk r (λ a. IsAnswer bytes limit a.0 a.1.items)
answered (Err e) bytes text limit small utf8 is h = tt
answered (Ok a) bytes text limit small utf8 is h = record {
  too_long = λ long. absurd (omega arith);
  no_text = λ short none. absurd (none utf8);
  shown = λ short some. subst (λ (b : List ℕ). IsShown b limit a.0 a.1.items) is h;
}

pub returns-in-Ok : goal.returns-in-Ok
returns-in-Ok c = answered _ _ _ _ c.if-bytes-gt-BOUND.false c.in-Ok.ensures.cases.1 c.in-Ok.ensures.cases.0 c.answer_text.ensures
