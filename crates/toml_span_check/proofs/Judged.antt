-- The report on one file.
use Rattle.toml_span_lex.proofs.Common.{◌≡◌, ◌++◌, ℕ, Bool, max, List, Option, string_bytes, Result, Ok, Err, IfOk, IsErrAnd, refl, sym, ap, ◌∙◌, subst, inl, inr, arith, nat_tests, common_steps}
use Rattle.toml_span_lines.specs.Held.{Streams}
use Rattle.toml_span_lines.specs.declared.held.Unwritten.{Unwritten}
use Rattle.toml_span_lines.specs.declared.held.Unwritten.TheVariants.{Failed, Memory}
use Rattle.toml_span_lines.proofs.Fronts.{front-written}
use Rattle.toml_span.specs.Parsing.{IsParseResult}
use Rattle.toml_span_read.specs.Data.{depth_limit}
use Rattle.toml_span_tree.specs.Value.{view}
use Rattle.toml_span_check.specs.Answer.{Answer, IsAnswer, IsRead, found}
use Rattle.toml_span_check.specs.code.Judged.{JudgesText, told}
use Rattle.toml_span_check.specs.declared.answer.Document.{Document as ToPrint}
use Rattle.toml_span_check.specs.declared.answer.Judged.TheVariants.{Document}
use Rattle.toml_span_check.specs.Run.{counted, status_of, Shows}
use Rattle.toml_span_check.specs.code.Collected.{Begun, BegunOne, CollectsBytes, CollectsOne, TextsOf}
use Rattle.toml_span_check.specs.declared.answer.Printing.{Printing}
use Rattle.toml_span_check.specs.declared.answer.Verdict.{Verdict}
use Rattle.toml_span_check.specs.Schemas.{Says}
use Rattle.toml_span_check.specs.declared.answer.Task.{Task}
use Rattle.toml_span_check.specs.declared.answer.Task.TheVariants.{Show}
use Rattle.toml_span_check.specs.declared.formats.Format.{Format}

-- a document that is printed
pub shows-text : (says : Says) (format : Format) (task : Task) (pointer name text : List ℕ) (document : ToPrint) →
    task ≡ Show document.printing → document.text.now ≡ text → IsParseResult text depth_limit (Ok document.root) →
    JudgesText says format task pointer name text (Document document)
shows-text says format task pointer name text document is same tree = (
  is,
  λ answer found_is. subst (λ (t : Task). IsRead says format t pointer name text answer) (sym is)
      (inl (document.root, tree, (found_is.0, found_is.1, found_is.2 ∙ ap (λ (x : List ℕ). found format document.printing pointer name x found_is.0 (view document.root)) same))),
)

-- an answer, with a verdict that has its counts and its text for standard error
same-answer : (answer : Answer) (v : Verdict) → told v ≡ (answer.0, answer.2) → let a : Answer = (v.count, answer.1, string_bytes v.stderr) in answer ≡ a
same-answer (n, out, c) v is = grind (arith, nat_tests, common_steps)

-- a document that is printed, or a part of it
pub shows-bytes : (says : Says) (format : Format) (task : Task) (pointer name bytes : List ℕ) (printing : Printing) (answer : Answer) (r : Result Verdict Unwritten) (a b : Option (List ℕ)) (failed : Bool) (held kept : List ℕ) →
    task ≡ Show printing → IsAnswer says format task pointer name bytes answer → IfOk r (λ v. told v ≡ (answer.0, answer.2)) →
    Streams r a b failed (held ++ answer.1) kept → CollectsBytes says format task pointer name bytes r a b failed held kept
shows-bytes says format task pointer name bytes printing answer (Ok v) a b failed held kept shows is same st =
    let shown : Shows task = (printing, shows) in
    (st.0, inr shown, (answer.1, subst (λ (x : Answer). IsAnswer says format task pointer name bytes x) (same-answer answer v same) is, (st.1, inr shown)))
shows-bytes says format task pointer name bytes printing answer (Err Memory) a b failed held kept shows is same st =
    (st.0, inr ((printing, shows), (answer, is, st.1)))
shows-bytes says format task pointer name bytes printing answer (Err Failed) a b failed held kept shows is same st =
    (st.0, ((printing, shows), (answer, is, st.1)))

begun-one : (says : Says) (format : Format) (task : Task) (pointer name bytes : List ℕ) (a b : Option (List ℕ)) (t : TextsOf) → Begun says format task pointer name bytes a b t.0 → BegunOne says format task pointer name (Ok bytes) a b t
begun-one says format task pointer name bytes a b t begun =
    let answer = begun.1.0 in
    (begun.0, ((t.0 ++ answer.1, t.1 ++ answer.2, max t.2 (status_of task answer.0.errors answer.2), counted t.3 answer.0), (answer, begun.1.1, refl, refl, refl, refl), begun.1.2))

stops-bytes : (says : Says) (format : Format) (task : Task) (pointer name bytes : List ℕ) (a b : Option (List ℕ)) (failed : Bool) (t u : TextsOf) (kept : List ℕ) (e : Unwritten) →
    CollectsBytes says format task pointer name bytes (Err e) a b failed t.0 kept → CollectsOne says format task pointer name (Ok bytes) (Err e) a b failed t u
stops-bytes says format task pointer name bytes a b failed t u kept e stdout = grind (arith, nat_tests, common_steps, begun-one says format task pointer name bytes a b t)

-- its report does not end
pub stops-one : (says : Says) (format : Format) (task : Task) (pointer name bytes looked : List ℕ) (reading : Result (List ℕ) (List ℕ)) (a b : Option (List ℕ)) (failed : Bool) (t u : TextsOf) (kept : List ℕ) (e : Unwritten) (r : Result (Unit {0}) Unwritten) →
    reading ≡ Ok bytes → looked ≡ bytes → CollectsBytes says format task pointer name looked (Err e) a b failed t.0 kept → IsErrAnd r (λ y. y ≡ e) → CollectsOne says format task pointer name reading r a b failed t u
stops-one says format task pointer name bytes looked reading a b failed t u kept e r read is stdout err = grind (arith, nat_tests, common_steps, stops-bytes)

counts-not : (says : Says) (format : Format) (task : Task) (pointer name bytes : List ℕ) (verdict : Verdict) (a b : Option (List ℕ)) (failed : Bool) (t u : TextsOf) (kept : List ℕ) →
    CollectsBytes says format task pointer name bytes (Ok verdict) a b failed t.0 kept → CollectsOne says format task pointer name (Ok bytes) (Err Memory) a b failed t u
counts-not says format task pointer name bytes verdict a b failed t u kept (good, inl same, stdout) = (good, inl same)
counts-not says format task pointer name bytes verdict a b failed t u kept (good, inr shows, stdout) = (
  good,
  inr (
    shows,
    (
      (t.0 ++ stdout.0, t.1 ++ string_bytes verdict.stderr, max t.2 (status_of task verdict.count.errors (string_bytes verdict.stderr)), counted t.3 verdict.count),
      ((verdict.count, stdout.0, string_bytes verdict.stderr), stdout.1, refl, refl, refl, refl),
      front-written a b (t.0 ++ stdout.0) kept stdout.2.0,
    ),
  ),
)

-- it is not counted
pub stops-count : (says : Says) (format : Format) (task : Task) (pointer name bytes looked : List ℕ) (reading : Result (List ℕ) (List ℕ)) (verdict : Verdict) (a b : Option (List ℕ)) (failed : Bool) (t u : TextsOf) (kept : List ℕ) (r : Result (Unit {0}) Unwritten) →
    reading ≡ Ok bytes → looked ≡ bytes → CollectsBytes says format task pointer name looked (Ok verdict) a b failed t.0 kept → IsErrAnd r (λ y. y ≡ Memory) → CollectsOne says format task pointer name reading r a b failed t u
stops-count says format task pointer name bytes looked reading verdict a b failed t u kept r read is stdout err =
    grind (arith, nat_tests, common_steps, counts-not says format task pointer name bytes verdict a b failed t u kept)
