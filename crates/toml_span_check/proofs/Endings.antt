-- How runs end.
use Rattle.toml_span_lex.proofs.Common.{◌≡◌, ◌∙◌, ℕ, Bool, true, false, List, [], length, Option, Err, refl, sym, subst, inr, arith, Appends-trans, Appends, nat_tests, common_steps}
use Rattle.std.proofs.lemmas.List.{append-nil}
use Rattle.toml_span_lines.specs.Held.{HoldsRest}
use Rattle.toml_span_lines.specs.Run.{HasWritten}
use Rattle.toml_span_lines.specs.declared.held.Unwritten.{Unwritten}
use Rattle.toml_span_lines.specs.declared.held.Unwritten.TheVariants.{Failed, Memory}
use Rattle.toml_span_check.specs.Schemas.{Says}
use Rattle.toml_span_check.specs.declared.answer.Task.{Task}
use Rattle.toml_span_check.specs.declared.formats.Format.{Format}
use Rattle.toml_span_check.specs.Run.{Asked, Begins, Runs, IsOutput, are_named, named_task}
use Rattle.toml_span_check.specs.code.Collected.{EndsQuiet, CollectsAll}
use Rattle.toml_span_check.proofs.Statuses.{stdout-small, neither-failed}
use Rattle.toml_span_check.proofs.Collecting.{prints-first, whole-named, written-after}

-- without memory
pub ends-empty : (says : Says) (format : Format) (task : Task) (pointer : List ℕ) (excludes names : List (List ℕ)) (watched : Bool) (old new : Option Asked) (stdout stdout' : Option (List ℕ)) (out_failed : Bool) (stderr : Option (List ℕ)) (err_failed : Bool) (e : Unwritten) →
    CollectsAll says format task pointer excludes names watched (Err e) old new stdout stdout' out_failed → e ≡ Memory → err_failed ≡ false → Runs says format task pointer excludes names watched false old new stdout stdout' out_failed stderr stderr err_failed 4
ends-empty says format task pointer excludes names watched old new stdout stdout' out_failed stderr err_failed e t is fine = grind (arith, nat_tests, common_steps)

-- standard output can't be written
pub ends-cut : (says : Says) (format : Format) (task : Task) (pointer : List ℕ) (excludes names : List (List ℕ)) (watched : Bool) (old new : Option Asked) (stdout stdout' : Option (List ℕ)) (out_failed : Bool) (stderr : Option (List ℕ)) (err_failed : Bool) →
    out_failed ≡ true → Begins says format task pointer excludes names false old new stdout stdout' → err_failed ≡ false → Runs says format task pointer excludes names watched false old new stdout stdout' out_failed stderr stderr err_failed 3
ends-cut says format task pointer excludes names watched old new stdout stdout' out_failed stderr err_failed bad begins fine = grind (arith, nat_tests, common_steps)

pub ends-failed : (says : Says) (format : Format) (task : Task) (pointer : List ℕ) (excludes names : List (List ℕ)) (watched : Bool) (old new : Option Asked) (stdout stdout' : Option (List ℕ)) (out_failed : Bool) (stderr : Option (List ℕ)) (err_failed : Bool) (e : Unwritten) →
    CollectsAll says format task pointer excludes names watched (Err e) old new stdout stdout' out_failed → e ≡ Failed → err_failed ≡ false → Runs says format task pointer excludes names watched false old new stdout stdout' out_failed stderr stderr err_failed 3
ends-failed says format task pointer excludes names watched old new stdout stdout' out_failed stderr err_failed e t is fine = grind (arith, nat_tests, common_steps)

-- all reports are held at the end, and only a part of them is written
pub begins-all : (says : Says) (format : Format) (task : Task) (pointer : List ℕ) (excludes names : List (List ℕ)) (watched : Bool) (old new : Option Asked) (stdout mid stdout' : Option (List ℕ)) (out errors held : List ℕ) (status : ℕ) →
    IsOutput says format task pointer excludes names watched false old new out errors status → HoldsRest stdout mid out held → HasWritten mid stdout' held → Begins says format task pointer excludes names false old new stdout stdout'
begins-all says format task pointer excludes names watched old new stdout mid stdout' out errors held status t h w =
    let named = whole-named format task (are_named names t.files) t.all in
    let all = subst (λ (text : List ℕ). HasWritten stdout stdout' text) (h.2 ∙ t.shown ∙ sym named) (written-after stdout mid stdout' out held held h w) in
    let first = prints-first says format (named_task task (are_named names t.files)) pointer t.files [] t.files t.mid new stdout stdout' (t.all, t.complaints, status, t.wrong) (sym (append-nil t.files)) (inr refl) t.prints all in
    record { aloud = refl; files = t.files; mid = t.mid; found = t.found; prints = first }

appends-all : (a b c : Option (List ℕ)) (out held : List ℕ) → HoldsRest a b out held → Appends b c held → Appends a c out
appends-all a b c out held h w = subst (λ (text : List ℕ). Appends a c text) h.2 (Appends-trans a b c h.0 held h.1 w)

-- standard error can't be written
pub ends-err_failed : (says : Says) (format : Format) (task : Task) (pointer : List ℕ) (excludes names : List (List ℕ)) (watched : Bool) (old new : Option Asked) (stdout mid stdout' : Option (List ℕ)) (out_failed : Bool) (stderr stderr' : Option (List ℕ)) (err_failed : Bool) (out errors held : List ℕ) (status : ℕ) →
    IsOutput says format task pointer excludes names watched false old new out errors status → HoldsRest stdout mid out held → Appends mid stdout' held → out_failed ≡ false → HasWritten stderr stderr' errors → err_failed ≡ true →
    Runs says format task pointer excludes names watched false old new stdout stdout' out_failed stderr stderr' err_failed 3
ends-err_failed says format task pointer excludes names watched old new stdout mid stdout' out_failed stderr stderr' err_failed out errors held status t h w fine cut bad = grind (arith, nat_tests, common_steps)

-- all is written
pub ends-stdout : (says : Says) (format : Format) (task : Task) (pointer : List ℕ) (excludes names : List (List ℕ)) (watched : Bool) (old new : Option Asked) (stdout mid stdout' : Option (List ℕ)) (out_failed : Bool) (stderr stderr' : Option (List ℕ)) (err_failed : Bool) (out errors held : List ℕ) (status : ℕ) →
    IsOutput says format task pointer excludes names watched false old new out errors status → HoldsRest stdout mid out held → Appends mid stdout' held → out_failed ≡ false → Appends stderr stderr' errors → err_failed ≡ false →
    Runs says format task pointer excludes names watched false old new stdout stdout' out_failed stderr stderr' err_failed status
ends-stdout says format task pointer excludes names watched old new stdout mid stdout' out_failed stderr stderr' err_failed out errors held status t h w fine said good = grind (arith, nat_tests, common_steps, appends-all, neither-failed, stdout-small)

-- nothing is to be written
pub ends-quiet : (says : Says) (format : Format) (task : Task) (pointer : List ℕ) (excludes names : List (List ℕ)) (watched : Bool) (old new : Option Asked) (stdout : Option (List ℕ)) (out_failed : Bool) (stderr : Option (List ℕ)) (err_failed : Bool) (status : ℕ) →
    EndsQuiet says format task pointer excludes names watched old new status → out_failed ≡ false → err_failed ≡ false → Runs says format task pointer excludes names watched true old new stdout stdout out_failed stderr stderr err_failed status
ends-quiet says format task pointer excludes names watched old new stdout out_failed stderr err_failed status h fine good = grind (arith, nat_tests, common_steps, neither-failed, stdout-small)
