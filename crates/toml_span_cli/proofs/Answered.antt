-- What the request of the first argument decides.
use Rattle.std.proofs.Common.{◌≡◌, ◌<◌, ◌∙◌, ℕ, Bool, List, Option, Result, IfOk, Ok, Err, Some, ap, get_or, length, map, option_map, refl, slice_get, subst, sym}
use Rattle.std.proofs.lemmas.Option.{slice_get-map, slice_get_read}
use Rattle.toml_span_cli.specs.Dispatch.{Answers, AnswersFirst, Dispatches, request_of}
use Rattle.toml_span_cli.specs.declared.dispatch.Request.{Request}
use Rattle.toml_span_commands.specs.declared.colours.Screen.{Screen}

-- the bytes of the first argument, which is at this position
first-of : {W : Type 0} (bytes : W → List ℕ) (words : List W) (at : ℕ) (word : W) → at < length words
    → word ≡ get_or words at word → slice_get (map bytes words) at ≡ Some (bytes word)
first-of bytes words at word within is =
    slice_get-map bytes words at ∙ ap (option_map bytes) (slice_get_read words (length words) at word refl within is)

-- The first argument makes this request, so an answer to the request carries out the command line.
pub dispatches : {W : Type 0} (bytes : W → List ℕ) (words : List W) (word : W) (first : List ℕ) (exists : Bool)
    (request : Request) (screen : Screen) (stdout stdout' : Option (List ℕ)) (out_failed : Bool)
    (stderr stderr' : Option (List ℕ)) (err_failed : Bool) (status : ℕ)
    → 1 < length words → word ≡ get_or words 1 word → first ≡ bytes word → request ≡ request_of first exists
    → Answers request (map bytes words) screen stdout stdout' out_failed stderr stderr' err_failed status
    → Dispatches (map bytes words) screen stdout stdout' out_failed stderr stderr' err_failed status
dispatches bytes words word first exists request screen stdout stdout' out_failed stderr stderr' err_failed status within is same asked answers =
    let all = map bytes words in
    subst (λ found. AnswersFirst found all screen stdout stdout' out_failed stderr stderr' err_failed status)
    (sym (first-of bytes words 1 word within is ∙ ap Some (sym same))) (
      exists,
      subst (λ r. Answers r all screen stdout stdout' out_failed stderr stderr' err_failed status) asked
          answers,
    )

pub dispatches-ok : {W Y : Type 0} (bytes : W → List ℕ) (words : List W) (word : W) (first : List ℕ) (exists : Bool)
    (request : Request) (screen : Screen) (stdout stdout' : Option (List ℕ)) (out_failed : Bool)
    (stderr stderr' : Option (List ℕ)) (err_failed : Bool) (result : Result ℕ Y)
    → 1 < length words → word ≡ get_or words 1 word → first ≡ bytes word → request ≡ request_of first exists
    → IfOk result (λ status. Answers request (map bytes words) screen stdout stdout' out_failed stderr stderr' err_failed
    status)
    → IfOk result (λ status. Dispatches (map bytes words) screen stdout stdout' out_failed stderr stderr' err_failed
    status)
dispatches-ok bytes words word first exists request screen stdout stdout' out_failed stderr stderr' err_failed (Ok status) within is same asked answers =
    dispatches bytes words word first exists request screen stdout stdout' out_failed stderr stderr' err_failed status within is same asked answers
dispatches-ok bytes words word first exists request screen stdout stdout' out_failed stderr stderr' err_failed (Err e) within is same asked answers = tt
