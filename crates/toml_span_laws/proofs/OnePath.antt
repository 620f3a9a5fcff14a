-- Reading a path has at most one result.
use Rattle.toml_span_lex.proofs.Common.{◌≡◌, ℕ, ◌+◌, ◌<◌, ◌⊎◌, true, false, List, get_or, slice_range, Option, Some, None, Result, Ok, Err, inl, inr, refl, sym, ap, ◌∙◌, ◌==◌, arith, nat_tests}
use Rattle.toml_span_lex.specs.Bytes.{MaximalRun, is_keylike, left_bracket}
use Rattle.toml_span_lex.specs.Tokens.{string}
use Rattle.toml_span_lex.proofs.One.{Choice, One, err_same, ok_same, one_choice, one_either, one_given, one_is, one_through, one_where}
use Rattle.toml_span_lex.proofs.OneFault as lex
use Rattle.toml_span_lex.proofs.Unique.{run_unique}
use Rattle.toml_span_read.specs.Gaps.{Dot, NoDot}
use Rattle.toml_span_read.specs.Keys.{opens_string}
use Rattle.toml_span_tree.specs.Pointer.{pointer_segments}
use Rattle.toml_span_places.specs.Dotted.{IsDotted, IsKey, IsPath, IsPathOf, IsPosition, IsStep, NoKey, NoPosition, NoStep, Outcome, Steps, ends, error, goes_on, is_closed, onto, stops, string_error}
use Rattle.toml_span_places.specs.declared.dotted.PathError.{PathError}
use Rattle.toml_span_places.specs.declared.dotted.PathFault.TheVariants as faults
use Rattle.toml_span_laws.proofs.OneReading.{dot_or_none}

-- a segment and the offset after it, or an error
abbrev Reads : Type 0
Reads = Result (List ℕ × ℕ) PathError

abbrev Gives : (ℕ → List ℕ → Type 0) → (PathError → Type 0) → Reads → Type 0
Gives is fails (Ok (segment, j)) = is j segment
Gives is fails (Err e) = fails e

-- ---- keys

run_begins : (text : List ℕ) (i j : ℕ) → MaximalRun is_keylike text i j → i < j → is_keylike (get_or text i 0) ≡ true
run_begins text i j run below = run.passes i (omega arith) below

quote_begins : (c : ℕ) → (c ≡ 34) ⊎ (c ≡ 39) → (is_keylike c ≡ false) × (opens_string c ≡ true)
quote_begins c q = grind (arith, nat_tests)

abbrev key_of : ℕ → lex.Outcome → Reads
key_of i (Ok (s, string src v false, j)) = Ok (v, j)
key_of i (Ok (s, l, j)) = Err (error i faults.Quoted)
key_of i (Err (e, j)) = Err (string_error i j e)

abbrev Key : List ℕ → ℕ → Reads → Type 0
Key text i = Gives (IsKey text i) (NoKey text i)

abbrev KeyForm : List ℕ → ℕ → Reads → Type 0
KeyForm text i = Choice (is_keylike (get_or text i 0)) (λ r. (k : ℕ) × MaximalRun is_keylike text i k × (r ≡ Ok (slice_range text i k, k)))
    (Choice (opens_string (get_or text i 0)) (λ r. (o : lex.Outcome) × lex.StringReads text i o × (r ≡ key_of i o)) (λ r. r ≡ Err (error i faults.Key)))

key_form : (text : List ℕ) (i : ℕ) (r : Reads) → Key text i r → KeyForm text i r
key_form text i (Ok (name, j)) (inl run) = inl (run_begins text i j run.1 run.0, (j, run.1, rw run.2 refl))
key_form text i (Ok (name, j)) (inr (span, source, is)) =
    let q = quote_begins (get_or text i 0) is.quote in inr (q.0, inl (q.1, (Ok (span, string source name false, j), is, refl)))
key_form text i (Err e) (inl none) = inr (none.0, inr (none.1, rw none.2 refl))
key_form text i (Err e) (inr (inl (j, span, source, name, is, same))) =
    let q = quote_begins (get_or text i 0) is.quote in inr (q.0, inl (q.1, (Ok (span, string source name true, j), is, rw same refl)))
key_form text i (Err e) (inr (inr (j, fault, is, same))) =
    let q = quote_begins (get_or text i 0) is.quote in inr (q.0, inl (q.1, (Err (fault, j), is, rw same refl)))

key_one : (text : List ℕ) (i : ℕ) → One (Key text i)
key_one text i = one_through (key_form text i) (one_choice (one_given (run_unique _ text i) (λ k. one_is))
    (one_choice (one_given (lex.string_one text i) (λ o. one_is)) one_is))

-- ---- positions

abbrev Position : List ℕ → ℕ → Reads → Type 0
Position text i = Gives (IsPosition text i) (NoPosition text i)

abbrev PositionForm : List ℕ → ℕ → Reads → Type 0
PositionForm text i = Choice (get_or text i 0 == left_bracket) (Choice (is_keylike (get_or text (i + 1) 0))
    (λ r. (k : ℕ) × MaximalRun is_keylike text (i + 1) k × Choice (is_closed text (slice_range text (i + 1) k) k)
    (λ r. r ≡ Ok (slice_range text (i + 1) k, k + 1)) (λ r. r ≡ Err (error (i + 1) faults.Position)) r)
    (λ r. r ≡ Err (error (i + 1) faults.Position))) (λ r. r ≡ Err (error i faults.Step))

is_bracket : (c : ℕ) → c ≡ left_bracket → (c == left_bracket) ≡ true
is_bracket c is = grind (arith, nat_tests)

position_form : (text : List ℕ) (i : ℕ) (r : Reads) → Position text i r → PositionForm text i r
position_form text i (Ok (digits, j)) (k, bracket, run, closed, same) =
    inl (is_bracket _ bracket, inl (run_begins text (i + 1) k run.1 run.0, (k, run.1, inl (rw (← run.2) closed, rw (same, run.2) refl))))
position_form text i (Err e) (inl (none, same)) = inr (none, rw same refl)
position_form text i (Err e) (inr (inl (bracket, none, same))) = inl (is_bracket _ bracket, inr (none, rw same refl))
position_form text i (Err e) (inr (inr (k, digits, bracket, run, wide, same))) =
    inl (is_bracket _ bracket, inl (run_begins text (i + 1) k run.1 run.0, (k, run.1, inr (rw (← run.2) wide, rw same refl))))

position_one : (text : List ℕ) (i : ℕ) → One (Position text i)
position_one text i = one_through (position_form text i) (one_choice (one_choice (one_given (run_unique _ text (i + 1))
    (λ k. one_choice one_is one_is)) one_is) one_is)

-- ---- steps

dot_one : (text : List ℕ) (i j k : ℕ) → Dot text i j → Dot text i k → j ≡ k
dot_one text i j k a b =
    let same = run_unique _ text i a.at b.at a.before b.before in
    run_unique _ text (b.at + 1) j k (rw same at a.after) b.after

abbrev Step : List ℕ → ℕ → Reads → Type 0
Step text i = Gives (IsStep text i) (NoStep text i)

abbrev StepForm : List ℕ → ℕ → Reads → Type 0
StepForm text i r = ((m : ℕ) × Dot text i m × Key text m r) ⊎ (NoDot text i × Position text i r)

step_form : (text : List ℕ) (i : ℕ) (r : Reads) → Step text i r → StepForm text i r
step_form text i (Ok (segment, j)) h = h
step_form text i (Err e) h = h

step_one : (text : List ℕ) (i : ℕ) → One (Step text i)
step_one text i = one_through (step_form text i) (one_either (one_given (dot_one text i) (key_one text)) (one_where (position_one text i))
    (λ r s a b. dot_or_none text i a.0 a.1 b.0))

ok_err : {A E : Type 0} {a : A} {e : E} → ◌≡◌ {A = Result A E} (Ok a) (Err e) → ⊥
ok_err h = cc

steps_one : (text : List ℕ) {i : ℕ} {r s : Outcome} → Steps text i r → Steps text i s → r ≡ s
steps_one text (ends i past) (ends i' past') = refl
steps_one text (ends i past) (stops i' e below none) = absurd (omega (arith, past, below))
steps_one text (ends i past) (goes_on i' j segment rest all below step steps same) = absurd (omega (arith, past, below))
steps_one text (stops i e below none) (ends i' past) = absurd (omega (arith, past, below))
steps_one text (stops i e below none) (stops i' f below' none') = ap (λ x. Err x) (err_same (step_one text i (Err e) (Err f) none none'))
steps_one text (stops i e below none) (goes_on i' j segment rest all below' step steps same) =
    absurd (ok_err (step_one text i (Ok (segment, j)) (Err e) step none))
steps_one text (goes_on i j segment rest all below step steps same) (ends i' past) = absurd (omega (arith, past, below))
steps_one text (goes_on i j segment rest all below step steps same) (stops i' e below' none) =
    absurd (ok_err (step_one text i (Ok (segment, j)) (Err e) step none))
steps_one text (goes_on i j segment rest all below step steps same) (goes_on i' k other rest' all' below' step' steps' same') =
    let one = ok_same (step_one text i (Ok (segment, j)) (Ok (other, k)) step step') in
    let next : k ≡ j = sym (ap (λ x. x.1) one) in
    let more = steps_one text {i = j} {r = rest} {s = rest'} steps (rw next at steps') in
    same ∙ (ap (λ x. onto x rest) (ap (λ x. x.0) one) ∙ ap (onto other) more) ∙ sym same'

-- ---- paths

dotted_one : (text : List ℕ) → One (IsDotted text)
dotted_one text r s (inl (j, name, rest, key, steps, same)) (inl (k, other, rest', key', steps', same')) =
    let one = ok_same (key_one text 0 (Ok (name, j)) (Ok (other, k)) key key') in
    let next : k ≡ j = sym (ap (λ x. x.1) one) in
    let more = steps_one text {i = j} {r = rest} {s = rest'} steps (rw next at steps') in
    same ∙ (ap (λ x. onto x rest) (ap (λ x. x.0) one) ∙ ap (onto other) more) ∙ sym same'
dotted_one text r s (inl (j, name, rest, key, steps, same)) (inr (e, none, stop)) = absurd (ok_err (key_one text 0 (Ok (name, j)) (Err e) key none))
dotted_one text r s (inr (e, none, stop)) (inl (j, name, rest, key, steps, same)) = absurd (ok_err (key_one text 0 (Ok (name, j)) (Err e) key none))
dotted_one text r s (inr (e, none, same)) (inr (f, none', same')) =
    same ∙ ap (λ x. Err x) (err_same (key_one text 0 (Err e) (Err f) none none')) ∙ sym same'

path_of_one : (o : Option (List (List ℕ))) (text : List ℕ) → One (IsPathOf o text)
path_of_one (Some names) text = one_is
path_of_one None text = dotted_one text

pub path_one : (text : List ℕ) (r s : Outcome) → IsPath text r → IsPath text s → r ≡ s
path_one text = path_of_one (pointer_segments text) text
