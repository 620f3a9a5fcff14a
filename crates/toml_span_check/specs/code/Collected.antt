-- The output while files are read: what has been written, and what is in the buffer.
use Rattle.std.specs.Prelude.{◌≡◌, ◌⊎◌, ℕ, max, Bool, true, false, List, [], ◌++◌, Option, Result, Ok, Err}
use Rattle.std.specs.Prelude.{string_bytes}
use Rattle.toml_span_lines.specs.Held.{HoldsRest}
use Rattle.toml_span_lines.specs.Run.{HasWritten}
use Rattle.toml_span_lines.specs.declared.held.Unwritten.{Unwritten}
use Rattle.toml_span_lines.specs.declared.held.Unwritten.TheVariants.{Failed, Memory}
use Rattle.toml_span_check.specs.Answer.{Answer, IsAnswer}
use Rattle.toml_span_check.specs.Fixable.{one_error}
use Rattle.toml_span_check.specs.Run.{Asked, Begins, Shows, Collects, CollectsFirst, IsOutput, complaint, counted}
use Rattle.toml_span_check.specs.Run.{status_of}
use Rattle.toml_span_check.specs.Schemas.{Says}
use Rattle.toml_span_check.specs.Words.{shown_word}
use Rattle.toml_span_check.specs.declared.answer.Task.{Task}
use Rattle.toml_span_check.specs.declared.answer.Verdict.{Verdict}
use Rattle.toml_span_check.specs.declared.formats.Format.{Format}
use Rattle.toml_span_check.specs.declared.run.Tally.{Tally}
use Rattle.toml_span_check.specs.declared.run.Collected.{Collected}

-- A prefix of a text has been written, and the rest is in the buffer. If no document is printed, nothing has been
-- written.
abbrev pub Holds : Task → Option (List ℕ) → Option (List ℕ) → List ℕ → List ℕ → Type 0
Holds task old new text held = HoldsRest old new text held × ((held ≡ text) ⊎ Shows task)

-- ---- the bytes of a file

-- The task is to print documents. A prefix of the buffered text `held`, followed by the text of the answer, has been
-- written.
abbrev pub Begun : Says → Format → Task → List ℕ → List ℕ → List ℕ → Option (List ℕ) → Option (List ℕ) → List ℕ → Type 0
Begun says format task pointer name bytes old new held =
    Shows task × ((answer : Answer) × IsAnswer says format task pointer name bytes answer
    × HasWritten old new (held ++ answer.1))

-- If the result is `Ok`, the buffered text and the answer have been written, except for the text that is in the buffer
-- now. If it is an error, a prefix of them may have been written. Something is written only if a document is printed.
abbrev pub CollectsBytes : Says → Format → Task → List ℕ → List ℕ → List ℕ → Result Verdict Unwritten → Option (List ℕ)
    → Option (List ℕ) → Bool → List ℕ → List ℕ → Type 0
CollectsBytes says format task pointer name bytes (Ok verdict) old new failed held held' =
    (failed ≡ false) × ((new ≡ old) ⊎ Shows task)
    × ((text : List ℕ) × IsAnswer says format task pointer name bytes (verdict.count, text, string_bytes verdict.stderr)
    × Holds task old new (held ++ text) held')
CollectsBytes says format task pointer name bytes (Err Memory) old new failed held held' =
    (failed ≡ false) × ((new ≡ old) ⊎ Begun says format task pointer name bytes old new held)
CollectsBytes says format task pointer name bytes (Err Failed) old new failed held held' =
    (failed ≡ true) × Begun says format task pointer name bytes old new held

-- ---- a file

-- the output for files: standard output, standard error, the status, and the counts
abbrev pub TextsOf : Type 0
TextsOf = List ℕ × List ℕ × ℕ × Tally

-- `new` is `old` with the output for one more file.
abbrev pub AddsFile : Says → Format → Task → List ℕ → List ℕ → Result (List ℕ) (List ℕ) → TextsOf → TextsOf → Type 0
AddsFile says format task pointer name (Ok bytes) old new =
    (answer : Answer) × IsAnswer says format task pointer name bytes answer
    × (new.0 ≡ old.0 ++ answer.1) × (new.1 ≡ old.1 ++ answer.2)
    × (new.2 ≡ max old.2 (status_of task answer.0.errors answer.2))
    × (new.3 ≡ counted old.3 answer.0)
AddsFile says format task pointer name (Err reason) old new =
    (new.0 ≡ old.0) × (new.1 ≡ old.1 ++ complaint (shown_word name) reason) × (new.2 ≡ 2)
    × (new.3 ≡ counted old.3 one_error)

abbrev pub BegunOne : Says → Format → Task → List ℕ → List ℕ → Result (List ℕ) (List ℕ) → Option (List ℕ) → Option (List ℕ)
    → TextsOf → Type 0
BegunOne says format task pointer name reading old new held =
    Shows task × ((all : TextsOf) × AddsFile says format task pointer name reading held all × HasWritten old new all.0)

-- One more file is checked or printed. The two `TextsOf` are the output before and after, where the first text is only
-- the part that is in the buffer.
abbrev pub CollectsOne : Says → Format → Task → List ℕ → List ℕ → Result (List ℕ) (List ℕ) → Result (Unit {0}) Unwritten
    → Option (List ℕ) → Option (List ℕ) → Bool → TextsOf → TextsOf → Type 0
CollectsOne says format task pointer name reading (Ok done) old new failed held held' =
    (failed ≡ false) × ((new ≡ old) ⊎ Shows task)
    × ((text : List ℕ) × AddsFile says format task pointer name reading held (text, held'.1, held'.2, held'.3)
    × Holds task old new text held'.0)
CollectsOne says format task pointer name reading (Err Memory) old new failed held held' =
    (failed ≡ false) × ((new ≡ old) ⊎ BegunOne says format task pointer name reading old new held)
CollectsOne says format task pointer name reading (Err Failed) old new failed held held' =
    (failed ≡ true) × BegunOne says format task pointer name reading old new held

-- ---- files with these names

abbrev pub CollectsFiles : Says → Format → Task → List ℕ → List (List ℕ) → Result Collected Unwritten → Option Asked
    → Option Asked → Option (List ℕ) → Option (List ℕ) → Bool → Type 0
CollectsFiles says format task pointer names (Ok t) old new stdout stdout' failed =
    (failed ≡ false) × ((stdout' ≡ stdout) ⊎ Shows task)
    × ((all : List ℕ) × Collects says format task pointer names old new all (string_bytes t.errors) t.status t.wrong
    × Holds task stdout stdout' all t.held.items)
CollectsFiles says format task pointer names (Err Memory) old new stdout stdout' failed =
    (failed ≡ false) × ((stdout' ≡ stdout)
    ⊎ (Shows task × ((last : Option Asked) × CollectsFirst says format task pointer names old last stdout stdout')))
CollectsFiles says format task pointer names (Err Failed) old new stdout stdout' failed =
    (failed ≡ true) × Shows task × CollectsFirst says format task pointer names old new stdout stdout'

-- ---- the files that arguments select

-- If the result is `Ok`, the output has been written, except for the text in the buffer. Otherwise at most a prefix of
-- the output for the first files has been written. Before the end, only documents that are printed are written.
abbrev pub CollectsAll : Says → Format → Task → List ℕ → List (List ℕ) → List (List ℕ) → Bool → Result Collected Unwritten
    → Option Asked → Option Asked → Option (List ℕ) → Option (List ℕ) → Bool → Type 0
CollectsAll says format task pointer excludes names is_watched (Ok t) old new stdout stdout' failed =
    (failed ≡ false) × ((stdout' ≡ stdout) ⊎ Shows task)
    × ((out : List ℕ)
    × IsOutput says format task pointer excludes names is_watched false old new out (string_bytes t.errors) t.status
    × HoldsRest stdout stdout' out t.held.items)
CollectsAll says format task pointer excludes names is_watched (Err Memory) old new stdout stdout' failed =
    (failed ≡ false) × ((stdout' ≡ stdout)
    ⊎ (Shows task × ((last : Option Asked) × Begins says format task pointer excludes names false old last stdout stdout')))
CollectsAll says format task pointer excludes names is_watched (Err Failed) old new stdout stdout' failed =
    (failed ≡ true) × Begins says format task pointer excludes names false old new stdout stdout'

-- a quiet run: status 4 if an allocation failed, otherwise that of the output
abbrev pub EndsQuiet : Says → Format → Task → List ℕ → List (List ℕ) → List (List ℕ) → Bool → Option Asked → Option Asked → ℕ
    → Type 0
EndsQuiet says format task pointer excludes names is_watched old new status =
    (status ≡ 4) ⊎ IsOutput says format task pointer excludes names is_watched true old new [] [] status
