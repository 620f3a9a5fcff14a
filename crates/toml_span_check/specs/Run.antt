-- The output and the exit status for the files that the program reads.
use Rattle.std.specs.Prelude.{◌≡◌, ◌↔◌, ◌≤◌, ◌⊎◌, ⊤, ℕ, ◌+◌, ◌==◌, nat_lt, max, min, Bool, true, false, ◌||◌, IsTrue}
use Rattle.std.specs.Prelude.{List, [], ◌∷◌, ◌++◌, map, length, codes, if◌then◌else◌, Option, Some, None, Result, Ok}
use Rattle.std.specs.Prelude.{Err, not}
use Rattle.std.specs.Str.{bytes_eq}
use Rattle.std.specs.Prelude.{String, Vec, string_bytes}
use Rattle.std.specs.Fmt.{decimal}
use Rattle.std.specs.Global.{Global}
use Rattle.std.specs.Io.KnownBytes.{Appends, Keeps}
use Rattle.std.specs.declared.io.ErrorKind.{ErrorKind}
use Rattle.std.specs.declared.io.ErrorKind.TheVariants as kind
use Rattle.toml_span_lines.specs.Run.{HasRead, HasReadAll, HasWritten}
use Rattle.toml_span_check.specs.Answer.{Answer, IsAnswer}
use Rattle.toml_span_check.specs.Fixable.{no_error, one_error, plus}
use Rattle.toml_span_check.specs.Numbers.{number_of}
use Rattle.toml_span_check.specs.Sarif.{document}
use Rattle.toml_span_report.specs.Visible.{visible}
use Rattle.toml_span_check.specs.Schemas.{Says}
use Rattle.toml_span_check.specs.Words.{shown_word}
use Rattle.toml_span_check.specs.declared.answer.Printing.{Printing}
use Rattle.toml_span_check.specs.declared.answer.Task.{Task}
use Rattle.toml_span_check.specs.declared.answer.Task.TheVariants.{Check, Show}
use Rattle.toml_span_check.specs.declared.fixable.Count.{Count}
use Rattle.toml_span_check.specs.declared.formats.Format.{Format}
use Rattle.toml_span_check.specs.declared.formats.Format.TheVariants.{Text, Sarif}
use Rattle.toml_span_check.specs.declared.run.Tally.{Tally}

-- A search: the patterns of paths to leave out, the argument, and the names of the files that were found (see
-- `Inputs::find`).
abbrev pub Search : Type 0
Search = List (List ℕ) × List ℕ × List (List ℕ)

-- a read: the name of the file, and its bytes or a message that says why it can't be read
abbrev pub Reading : Type 0
Reading = List ℕ × Result (List ℕ) (List ℕ)

abbrev pub read_of : Result (Vec ℕ Global) (String Global) → Result (List ℕ) (List ℕ)
read_of (Ok bytes) = Ok bytes.items
read_of (Err reason) = Err (string_bytes reason)

-- the searches and reads so far
pub record Asked : Type 0 where
  pub searches : List Search
  pub readings : List Reading

-- The result of reading a file is the whole input, or more than 16 MiB of it. If a read failed, the result is a
-- message.
abbrev pub HasReadOrNot : Option (List ℕ) → Option (List ℕ) → Result (List ℕ) (List ℕ) → Type 0
HasReadOrNot old new (Ok bytes) = HasReadAll old new bytes
HasReadOrNot old new (Err reason) = (bytes : List ℕ) × HasRead old new bytes

-- a message that says why a file can't be read: a fixed one for some common kinds of errors, any one for others
abbrev pub IsReason : ErrorKind → List ℕ → Type 0
IsReason kind.NotFound message = message ≡ codes "no such file"
IsReason kind.PermissionDenied message = message ≡ codes "permission denied"
IsReason kind.IsADirectory message = message ≡ codes "no `*.toml` file in this directory, or only ignored ones"
IsReason _ message = ⊤

-- The second log is the first with one more search. Nothing is required if the first log is not known.
abbrev pub LogsSearch : Option Asked → Option Asked → Search → Type 0
LogsSearch None new search = ⊤
LogsSearch (Some asked) new search = new ≡ Some (record asked { searches = asked.searches ++ search ∷ [] })

-- The files that the arguments name, also those in directories, in the order of the arguments.
pub data FindsAll (excludes : List (List ℕ))
    : List (List ℕ) → Option Asked → Option Asked → List (List ℕ) → Type 0 where
  no_name : (log : Option Asked) → FindsAll excludes [] log log []
  one_more : (names : List (List ℕ)) (old mid new : Option Asked) (files : List (List ℕ)) (name : List ℕ)
      (found : List (List ℕ)) → FindsAll excludes names old mid files → LogsSearch mid new (excludes, name, found)
      → FindsAll excludes (names ++ name ∷ []) old new (files ++ found)

-- The second log is the first with these reads added. Nothing is required if the first log is not known.
abbrev pub Logs : Option Asked → Option Asked → List Reading → Type 0
Logs None new more = ⊤
Logs (Some asked) new more = new ≡ Some (record asked { readings = asked.readings ++ more })

-- the line which reports that a file can't be read
abbrev pub complaint : List ℕ → List ℕ → List ℕ
complaint name reason = codes "error: cannot read `" ++ visible name ++ codes "`: " ++ reason ++ codes "\n"

-- no errors
abbrev pub none_wrong : Tally
none_wrong = record { files = 0; count = no_error }

abbrev pub counted : Tally → Count → Tally
counted wrong count = record { files = wrong.files + min count.errors 1; count = plus wrong.count count }

-- the exit status for a file with this many errors and this text for standard error, which is a complaint about the
-- schema if the task is a check
abbrev pub status_of : Task → ℕ → List ℕ → ℕ
status_of (Check version chooser) errors stderr =
    if length stderr == 0 then (if errors == 0 then 0 else 1) else 2
status_of (Show printing) errors stderr = if errors == 0 then 0 else 1

-- The output for files, one after the other: the answer to the bytes of each, and a line for each that can't be read.
-- The exit status is the highest of all files: 0 for a file without errors, 1 for a file with errors, and 2 for a file
-- that can't be read or whose schema can't be used. A file that can't be read counts as one error.
pub data Gathered (says : Says) (format : Format) (task : Task) (pointer : List ℕ)
    : List Reading → List ℕ → List ℕ → ℕ → Tally → Type 0 where
  nothing : Gathered says format task pointer [] [] [] 0 none_wrong
  answered : (rs : List Reading) (out errors : List ℕ) (status : ℕ) (wrong : Tally) (name bytes : List ℕ)
      (answer : Answer)
      → Gathered says format task pointer rs out errors status wrong → IsAnswer says format task pointer name bytes answer
      → Gathered says format task pointer (rs ++ (name, Ok bytes) ∷ []) (out ++ answer.1) (errors ++ answer.2)
      (max status (status_of task answer.0.errors answer.2)) (counted wrong answer.0)
  unread : (rs : List Reading) (out errors : List ℕ) (status : ℕ) (wrong : Tally) (name reason : List ℕ)
      → Gathered says format task pointer rs out errors status wrong
      → Gathered says format task pointer (rs ++ (name, Err reason) ∷ []) out
      (errors ++ complaint (shown_word name) reason) 2 (counted wrong one_error)

-- The files `names` were read in order. `out`, `errors`, `status` and `wrong` are the output, the exit status and the
-- counts for them.
pub record Collects (says : Says) (format : Format) (task : Task) (pointer : List ℕ) (names : List (List ℕ))
    (old new : Option Asked) (out errors : List ℕ) (status : ℕ) (wrong : Tally) : Type 0 where
  pub readings : List Reading
  pub asked : map (λ r. r.0) readings ≡ names
  pub logged : Logs old new readings
  pub gathered : Gathered says format task pointer readings out errors status wrong

-- how many errors have safe fixes, and how many more have fixes
abbrev pub fixable_with : ℕ → ℕ → List ℕ
fixable_with safe more =
    if safe == 0
    then (if more == 0 then [] else codes ", " ++ decimal more ++ codes " fixable with `--fix --unsafe-fixes`")
    else (if more == 0 then codes ", " ++ decimal safe ++ codes " fixable with `--fix`"
    else codes ", " ++ decimal safe ++ codes " fixable with `--fix`, " ++ decimal more
    ++ codes " more with `--unsafe-fixes`")

unfoldable pub fixable : Count → List ℕ
fixable count = fixable_with count.safe_fixes count.unsafe_fixes

unfoldable pub found_errors : ℕ → Tally → List ℕ
found_errors files wrong =
    number_of wrong.count.errors (codes " error") ++ codes " in " ++ decimal wrong.files ++ codes " of "
    ++ number_of files (codes " file") ++ fixable wrong.count ++ codes "\n"

unfoldable pub found_none : ℕ → List ℕ
found_none files = number_of files (codes " file") ++ codes " checked\n"

-- the last line of a check that prints text: ``3 errors in 2 of 5 files, 2 fixable with `--fix` `` or, without errors
-- and on a terminal, `5 files checked`
abbrev pub summary : Format → Task → Bool → ℕ → Tally → List ℕ
summary (Text style) (Check version chooser) is_watched files wrong =
    if nat_lt 0 wrong.count.errors then found_errors files wrong else if is_watched then found_none files else []
summary _ _ is_watched files wrong = []

-- the output of a check of all files: in the format SARIF, the document with these results
abbrev pub together : Format → List ℕ → List ℕ
together Sarif stdout = document stdout
together _ stdout = stdout

abbrev pub whole : Format → Task → List ℕ → List ℕ
whole format (Show printing) stdout = stdout
whole format (Check version chooser) stdout = together format stdout

-- whether the names of files are printed before values: unless there is only one file, which is the one argument
abbrev pub are_named : List (List ℕ) → List (List ℕ) → Bool
are_named (name ∷ []) (file ∷ []) = not (bytes_eq name file)
are_named names files = nat_lt 1 (length files)

-- the task, with or without these names
abbrev pub named_task : Task → Bool → Task
named_task (Show printing) are_named = Show (record printing { is_named = are_named })
named_task (Check version chooser) are_named = Check version chooser

-- the output, or nothing in a quiet run
abbrev pub said : Bool → List ℕ → List ℕ
said is_quiet text = if is_quiet then [] else text

-- The output and the exit status of a run. The output of a quiet run is empty.
pub record IsOutput (says : Says) (format : Format) (task : Task) (pointer : List ℕ) (excludes names : List (List ℕ))
    (is_watched is_quiet : Bool)
    (old new : Option Asked) (out errors : List ℕ) (status : ℕ) : Type 0 where
  pub files : List (List ℕ)
  pub mid : Option Asked
  pub found : FindsAll excludes names old mid files
  pub all : List ℕ
  pub complaints : List ℕ
  pub wrong : Tally
  pub prints : Collects says format (named_task task (are_named names files)) pointer files mid new all complaints
      status wrong
  pub shown : out ≡ said is_quiet (whole format task all)
  pub stderr : errors ≡ said is_quiet (complaints ++ summary format task is_watched (length files) wrong)

-- the task is to print documents
abbrev pub Shows : Task → Type 0
Shows task = (printing : Printing) × (task ≡ Show printing)

-- The first files were read, or all of them if the task is to check, and a prefix of the output for them was written.
pub record CollectsFirst (says : Says) (format : Format) (task : Task) (pointer : List ℕ) (files : List (List ℕ))
    (old new : Option Asked) (stdout stdout' : Option (List ℕ)) : Type 0 where
  pub first : List (List ℕ)
  pub rest : List (List ℕ)
  pub parts : files ≡ first ++ rest
  pub all : Shows task ⊎ (rest ≡ [])
  pub out : List ℕ
  pub complaints : List ℕ
  pub status : ℕ
  pub wrong : Tally
  pub prints : Collects says format task pointer first old new out complaints status wrong
  pub written : HasWritten stdout stdout' (whole format task out)

-- like `CollectsFirst`, for the files that the arguments name, also those in directories, in a run that is not quiet
pub record Begins (says : Says) (format : Format) (task : Task) (pointer : List ℕ) (excludes names : List (List ℕ)) (is_quiet : Bool)
    (old new : Option Asked) (stdout stdout' : Option (List ℕ)) : Type 0 where
  pub aloud : is_quiet ≡ false
  pub files : List (List ℕ)
  pub mid : Option Asked
  pub found : FindsAll excludes names old mid files
  pub prints : CollectsFirst says format (named_task task (are_named names files)) pointer files mid new stdout stdout'

-- A run with this exit status. `stdout` and `stdout'` are the texts on standard output before and after the run, and
-- `out_failed` says whether a write to standard output failed. `stderr`, `stderr'` and `err_failed` are the same for
-- standard error.
pub record Runs (says : Says) (format : Format) (task : Task) (pointer : List ℕ) (excludes names : List (List ℕ))
    (is_watched is_quiet : Bool)
    (old new : Option Asked) (stdout stdout' : Option (List ℕ)) (out_failed : Bool) (stderr stderr' : Option (List ℕ))
    (err_failed : Bool) (status : ℕ) : Type 0 where
  -- the status is 3 if and only if a write failed
  pub failed : (status ≡ 3) ↔ IsTrue (out_failed || err_failed)
  -- if the status is 4, nothing has been written or, if documents are printed, a prefix of the output for the first
  -- files
  pub silent : status ≡ 4 → Keeps stderr stderr' × (Keeps stdout stdout'
      ⊎ (Shows task × ((last : Option Asked)
      × Begins says format task pointer excludes names is_quiet old last stdout stdout')))
  -- after a failed write to standard output, only a prefix of the output has been written, and nothing to standard
  -- error
  pub cut : out_failed ≡ true → Keeps stderr stderr'
      × Begins says format task pointer excludes names is_quiet old new stdout stdout'
  -- before a failed write to standard error, all of standard output has been written
  pub warns : err_failed ≡ true → (out errors : List ℕ) × (answered : ℕ)
      × IsOutput says format task pointer excludes names is_watched is_quiet old new out errors answered
      × Appends stdout stdout' out × HasWritten stderr stderr' errors
  -- otherwise all files have been read, and the output has been written
  pub written : ¬ (status ≡ 3) → ¬ (status ≡ 4) → (out errors : List ℕ)
      × IsOutput says format task pointer excludes names is_watched is_quiet old new out errors status
      × Appends stdout stdout' out × Appends stderr stderr' errors
  pub known : status ≤ 4
