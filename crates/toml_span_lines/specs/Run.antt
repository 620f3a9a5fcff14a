-- What the program reads and writes, and its exit status.
use Rattle.std.specs.Prelude.{◌≡◌, ◌↔◌, ◌<◌, ℕ, ◌+◌, ◌≤◌, Bool, true, false, not, ◌||◌, nat_eq, nat_lt, IsTrue, IsUtf8}
use Rattle.std.specs.Prelude.{List, length, take, Option, codes, ◌⊎◌}
use Rattle.toml_span_lines.specs.declared.run.Cut.{Cut}
use Rattle.toml_span_lines.specs.declared.run.Cut.TheVariants.{Failed, Memory}
use Rattle.toml_span_lines.specs.Shown.{ShowsDocument, ShowsRefusal}
use Rattle.std.specs.Io.KnownBytes.{Appends, Consumes, IsAtEnd, Keeps}

-- the maximum length of the input in bytes
abbrev pub bound : ℕ
bound = 16777216

-- Either the status is 0, and the text has the lines of the tree, or the status is 1, and the text is the line of the
-- error.
abbrev pub IsShown : List ℕ → ℕ → ℕ → List ℕ → Type 0
IsShown bytes limit status text =
    ((status ≡ 0) × ShowsDocument bytes limit text) ⊎ ((status ≡ 1) × ShowsRefusal bytes limit text)

-- The status and the output for an input: one that is longer than the maximum, one that is not valid UTF-8, a document,
-- or a text with an error.
pub record IsAnswer (bytes : List ℕ) (limit : ℕ) (status : ℕ) (text : List ℕ) : Type 0 where
  pub too_long : bound < length bytes → (status ≡ 2) × (text ≡ codes "error too-long\n")
  pub no_text : length bytes ≤ bound → ¬ (IsUtf8 bytes) → (status ≡ 2) × (text ≡ codes "error not-utf-8\n")
  pub shown : length bytes ≤ bound → IsUtf8 bytes → IsShown bytes limit status text

-- These bytes were read, at most one more than the maximum.
abbrev pub HasRead : Option (List ℕ) → Option (List ℕ) → List ℕ → Type 0
HasRead old new bytes = Consumes old new bytes × (length bytes ≤ bound + 1)

-- These bytes were read: the whole input, or one byte more than the maximum.
abbrev pub HasReadAll : Option (List ℕ) → Option (List ℕ) → List ℕ → Type 0
HasReadAll old new bytes = HasRead old new bytes × ((length bytes ≡ bound + 1) ⊎ IsAtEnd new)

-- A prefix of the text was written.
abbrev pub HasWritten : Option (List ℕ) → Option (List ℕ) → List ℕ → Type 0
HasWritten old new text = (n : ℕ) × (n ≤ length text) × Appends old new (take n text)

-- A run with this limit: what is left to read before and after, whether a read failed, what has been written before and
-- after, whether a write failed, and the status.
pub record Runs (limit : ℕ) (left left' : Option (List ℕ)) (unread : Bool) (written written' : Option (List ℕ))
    (unwritten : Bool) (status : ℕ) : Type 0 where
  -- at most one byte more than the maximum has been read
  pub reads : (bytes : List ℕ) × HasRead left left' bytes
  -- the status is 3 if and only if a read or a write failed
  pub failed : (status ≡ 3) ↔ IsTrue (unread || unwritten)
  -- nothing has been written after a failed read or a failed allocation
  pub silent : IsTrue (unread || nat_eq status 4) → Keeps written written'
  -- after a failed write a prefix of an answer has been written
  pub cut : IsTrue unwritten → (bytes text : List ℕ) × (answered : ℕ) × HasReadAll left left' bytes
      × IsAnswer bytes limit answered text × HasWritten written written' text
  -- otherwise the status is that of an answer, and the whole text of the answer has been written
  pub answers : nat_lt status 3 ≡ true → (bytes text : List ℕ) × HasReadAll left left' bytes
      × IsAnswer bytes limit status text × Appends written written' text
  pub known : status ≤ 4

-- A prefix of a text was written, and the whole text if no write failed.
pub record WritesOut (old new : Option (List ℕ)) (text : List ℕ) (failed : Bool) (all : Bool) : Type 0 where
  pub written : HasWritten old new text
  pub whole : all ≡ true → Appends old new text
  pub reported : failed ≡ not all

-- Reading stopped because a read or an allocation failed. Some bytes, at most one more than the maximum, were read.
abbrev pub HasCut : Option (List ℕ) → Option (List ℕ) → Bool → Cut → Type 0
HasCut old new failed (Failed error) = (failed ≡ true) × ((bytes : List ℕ) × HasRead old new bytes)
HasCut old new failed Memory = (failed ≡ false) × ((bytes : List ℕ) × HasRead old new bytes)
