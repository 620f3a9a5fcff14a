-- Output whose beginning has been written, and whose rest is in a buffer.
use Rattle.std.specs.Prelude.{◌≡◌, ℕ, Bool, true, false, List, ◌++◌, Option, Result, Ok, Err}
use Rattle.std.specs.Io.KnownBytes.{Appends}
use Rattle.toml_span_lines.specs.declared.held.Unwritten.{Unwritten}
use Rattle.toml_span_lines.specs.declared.held.Unwritten.TheVariants.{Failed, Memory}
use Rattle.toml_span_lines.specs.Run.{HasWritten}

-- A prefix of the text has been written, and the buffer has the rest.
abbrev pub HoldsRest : Option (List ℕ) → Option (List ℕ) → List ℕ → List ℕ → Type 0
HoldsRest old new text held = (front : List ℕ) × Appends old new front × (front ++ held ≡ text)

-- The result of writing a text through a buffer. On success, a prefix of the text has been written, and the buffer has
-- the rest. If a write or an allocation failed, a prefix of the text has been written. `old` and `new` are the bytes
-- that the writer has received before and after, and `failed` is whether a write failed.
abbrev pub Streams : {A : Type 0} → Result A Unwritten → Option (List ℕ) → Option (List ℕ) → Bool → List ℕ → List ℕ
    → Type 0
Streams (Ok done) old new failed text held = (failed ≡ false) × HoldsRest old new text held
Streams (Err Memory) old new failed text held = (failed ≡ false) × HasWritten old new text
Streams (Err Failed) old new failed text held = (failed ≡ true) × HasWritten old new text
