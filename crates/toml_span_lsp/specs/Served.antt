-- What the server reads and writes (LSP 3.17, Base Protocol).
use Rattle.std.specs.Prelude.{◌≡◌, ◌≢◌, ◌⊎◌, ℕ, ◌+◌, ◌-◌, ◌<◌, ◌≤◌, ◌^◌, Bool, true, false, List, [], ◌∷◌, ◌++◌, Option, None, Some, IfSome, MatchOption, codes, length, take, ⊤}
use Rattle.std.specs.Io.KnownBytes.{Appends, Consumes, IsAtEnd}
use Rattle.std.specs.List.{flat_map}
use Rattle.json.specs.Token.{null}
use Rattle.toml_span_lines.specs.Run.{HasWritten}
use Rattle.toml_span_lsp.specs.Frames.{IsShort, frame_of, head_of, limit}
use Rattle.toml_span_lsp.specs.Messages.{Answers, IsResponse}
use Rattle.toml_span_lsp.specs.Phases.{AfterContent, exit_status}
use Rattle.toml_span_lsp.specs.declared.frames.Framed.{Framed}
use Rattle.toml_span_lsp.specs.declared.frames.Framed.TheVariants.{Whole, TooLong, Part, Fault}
use Rattle.toml_span_lsp.specs.declared.server.Ended.{Ended}
use Rattle.toml_span_lsp.specs.declared.state.Phase.{Phase}

-- headers: they end with the first empty line
abbrev pub AreHeaders : List ℕ → Type 0
AreHeaders head = (lines : List ℕ) × (head ≡ lines ++ codes "\r\n\r\n")
    × ((before after : List ℕ) → head ≡ before ++ (codes "\r\n\r\n" ++ after) → after ≡ [])

-- The headers of a content with n bytes. If `Content-Length` is the only header, and written as the server writes it,
-- it says so. What other headers say is left open.
abbrev pub AreHeadersOf : ℕ → List ℕ → Type 0
AreHeadersOf n head = AreHeaders head × ((m : ℕ) → m < 2 ^ 64 → head ≡ head_of m → n ≡ m)

-- what a content of `count` bytes at the offset `start` is, if n bytes have been read
abbrev pub Fits : ℕ → ℕ → ℕ → Framed → Type 0
Fits start count n (Whole from end) = (from ≡ start) × (end ≡ start + count) × (end ≤ n) × (count ≤ limit)
Fits start count n (TooLong end) = (end ≡ start + count) × (limit < count)
Fits start count n Part = ⊤
Fits start count n (Fault fault) = ⊤

-- What the bytes begin with: a whole frame, or the headers of one that is too long.
abbrev pub IsFramed : List ℕ → Framed → Type 0
IsFramed bytes (Whole start end) =
    (start ≤ end) × (end ≤ length bytes) × (end - start ≤ limit) × AreHeadersOf (end - start) (take start bytes)
IsFramed bytes (TooLong end) = (start n : ℕ)
    × (start ≤ length bytes) × (limit < n) × (end ≡ start + n) × AreHeadersOf n (take start bytes)
IsFramed bytes Part = ⊤
IsFramed bytes (Fault fault) = ⊤

-- The bytes `out` are the frames that answer this content.
abbrev pub Handles : List ℕ → Phase → List ℕ → Phase → Type 0
Handles content phase out next = (sent : List (List ℕ)) × (out ≡ flat_map frame_of sent) × Answers content sent
    × AfterContent content phase next

-- The bytes are a frame with a response to a message that has not been read.
abbrev pub Refuses : List ℕ → Type 0
Refuses out = (response : List ℕ) × (out ≡ frame_of response) × IsResponse null response

-- One step of the server: it takes a frame, which no message `exit` came before, and writes `out`.
pub record Step (phase : Phase) (frame out : List ℕ) (next : Phase) : Type 0 where
  pub goes_on : exit_status phase ≡ None
  pub head : List ℕ
  pub content : List ℕ
  pub is : frame ≡ head ++ content
  pub headers : AreHeadersOf (length content) head
  pub handled : (IsShort content × Handles content phase out next)
      ⊎ ((limit < length content) × Refuses out × (next ≡ phase))

-- Steps, one after the other: the phase before, the frames that they take, what they write, and the phase after.
pub data Runs : Phase → List ℕ → List ℕ → Phase → Type 0 where
  stays : {phase : Phase} → Runs phase [] [] phase
  step : {phase next last : Phase} {frame out input output : List ℕ} → Step phase frame out next
      → Runs next input output last → Runs phase (frame ++ input) (out ++ output) last

-- The input and the output: the bytes that are left to read, whether a read has failed, the bytes that have been
-- written, and whether a write has failed.
pub record Streams : Type 0 where
  pub left : Option (List ℕ)
  pub unread : Bool
  pub written : Option (List ℕ)
  pub unwritten : Bool

abbrev pub streams : Option (List ℕ) → Bool → Option (List ℕ) → Bool → Streams
streams left unread written unwritten = record {
  left = left;
  unread = unread;
  written = written;
  unwritten = unwritten;
}

-- The server goes on. It reads bytes, takes frames, and writes exactly what these steps send. `held` are the bytes that
-- have been read but not taken.
pub record Goes (phase : Phase) (held : List ℕ) (old : Streams) (next : Phase) (held' : List ℕ) (new : Streams) :
    Type 0 where
  pub read : List ℕ
  pub input : List ℕ
  pub output : List ℕ
  pub runs : Runs phase input output next
  pub consumes : Consumes old.left new.left read
  pub parts : held ++ read ≡ input ++ held'
  pub appends : Appends old.written new.written output
  pub goes_on : exit_status next ≡ None
  pub good : new.unwritten ≡ false

-- No whole frame is at the start of these bytes and what is left to read.
abbrev pub BeginsNoFrame : List ℕ → Option (List ℕ) → Type 0
BeginsNoFrame held left =
    IfSome left (λ more. (content rest : List ℕ) → IsShort content → held ++ more ≢ frame_of content ++ rest)

-- Why the server ends with a status, if it has read the bytes `held` but not taken them: a message was `exit`, the
-- client left without it, the input is not a whole frame, a read or a write failed, or an allocation failed.
abbrev pub Reason : Phase → List ℕ → Streams → ℕ → Type 0
Reason phase held end status = (exit_status phase ≡ Some status)
    ⊎ ((status ≡ 1) × (held ≡ []) × IsAtEnd end.left)
    ⊎ ((status ≡ 2) × BeginsNoFrame held end.left)
    ⊎ ((status ≡ 3) × ((end.unread ≡ true) ⊎ (end.unwritten ≡ true)))
    ⊎ (status ≡ 4)

-- The server ends with this status. It has taken frames, and written exactly what these steps send, except for an end
-- if a write failed.
pub record Ends (phase : Phase) (held : List ℕ) (old end : Streams) (status : ℕ) : Type 0 where
  pub last : Phase
  pub rest : List ℕ
  pub read : List ℕ
  pub input : List ℕ
  pub output : List ℕ
  pub runs : Runs phase input output last
  pub consumes : Consumes old.left end.left read
  pub parts : held ++ read ≡ input ++ rest
  pub written : HasWritten old.written end.written output
  pub whole : end.unwritten ≡ false → Appends old.written end.written output
  pub reason : Reason last rest end status

-- how the server ends, or that it goes on, once the answer to a frame is written
abbrev pub Finishes : Option Ended → Option (List ℕ) → Option (List ℕ) → Bool → List ℕ → Type 0
Finishes None old new unwritten out = (unwritten ≡ false) × Appends old new out
Finishes (Some end) old new unwritten out = ((end.status ≡ 3) × (unwritten ≡ true) × HasWritten old new out)
    ⊎ ((end.status ≡ 4) × (unwritten ≡ false) × Appends old new out)

-- how the server ends, or that it goes on, once n bytes are discarded
abbrev pub Discards : Option Ended → Option (List ℕ) → Option (List ℕ) → Bool → ℕ → Type 0
Discards None old new unread n = (bytes : List ℕ) × Consumes old new bytes × (length bytes ≡ n)
Discards (Some end) old new unread n = (bytes : List ℕ) × Consumes old new bytes
    × (((end.status ≡ 2) × IsAtEnd new) ⊎ ((end.status ≡ 3) × (unread ≡ true)))

-- The server goes on or ends.
abbrev pub Serves : Option Ended → Phase → List ℕ → Streams → Phase → List ℕ → Streams → Type 0
Serves result phase held old next held' new =
    MatchOption result (Goes phase held old next held' new) (λ end. Ends phase held old new end.status)
