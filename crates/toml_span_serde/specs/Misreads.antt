-- Why a step of a reader fails, and at which piece.
use Rattle.std.specs.Prelude.{◌≡◌, ◌≢◌, ◌≤◌, ◌⊎◌, ⊤, ℕ, ℤ, pos, negsuc, Bool, false, nat_lt, not, if◌then◌else◌, List}
use Rattle.std.specs.Prelude.{[], ◌∷◌, ◌==◌, String, Vec, string_bytes, Option, None, Some, length, map, reverse, take}
use Rattle.std.specs.Prelude.{encode_utf8, slice_range}
use Rattle.std.specs.Char.{IsScalar}
use Rattle.std.specs.Float.{Format}
use Rattle.std.specs.Global.{Global}
use Rattle.std.specs.declared.alloc.AllocError.{AllocError}
use Rattle.fast_float.specs.Parse.{parse_float}
use Rattle.serde.specs.declared.format.Kind.{Kind}
use Rattle.serde.specs.declared.format.Kind.TheVariants as kind
use Rattle.serde.specs.declared.name.Name.{Name}
use Rattle.toml_span_lex.specs.declared.span.Span.{Span}
use Rattle.toml_span_lex.specs.declared.stop.Stop.{Stop}
use Rattle.toml_span_lex.specs.declared.stop.Stop.TheVariants as stop
use Rattle.toml_span_tree.specs.Float.{float_text}
use Rattle.toml_span_tree.specs.Node as tree
use Rattle.toml_span_serde.specs.Ahead.{ahead, laid}
use Rattle.toml_span_serde.specs.Pieces.{Content, Piece, value, nothing, array_begins, array_ends, table_begins}
use Rattle.toml_span_serde.specs.Pieces.{table_ends, key}
use Rattle.toml_span_serde.specs.Names.{all_forms, forms_of}
use Rattle.toml_span_serde.specs.Reads.{IsText, IsWritten}
use Rattle.toml_span_serde.specs.Tried.{Tries, noted_read, tries}
use Rattle.toml_span_serde.specs.Twice.{earlier, key_place}
use Rattle.toml_span_serde.specs.Walk.{elements_in}
use Rattle.toml_span_serde.specs.declared.misfit.Expected.{Expected}
use Rattle.toml_span_serde.specs.declared.misfit.Found.{Found}
use Rattle.toml_span_serde.specs.declared.misfit.Found.TheVariants as found
use Rattle.toml_span_serde.specs.declared.misfit.Reason.{Reason}
use Rattle.toml_span_serde.specs.declared.misfit.Reason.TheVariants as is
use Rattle.toml_span_serde.specs.declared.reader.Misread.{Misread}
use Rattle.toml_span_serde.specs.declared.reader.Reader.{Reader}

-- the kind of a piece
abbrev pub found_of : Content → Found
found_of (value (tree.text s)) = found.String
found_of (value (tree.integer z)) = found.Integer
found_of (value (tree.float d)) = found.Float
found_of (value (tree.boolean b)) = found.Boolean
found_of (value (tree.datetime s)) = found.Datetime
found_of nothing = found.Nothing
found_of array_begins = found.Array
found_of array_ends = found.Array
found_of table_begins = found.Table
found_of table_ends = found.Table
found_of (key s) = found.Key

-- how serde classifies an integer
abbrev pub kind_of_integer : ℤ → Kind
kind_of_integer (pos n) = kind.Unsigned
kind_of_integer (negsuc n) = kind.Signed

-- how serde classifies a value before it is read
abbrev pub kind_ahead : Content → Kind
kind_ahead (value (tree.text s)) = kind.Str
kind_ahead (value (tree.integer z)) = kind_of_integer z
kind_ahead (value (tree.float d)) = kind.Float
kind_ahead (value (tree.boolean b)) = kind.Bool
kind_ahead (value (tree.datetime s)) = kind.Str
kind_ahead nothing = kind.Unit
kind_ahead array_begins = kind.Seq
kind_ahead array_ends = kind.Seq
kind_ahead table_begins = kind.Map
kind_ahead table_ends = kind.Map
kind_ahead (key s) = kind.Str

-- the text of a string or key, and an empty text for any other piece
abbrev pub piece_text : Content → List ℕ
piece_text (value (tree.text s)) = s
piece_text (key s) = s
piece_text c = []

abbrev pub piece_text_in : Option Piece → List ℕ
piece_text_in None = []
piece_text_in (Some p) = piece_text p.content

-- The piece begins an array or a table.
abbrev pub IsOpening : Content → Type 0
IsOpening c = (c ≡ array_begins) ⊎ (c ≡ table_begins)

-- An allocation failed, or the error is at the position `at` and Why holds for its reason.
abbrev pub IsMisread : (Reason → Type 0) → ℕ → Stop Misread → Type 0
IsMisread Why at (stop.Memory e) = ⊤
IsMisread Why at (stop.Fault m) = Why m.reason × (m.at ≡ at)

-- An allocation failed, or P holds.
abbrev pub UnlessMemory : Stop Misread → Type 0 → Type 0
UnlessMemory (stop.Memory e) P = ⊤
UnlessMemory (stop.Fault m) P = P

-- No piece is left. The error is `Invalid` at the end of the row, or a failed allocation.
abbrev pub RunsOut : Reader → Stop Misread → Type 0
RunsOut r stopped = (ahead r ≡ []) × IsMisread (λ why. why ≡ is.Invalid) r.next stopped

-- The error is a failed allocation.
abbrev pub IsMemory : Stop Misread → Type 0
IsMemory stopped = (e : AllocError) × (stopped ≡ stop.Memory e)

-- The reason `why` is `reason` with this text and these names.
abbrev pub Lists : (String Global → Vec (String Global) Global → Reason) → List ℕ → List (List ℕ) → Reason → Type 0
Lists reason text names why =
    (s : String Global) × (all : Vec (String Global) Global) × (why ≡ reason s all) × (string_bytes s ≡ text)
    × (map string_bytes all.items ≡ names)

-- The reason `why` is `reason` with this text.
abbrev pub Says : (String Global → Reason) → List ℕ → Reason → Type 0
Says reason text why = (s : String Global) × (why ≡ reason s) × (string_bytes s ≡ text)

-- The reason is `Invalid`, and no piece is left. Or the reason is `Wanted`, and the next piece is not of the expected
-- kind.
abbrev pub Misses : (Content → Type 0) → Expected → List Piece → Reason → Type 0
Misses Fits expected [] why = why ≡ is.Invalid
Misses Fits expected (p ∷ ps) why = ¬ Fits p.content × (why ≡ is.Wanted expected (found_of p.content))

-- `Misses` holds for the reason `why`. Or the next piece has the defect `HasDefect`, and `why` is the given `reason`.
abbrev pub MissesOr : (Content → Type 0) → Expected → (Piece → Type 0) → Reason → List Piece → Reason → Type 0
MissesOr Fits expected HasDefect reason ps why = Misses Fits expected ps why
    ⊎ ((why ≡ reason) × ((p : Piece) × (rest : List Piece) × (ps ≡ p ∷ rest) × HasDefect p))

abbrev pub IsAnyText : Content → Type 0
IsAnyText c = (s : List ℕ) × IsText s c

abbrev pub IsAnyInteger : Content → Type 0
IsAnyInteger c = (z : ℤ) × (c ≡ value (tree.integer z))

abbrev pub IsAnyBoolean : Content → Type 0
IsAnyBoolean c = (b : Bool) × (c ≡ value (tree.boolean b))

-- a string, a key or a datetime
abbrev pub IsAnyWritten : Content → Type 0
IsAnyWritten c = (s : List ℕ) × IsWritten s c

-- a key, or the end of a table
abbrev pub IsKeyOrEnd : Content → Type 0
IsKeyOrEnd c = ((s : List ℕ) × (c ≡ key s)) ⊎ (c ≡ table_ends)

-- a float or an integer
abbrev pub IsAnyNumber : Content → Type 0
IsAnyNumber c = ((d : tree.FloatValue) × (c ≡ value (tree.float d))) ⊎ IsAnyInteger c

abbrev pub IsNegative : Piece → Type 0
IsNegative p = (n : ℕ) × (p.content ≡ value (tree.integer (negsuc n)))

-- a float whose text can't be read as a number of this format
abbrev pub IsUnreadable : Format → Piece → Type 0
IsUnreadable format p = (d : tree.FloatValue) × (p.content ≡ value (tree.float d))
    × (parse_float format (float_text d) ≡ None)

-- a string or key that does not consist of exactly one character
abbrev pub IsNotOneCharacter : Piece → Type 0
IsNotOneCharacter p = (s : List ℕ) × IsText s p.content × ((c : ℕ) → IsScalar c → s ≢ encode_utf8 c)

-- a string or key that does not equal the input at its span
abbrev pub IsNotAtItsSpan : List ℕ → Piece → Type 0
IsNotAtItsSpan input p = (s : List ℕ) × IsText s p.content × (p.span.start ≤ p.span.end
    → p.span.end ≤ length input → slice_range input p.span.start p.span.end ≢ s)

-- the reason for which a type that has read a piece does not accept it
abbrev pub refusal : Content → Reason
refusal (value (tree.integer z)) = is.OutOfRange
refusal c = is.Invalid

abbrev pub refusal_in : Option Piece → Reason
refusal_in None = is.Invalid
refusal_in (Some p) = refusal p.content

-- The reason is that one of the listed kinds was expected and the kind `f` was found. If no kinds are listed, the
-- reason is that `f` is unexpected.
abbrev pub IsOther : List Expected → Found → Reason → Type 0
IsOther [] f why = why ≡ is.Unexpected f
IsOther (e ∷ []) f why = why ≡ is.Wanted e f
IsOther (e ∷ d ∷ es) f why = (all : Vec Expected Global) × (why ≡ is.WantedOneOf all f) × (all.items ≡ e ∷ d ∷ es)

abbrev pub IsOtherIn : List Expected → Option Piece → Reason → Type 0
IsOtherIn kinds None why = why ≡ is.Invalid
IsOtherIn kinds (Some p) why = IsOther kinds (found_of p.content) why

-- the attempts after the reader goes back to the position `mark`: the same if it is there already, otherwise one
-- attempt that has read the piece at `mark`
abbrev pub tries_back_at : ℕ → Reader → Tries
tries_back_at mark r = if r.next == mark then tries r.tried else noted_read mark

-- the reason for an array of the wrong length: `Length` if the end of the array was read, otherwise `TooLong`
abbrev pub length_reason : Reader → Reason
length_reason r =
    if nat_lt r.at r.next then is.Length (elements_in (take r.at (laid r)))
    else is.TooLong (elements_in (take r.at (laid r)))

-- whether a key was read that has none of the `count` names
abbrev pub is_unknown : Option ℕ → ℕ → Bool
is_unknown None count = false
is_unknown (Some at) count = not (nat_lt at count)

-- the position to report for an unknown variant: that of the piece that was looked at last if the piece is an unknown
-- key, otherwise that of the text that was last read as the name of a variant
abbrev pub variant_place : Reader → ℕ
variant_place r = if r.is_unknown then r.at else r.variant_at

-- ---- the names with which a key or a text was compared

abbrev pub fields : Reader → List (List ℕ)
fields r = map string_bytes r.fields.items

abbrev pub variants : Reader → List (List ℕ)
variants r = map string_bytes r.variants.items

-- the names with which an unknown variant was compared
abbrev pub variant_names : Reader → List (List ℕ)
variant_names r = if r.is_unknown then fields r else variants r

-- the names to remember after a text was compared with `names`: `before` if the text is the name at the index `at`, or
-- `all_forms names` if `at` is out of range, since no name matched
abbrev pub held : List Name → ℕ → List (List ℕ) → List (List ℕ)
held names at before = if nat_lt at (length names) then before else all_forms names

-- like `held`, after a key was read and compared (`Some`), or after the end of a table was read (`None`)
abbrev pub held_by : List Name → Option ℕ → List (List ℕ) → List (List ℕ)
held_by names None before = before
held_by names (Some at) before = held names at before

-- ---- two keys of the same field

-- the last key that names a field with aliases, and all forms of that field's name
abbrev pub AliasedKey : Type 0
AliasedKey = (ℕ × Span) × List (List ℕ)

abbrev pub aliased_key : Reader → AliasedKey
aliased_key r = (key_place r.key, map string_bytes r.forms.items)

-- the aliased key after a key at this place was read: that key if it is a form of a name with aliases, otherwise the
-- aliased key from before
abbrev pub aliased_key_after : Option Name → ℕ × Span → AliasedKey → AliasedKey
aliased_key_after None place before = before
aliased_key_after (Some n) place before = if length n.aliases.now == 0 then before else (place, forms_of n)

-- the position of the key that is later in the text, and the span of the other key
abbrev pub later_of : ℕ × Span → ℕ × Span → ℕ × Option Span
later_of own other = if nat_lt own.1.start other.1.start then (other.0, Some own.1) else (own.0, Some other.1)

-- like `later_of` if there is another key, otherwise the given position and no span
abbrev pub duplicate_place_of : ℕ → ℕ × Span → Option (ℕ × Span) → ℕ × Option Span
duplicate_place_of at own None = (at, None)
duplicate_place_of at own (Some other) = later_of own other

-- The position of the later of two keys that name the same field, and the span of the other key. If no key before the
-- aliased key names its field, the position `r.at` and no span.
abbrev pub duplicate_place : Reader → ℕ × Option Span
duplicate_place r = duplicate_place_of r.at (key_place r.key)
    (earlier (map string_bytes r.forms.items) 0 (reverse (take r.key.at (laid r))))

-- the names and the aliased key that a reader remembers, which most steps don't change
abbrev pub kept : Reader → List (List ℕ) × (List (List ℕ) × AliasedKey)
kept r = (fields r, (variants r, aliased_key r))
