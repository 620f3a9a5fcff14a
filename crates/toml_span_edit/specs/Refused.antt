-- Which edits are refused, and why.
use Rattle.std.specs.Prelude.{◌≡◌, ⊤, ℕ, ◌⊎◌, List, [], ◌∷◌, ◌++◌, length, map, Bool, true, false, is_some, codes}
use Rattle.std.specs.Prelude.{◌==◌, ◌&&◌}
use Rattle.std.specs.Prelude.{option_and_then, Result, Ok, Err, String, string_bytes}
use Rattle.std.specs.Global.{Global}
use Rattle.std.specs.List.{flat_map}
use Rattle.std.specs.declared.alloc.AllocError.{AllocError}
use Rattle.toml_span_lex.specs.declared.stop.Stop.{Stop}
use Rattle.toml_span_lex.specs.declared.stop.Stop.TheVariants as stops
use Rattle.toml_span_read.specs.Data.{depth_limit}
use Rattle.toml_span_tree.specs.Node.{Node, Inner, array, table}
use Rattle.toml_span_tree.specs.Value.{inner_of, view}
use Rattle.toml_span_tree.specs.declared.error.Error.{Error}
use Rattle.toml_span_tree.specs.declared.value.Value.{Value}
use Rattle.toml_span.specs.Parsing.{IsRefusal, IsTree}
use Rattle.toml_span_places.specs.Literals.{literal_span}
use Rattle.toml_span_places.specs.Quoted.{key_text}
use Rattle.toml_span_edit.specs.Edited.{EditsMade}
use Rattle.toml_span_edit.specs.Kept.{IsWrittenOver, Keeps}
use Rattle.toml_span_edit.specs.Made.{at, child, within}
use Rattle.toml_span_edit.specs.Paths.{Path, Splits, found}
use Rattle.toml_span_edit.specs.Reasons.{fault_text}
use Rattle.toml_span_edit.specs.Same.{same}
use Rattle.toml_span_edit.specs.declared.edits.Change.{Change}
use Rattle.toml_span_edit.specs.declared.edits.Change.TheVariants as changes
use Rattle.toml_span_edit.specs.declared.edits.Edit.{Edit}
use Rattle.toml_span_edit.specs.declared.edits.EditError.{EditError}
use Rattle.toml_span_edit.specs.declared.reason.Reason.{Reason}
use Rattle.toml_span_edit.specs.declared.reason.Reason.TheVariants as reasons

-- The text is not a document: parsing it fails with this error.
abbrev pub IsInvalid : List ℕ → Type 0
IsInvalid text = (error : Error) × IsRefusal text depth_limit (stops.Fault error)

-- The text is not a document, and this is the text of the error with which parsing it fails.
abbrev pub IsInvalidAs : List ℕ → List ℕ → Type 0
IsInvalidAs fault text =
    (error : Error) × IsRefusal text depth_limit (stops.Fault error) × (fault ≡ fault_text error)

abbrev pub is_there : Path → Node → Bool
is_there path n = is_some (found path n)

-- whether the value at the path has an entry or element with this name
abbrev pub has_child : Path → List ℕ → Node → Bool
has_child path name n = is_some (option_and_then (λ m. child name (inner_of m)) (found path n))

-- The tree `n` has a value at the path to which the change leads: at the new name of the key, at the target of the
-- move, or at the path of what is added.
abbrev pub IsTaken : Change → Path → Node → Type 0
IsTaken (changes.Rename name) path n =
    (front : Path) × (last : List ℕ) × Splits path front last × (has_child front name.now n ≡ true)
IsTaken (changes.MoveTo target) path n = is_there (map (λ s. s.now) target.now) n ≡ true
IsTaken (changes.SetOrAdd v) path n = is_there path n ≡ true
IsTaken (changes.Add v) path n = is_there path n ≡ true
IsTaken changes.AddTable path n = is_there path n ≡ true
IsTaken _ path n = ⊥

abbrev pub is_container : Inner → Bool
is_container (array ns) = true
is_container (table ms) = true
is_container _ = false

abbrev pub is_container_at : Path → Node → Bool
is_container_at path n = within (λ m. is_container (inner_of m)) (found path n)

abbrev pub is_move : Change → Bool
is_move (changes.MoveTo target) = true
is_move _ = false

-- The text that the edit would write keeps what the change must keep, but it is not a document, for this error. Nothing
-- is said of moves.
abbrev pub IsWrittenInvalid : List ℕ → Change → Path → Node → List ℕ → Type 0
IsWrittenInvalid fault change path n text =
    (is_move change ≡ true)
    ⊎ ((new : List ℕ) × Keeps change path n text new × IsInvalidAs fault new)

-- The reason is true of this change of the document `text`, whose tree is `n`. Nothing is said of the reasons that are
-- not named here.
abbrev pub IsTrueReason : Reason → Change → Path → Node → List ℕ → Type 0
IsTrueReason (reasons.InvalidDocument s) change path n text = ⊥
IsTrueReason reasons.Nothing change path n text = is_there path n ≡ false
IsTrueReason reasons.Root change path n text = path ≡ []
IsTrueReason reasons.NotLiteral change path n text = is_container_at path n ≡ true
IsTrueReason (reasons.AlreadyThere s) change path n text = IsTaken change path n
IsTrueReason (reasons.ResultInvalid s) change path n text = IsWrittenInvalid (string_bytes s) change path n text
IsTrueReason _ change path n text = ⊤

-- ---- edits that are not refused

-- whether the literal of this value, which is in the tree of `probe`, begins after `v = ` and ends where `probe` ends
abbrev pub is_alone : List ℕ → Node → Bool
is_alone probe w = (literal_span probe w).start == 4 && (literal_span probe w).end == length probe

-- Whether `given`, the tree of `probe`, has a value `v` with nothing around it, and the tree `k` is the tree `n` with
-- this value at the path.
abbrev pub is_set : List ℕ → Node → Path → Node → Node → Bool
is_set probe given path n k =
    within (λ w. is_alone probe w && at path (λ m. same w) n k) (child (codes "v") (inner_of given))

-- `value` is not a TOML value with nothing around it, or the text `new` is not a document whose tree is `n` with this
-- value at the path.
abbrev pub IsNotSet : List ℕ → Path → Node → List ℕ → Type 0
IsNotSet value path n new =
    IsInvalid (codes "v = " ++ value)
    ⊎ (IsInvalid new
    ⊎ ((given root : Value) × IsTree (codes "v = " ++ value) depth_limit given × IsTree new depth_limit root
    × (is_set (codes "v = " ++ value) (view given) path n (view root) ≡ false)))

-- The value at the path is not set to `value` by writing `value` over its literal.
abbrev pub CannotSetOver : List ℕ → Path → Node → List ℕ → Type 0
CannotSetOver value path n text = (new : List ℕ) → IsWrittenOver value path n text new → IsNotSet value path n new

-- The change is not made by writing its value over the literal at the path. Nothing is said of changes that do not
-- replace a value.
abbrev pub CannotMakeOver : Change → Path → Node → List ℕ → Type 0
CannotMakeOver (changes.Set v) path n text = CannotSetOver v.now path n text
CannotMakeOver (changes.Replace v) path n text = CannotSetOver v.now path n text
CannotMakeOver (changes.SetOrAdd v) path n text = CannotSetOver v.now path n text
CannotMakeOver _ path n text = ⊤

-- P, unless an allocation failed
abbrev pub UnlessMemory : Type 0 → Stop Reason → Type 0
UnlessMemory P (stops.Memory e) = ⊤
UnlessMemory P (stops.Fault reason) = P

-- ---- refusals

-- The text is not a document, and this reason says so, with the text of the error.
abbrev pub IsOfText : Reason → List ℕ → Type 0
IsOfText (reasons.InvalidDocument fault) text = IsInvalidAs (string_bytes fault) text
IsOfText _ text = ⊥

-- The text is not a document, and the reason says so. Or an allocation failed.
abbrev pub IsUnread : List ℕ → Stop Reason → Type 0
IsUnread text (stops.Memory error) = ⊤
IsUnread text (stops.Fault reason) = IsOfText reason text

abbrev pub IsOfResult : Reason → List ℕ → Type 0
IsOfResult (reasons.ResultInvalid fault) new = IsInvalidAs (string_bytes fault) new
IsOfResult (reasons.NoValue string) new = ⊤
IsOfResult reasons.WouldDiffer new = ⊤
IsOfResult _ new = ⊥

-- The new text is not a document, and this reason says so, or the reason is another one of a check of the new text. Or
-- an allocation failed.
abbrev pub IsUnwritten : List ℕ → Stop Reason → Type 0
IsUnwritten new (stops.Memory error) = ⊤
IsUnwritten new (stops.Fault reason) = IsOfResult reason new

-- The change is refused, for a reason that is true of it, or because an allocation failed.
abbrev pub IsRefusedChange : Change → Path → Node → List ℕ → Stop Reason → Type 0
IsRefusedChange change path n text (stops.Memory e) = ⊤
IsRefusedChange change path n text (stops.Fault reason) = IsTrueReason reason change path n text

abbrev pub IsRefusedEdit : Edit → List ℕ → Reason → Type 0
IsRefusedEdit e text reason =
    IsOfText reason text
    ⊎ ((root : Value) × IsTree text depth_limit root
    × IsTrueReason reason e.change (map (λ s. s.now) e.path.now) (view root) text
    × CannotMakeOver e.change (map (λ s. s.now) e.path.now) (view root) text)

-- The edit of the text is refused: the text is not a document, or the reason is true of the edit, and writing its value
-- over a literal does not make the edit either. Or an allocation failed.
abbrev pub IsRefused : Edit → List ℕ → Stop Reason → Type 0
IsRefused e text (stops.Memory error) = ⊤
IsRefused e text (stops.Fault reason) = IsRefusedEdit e text reason

-- the segments, each in quotes if necessary and with a dot before it
abbrev pub more_text : Path → List ℕ
more_text path = flat_map (λ segment. codes "." ++ key_text segment) path

-- the path as text: its segments with dots between them, each in quotes if necessary
abbrev pub path_text : Path → List ℕ
path_text [] = []
path_text (segment ∷ path) = key_text segment ++ more_text path

-- the error of the edit with this position and path, which was refused; or a failed allocation
abbrev pub refusal : ℕ → Result (String Global) AllocError → Stop Reason → Stop EditError
refusal index path (stops.Memory error) = stops.Memory error
refusal index (Err error) (stops.Fault reason) = stops.Memory error
refusal index (Ok path) (stops.Fault reason) =
    stops.Fault (record { edit = index; path = path; reason = reason })

-- The edit is refused, and the error has its position in the list, and this path. Or an allocation failed.
abbrev pub IsRefusedAs : ℕ → List ℕ → Edit → List ℕ → Stop EditError → Type 0
IsRefusedAs index path e text (stops.Memory error) = ⊤
IsRefusedAs index path e text (stops.Fault error) =
    (error.edit ≡ index) × (string_bytes error.path ≡ path) × IsRefusedEdit e text error.reason

-- the text of the edit's path
abbrev pub path_of : Edit → List ℕ
path_of e = path_text (map (λ s. s.now) e.path.now)

-- The edit is refused, and the error has its position in the list, and its path. Or an allocation failed.
abbrev pub IsRefusedAt : ℕ → Edit → List ℕ → Stop EditError → Type 0
IsRefusedAt index e text stop = IsRefusedAs index (path_of e) e text stop

-- One of the edits is refused: those before it are made, one after the other, and then it is refused. Or an allocation
-- failed.
abbrev pub AreRefused : List Edit → List ℕ → Stop EditError → Type 0
AreRefused es text (stops.Memory error) = ⊤
AreRefused es text (stops.Fault error) =
    (done rest : List Edit) × (e : Edit) × (mid : List ℕ) × (es ≡ done ++ e ∷ rest) × EditsMade done text mid
    × (error.edit ≡ length done) × (string_bytes error.path ≡ path_of e) × IsRefusedEdit e mid error.reason

-- What `finish` returns: the text with all edits made, one after the other. Or one of the edits is refused, or an
-- allocation failed.
abbrev pub IsFinished : List Edit → List ℕ → Result (String Global) (Stop EditError) → Type 0
IsFinished es text (Ok new) = EditsMade es text (string_bytes new)
IsFinished es text (Err stop) = AreRefused es text stop
