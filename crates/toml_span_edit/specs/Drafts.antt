-- What edits at a path that is written as text do.
use Rattle.std.specs.Prelude.{◌≡◌, ⊤, ◌⊎◌, ℕ, List, Ok, Err, map, string_bytes}
use Rattle.std.specs.Borrow.{Bor}
use Rattle.toml_span_lex.specs.declared.stop.Stop.{Stop}
use Rattle.toml_span_lex.specs.declared.stop.Stop.TheVariants as stops
use Rattle.toml_span_read.specs.Again.{ReadsAsString}
use Rattle.toml_span_places.specs.Dotted.{IsPath}
use Rattle.toml_span_places.specs.declared.dotted.PathError.{PathError}
use Rattle.toml_span_edit.specs.Edited.{EditMade}
use Rattle.toml_span_edit.specs.Paths.{Path}
use Rattle.toml_span_edit.specs.Reasons.{BeginsWithColumn}
use Rattle.toml_span_edit.specs.Refused.{IsRefusedEdit}
use Rattle.toml_span_edit.specs.declared.edits.Change.{Change}
use Rattle.toml_span_edit.specs.declared.edits.Change.TheVariants as changes
use Rattle.toml_span_edit.specs.declared.edits.Edit.{Edit}
use Rattle.toml_span_edit.specs.declared.edits.EditError.{EditError}
use Rattle.toml_span_edit.specs.declared.reason.Reason.{Reason}
use Rattle.toml_span_edit.specs.declared.reason.Reason.TheVariants as reasons

-- These are the segments of a path that is written as text.
abbrev pub AreSegments : List ℕ → Path → Type 0
AreSegments path segments = IsPath path (Ok segments)

-- The text `new` is `text` with this change made at the path.
abbrev pub IsEditedAt : List ℕ → Change → List ℕ → List ℕ → Type 0
IsEditedAt path change text new =
    (e : Edit) × AreSegments path (map (λ s. s.now) e.path.now) × (e.change ≡ change) × EditMade e text new

-- The text `new` is `text` with a value written over the value at the path. In TOML, that value is this string.
abbrev pub IsSetToString : List ℕ → List ℕ → List ℕ → List ℕ → Type 0
IsSetToString path string text new =
    (v : Bor (List ℕ)) × ReadsAsString string v.now × IsEditedAt path (changes.Set v) text new

-- ---- refusals

-- The path can't be read, and this reason says so, with the column of the error.
abbrev pub IsOfPath : Reason → List ℕ → Type 0
IsOfPath (reasons.InvalidPath message) path =
    (error : PathError) × IsPath path (Err error) × BeginsWithColumn path error.at (string_bytes message)
IsOfPath _ path = ⊥

-- The path can't be read, and the error has the number of edits made before, and the path. Or an allocation failed.
abbrev pub IsUnreadPath : ℕ → List ℕ → Stop EditError → Type 0
IsUnreadPath count path (stops.Memory error) = ⊤
IsUnreadPath count path (stops.Fault error) =
    (error.edit ≡ count) × (string_bytes error.path ≡ path) × IsOfPath error.reason path

-- This change of the text at the path is refused for a reason that is true of it: the path can't be read, or the edit at
-- its segments is refused.
abbrev pub IsRefusedFor : Reason → List ℕ → Change → List ℕ → Type 0
IsRefusedFor reason path change text =
    IsOfPath reason path
    ⊎ ((e : Edit) × AreSegments path (map (λ s. s.now) e.path.now) × (e.change ≡ change) × IsRefusedEdit e text reason)

-- The change is refused, and the error has the number of edits made before, and the path. Or an allocation failed.
abbrev pub IsRefusedAfter : ℕ → List ℕ → Change → List ℕ → Stop EditError → Type 0
IsRefusedAfter count path change text (stops.Memory error) = ⊤
IsRefusedAfter count path change text (stops.Fault error) =
    (error.edit ≡ count) × (string_bytes error.path ≡ path) × IsRefusedFor error.reason path change text

-- Writing a value over the value at the path is refused. In TOML, that value is this string. Or an allocation failed.
abbrev pub IsStringRefused : ℕ → List ℕ → List ℕ → List ℕ → Stop EditError → Type 0
IsStringRefused count path string text (stops.Memory error) = ⊤
IsStringRefused count path string text (stops.Fault error) =
    (v : Bor (List ℕ)) × ReadsAsString string v.now
    × IsRefusedAfter count path (changes.Set v) text (stops.Fault error)
