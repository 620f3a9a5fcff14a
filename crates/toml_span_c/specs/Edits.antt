-- The changes that records describe.
use Rattle.std.specs.Prelude.{◌≡◌, ℕ, List, [], ◌∷◌, map}
use Rattle.toml_span_edit.specs.Edited.{EditMade}
use Rattle.toml_span_edit.specs.Paths.{Path}
use Rattle.toml_span_edit.specs.declared.edits.Change.{Change}
use Rattle.toml_span_edit.specs.declared.edits.Change.TheVariants as changes
use Rattle.toml_span_edit.specs.declared.edits.Edit.{Edit}
use Rattle.toml_span_c.specs.declared.edits.ChangeRecord.{ChangeRecord}
use Rattle.toml_span_c.specs.declared.edits.Segment.{Segment}

-- the path that these segments spell
abbrev pub names_of : List Segment → Path
names_of segments = map (λ s. s.bytes.now) segments

-- The record has the number of the change. It also has the value, name or path of a change that has one.
abbrev pub IsChange : ChangeRecord → Change → Type 0
IsChange r (changes.Set v) = (r.change ≡ 1) × (v.now ≡ r.value.now)
IsChange r (changes.Replace v) = (r.change ≡ 2) × (v.now ≡ r.value.now)
IsChange r (changes.SetOrAdd v) = (r.change ≡ 3) × (v.now ≡ r.value.now)
IsChange r (changes.Rename name) = (r.change ≡ 4) × (name.now ≡ r.value.now)
IsChange r changes.Remove = r.change ≡ 5
IsChange r (changes.Add v) = (r.change ≡ 6) × (v.now ≡ r.value.now)
IsChange r changes.AddTable = r.change ≡ 7
IsChange r (changes.Append v) = (r.change ≡ 8) × (v.now ≡ r.value.now)
IsChange r (changes.Insert v) = (r.change ≡ 9) × (v.now ≡ r.value.now)
IsChange r (changes.MoveTo target) = (r.change ≡ 10) × (map (λ s. s.now) target.now ≡ names_of r.target.now)

-- The record describes the edit.
abbrev pub IsEdit : ChangeRecord → Edit → Type 0
IsEdit r e = (map (λ s. s.now) e.path.now ≡ names_of r.path.now) × IsChange r e.change

-- Both texts are documents, and the tree of the second is the tree of the first with this change made.
abbrev pub ChangeMade : ChangeRecord → List ℕ → List ℕ → Type 0
ChangeMade r text new = (e : Edit) × IsEdit r e × EditMade e text new

-- The text `new` is `text` with the changes made one after the other.
abbrev pub ChangesMade : List ChangeRecord → List ℕ → List ℕ → Type 0
ChangesMade [] text new = new ≡ text
ChangesMade (r ∷ rs) text new = (mid : List ℕ) × ChangeMade r text mid × ChangesMade rs mid new
