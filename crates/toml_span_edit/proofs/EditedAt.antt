-- Edits at paths that are written as text.
use Rattle.toml_span_lex.proofs.Common.{◌≡◌, ℕ, List, Result, Ok, Err, IfErr, IfOk, String, Global, string_bytes, map, inr}
use Rattle.std.specs.Borrow.{Bor}
use Rattle.toml_span_read.specs.Again.{ReadsAsString}
use Rattle.toml_span_lex.specs.declared.stop.Stop.{Stop}
use Rattle.toml_span_lex.specs.declared.stop.Stop.TheVariants as stops
use Rattle.toml_span_edit.specs.Drafts.{AreSegments, IsEditedAt, IsRefusedAfter, IsSetToString, IsStringRefused}
use Rattle.toml_span_edit.specs.Edited.{EditMade}
use Rattle.toml_span_edit.specs.Refused.{IsRefusedAs}
use Rattle.toml_span_edit.specs.declared.edits.Change.{Change}
use Rattle.toml_span_edit.specs.declared.edits.Change.TheVariants as changes
use Rattle.toml_span_edit.specs.declared.edits.Edit.{Edit}
use Rattle.toml_span_edit.specs.declared.edits.EditError.{EditError}

pub edited : {E : Type 0} (path : List ℕ) (change : Change) (text : List ℕ) (e : Edit) (r : Result (String Global) E) →
    AreSegments path (map (λ s. s.now) e.path.now) → e.change ≡ change → IfOk r (λ new. EditMade e text (string_bytes new)) →
    IfOk r (λ new. IsEditedAt path change text (string_bytes new))
edited path change text e (Ok new) segments same made = (e, segments, same, made)
edited path change text e (Err x) segments same made = tt

pub set_to_string : {D E : Type 0} (path string text : List ℕ) (value : Bor (List ℕ)) (bytes : D → List ℕ) (r : Result D E) →
    ReadsAsString string value.now → IfOk r (λ d. IsEditedAt path (changes.Set value) text (bytes d)) →
    IfOk r (λ d. IsSetToString path string text (bytes d))
set_to_string path string text value bytes (Ok d) reads h = (value, reads, h)
set_to_string path string text value bytes (Err x) reads h = tt

pub refused : {T : Type 0} (count : ℕ) (path : List ℕ) (change : Change) (text : List ℕ) (e : Edit) (r : Result T (Stop EditError)) →
    AreSegments path (map (λ s. s.now) e.path.now) → e.change ≡ change → IfErr r (IsRefusedAs count path e text) →
    IfErr r (IsRefusedAfter count path change text)
refused count path change text e (Ok new) segments same is = tt
refused count path change text e (Err (stops.Memory x)) segments same is = tt
refused count path change text e (Err (stops.Fault x)) segments same (at, named, edit) = (at, named, inr (e, segments, same, edit))

pub string_refused : {T : Type 0} (count : ℕ) (path string text : List ℕ) (value : Bor (List ℕ)) (r : Result T (Stop EditError)) →
    ReadsAsString string value.now → IfErr r (IsRefusedAfter count path (changes.Set value) text) →
    IfErr r (IsStringRefused count path string text)
string_refused count path string text value (Ok new) reads is = tt
string_refused count path string text value (Err (stops.Memory x)) reads is = tt
string_refused count path string text value (Err (stops.Fault x)) reads is = (value, reads, is)
