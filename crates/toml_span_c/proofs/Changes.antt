-- Changes that are made one after the other.
use Rattle.toml_span_lex.proofs.Common.{◌≡◌, ◌<◌, ℕ, ◌+◌, List, [], ◌∷◌, ◌++◌, length, take, take_more, get_or, refl, sym, subst, Result, Ok, Err, IfOk, String, Global, string_bytes}
use Rattle.toml_span_c.specs.Edits.{ChangeMade, ChangesMade, IsEdit}
use Rattle.toml_span_c.specs.declared.edits.ChangeRecord.{ChangeRecord}
use Rattle.toml_span_edit.specs.Edited.{EditMade, EditsMade}
use Rattle.toml_span_edit.specs.declared.edits.Edit.{Edit}

-- one more change after those that are made
changes_more : (rs : List ChangeRecord) (r : ChangeRecord) (text before after : List ℕ) →
    ChangesMade rs text before → ChangeMade r before after → ChangesMade (rs ++ r ∷ []) text after
changes_more [] r text before after h m = (after, subst (λ (x : List ℕ). ChangeMade r x after) h m, refl)
changes_more (q ∷ rs) r text before after h m = (h.0, h.1, changes_more rs r h.0 before after h.2 m)

-- what is read past the end of changes
abbrev pub no_change : ChangeRecord
no_change = record {
  change = 0;
  path = record { ref_ptr = (0, 0); now = [] };
  target = record { ref_ptr = (0, 0); now = [] };
  value = record { ref_ptr = (0, 0); now = [] };
}

-- the change at a position after those before it
pub changes_next : (rs : List ChangeRecord) (i : ℕ) (d : ChangeRecord) (text before after : List ℕ) →
    i < length rs → ChangesMade (take i rs) text before → ChangeMade (get_or rs i d) before after →
    ChangesMade (take (i + 1) rs) text after
changes_next rs i d text before after h done m =
    subst (λ (qs : List ChangeRecord). ChangesMade qs text after) (sym (take_more rs i d h))
    (changes_more (take i rs) (get_or rs i d) text before after done m)

-- a list of one edit
pub one_edit : (e : Edit) (text new : List ℕ) → EditsMade (e ∷ []) text new → EditMade e text new
one_edit e text new h = subst (λ (x : List ℕ). EditMade e text x) (sym h.2) h.1

-- an edit that a record describes
pub as_change : {E : Type 0} (r : ChangeRecord) (e : Edit) (text : List ℕ) → IsEdit r e →
    (result : Result (String Global) E) → IfOk result (λ new. EditMade e text (string_bytes new)) →
    IfOk result (λ new. ChangeMade r text (string_bytes new))
as_change r e text is (Ok new) h = (e, is, h)
as_change r e text is (Err x) h = h
