-- Edits that are made one after the other, and paths without their last segment.
use Rattle.toml_span_lex.proofs.Common.{arith, ◌≡◌, ◌<◌, ◌≤◌, ℕ, ◌+◌, ◌-◌, List, [], ◌∷◌, ◌++◌, length, take, take_more, get_or, map, map-append, refl, sym, ap, subst, ◌∙◌, Bor, Result, Ok, Err, IfOk, OnOk, ◌⊎◌, inl, inr, String, Global, string_bytes, Some}
use Rattle.std.proofs.lemmas.List.{take_all}
use Rattle.toml_span_read.specs.Data.{depth_limit}
use Rattle.toml_span_tree.specs.Node.{Node}
use Rattle.toml_span_tree.specs.Value.{view}
use Rattle.toml_span_tree.specs.declared.value.Value.{Value}
use Rattle.toml_span.specs.Parsing.{IsTree}
use Rattle.toml_span_edit.specs.Comments.{AddsNoComment}
use Rattle.toml_span_edit.specs.Edited.{EditMade, EditsMade, IsMade, IsMoved}
use Rattle.toml_span_edit.specs.Kept.{IsInserted, IsRemoved, IsMovedText, HasOtherHeaders, HasOtherKey, Keeps}
use Rattle.toml_span_edit.specs.Paths.{found}
use Rattle.toml_span_edit.specs.declared.edits.Change.{Change}
use Rattle.toml_span_edit.specs.declared.edits.Change.TheVariants as changes
use Rattle.toml_span_edit.specs.declared.edits.Edit.{Edit}

-- one more edit after those that are made
edits_more : (es : List Edit) (e : Edit) (text before after : List ℕ) →
    EditsMade es text before → EditMade e before after → EditsMade (es ++ e ∷ []) text after
edits_more [] e text before after h m = (after, subst (λ (x : List ℕ). EditMade e x after) h m, refl)
edits_more (f ∷ es) e text before after h m = (h.0, h.1, edits_more es e h.0 before after h.2 m)

-- what is read past the end of edits
abbrev pub no_edit : Edit
no_edit = record {
  path = record { ref_ptr = (0, 0); now = [] };
  change = changes.Set (record { ref_ptr = (0, 0); now = [] });
}

-- the edit at a position after those before it
pub edits_next : (es : List Edit) (i : ℕ) (d : Edit) (text before after : List ℕ) →
    i < length es → EditsMade (take i es) text before → EditMade (get_or es i d) before after →
    EditsMade (take (i + 1) es) text after
edits_next es i d text before after h done m =
    subst (λ (fs : List Edit). EditsMade fs text after) (sym (take_more es i d h))
    (edits_more (take i es) (get_or es i d) text before after done m)

-- a segment that is lent
abbrev pub now_of : Bor (List ℕ) → List ℕ
now_of segment = segment.now

-- what is read past the end of a path
abbrev pub no_name : Bor (List ℕ)
no_name = record { ref_ptr = (0, 0); now = [] }

-- the segments of a path except the last one, and the last one
abbrev pub front_of : List (Bor (List ℕ)) → List (List ℕ)
front_of path = map now_of (take (length path - 1) path)

abbrev pub last_of : List (Bor (List ℕ)) → List ℕ
last_of path = (get_or path (length path - 1) no_name).now

pub split_last : (path : List (Bor (List ℕ))) → 1 ≤ length path →
    map now_of path ≡ front_of path ++ last_of path ∷ []
split_last path h =
    let n : ℕ = length path - 1 in
    let e : path ≡ take n path ++ get_or path n no_name ∷ [] =
    sym (take_all (n + 1) path (omega arith)) ∙ take_more path n no_name (omega arith) in
    ap (map now_of) e ∙ map-append now_of (take n path) (get_or path n no_name ∷ [])

-- what holds of a result implies what else does
pub if_ok : {A E : Type 0} (P Q : A → Type 0) → ((x : A) → P x → Q x) → (r : Result A E) → IfOk r P → IfOk r Q
if_ok P Q f (Ok x) h = f x h
if_ok P Q f (Err e) h = h

pub on_ok : {A E : Type 0} (P Q : Type 0) → (P → Q) → (r : Result A E) → OnOk r P → OnOk r Q
on_ok P Q f (Ok x) h = f h
on_ok P Q f (Err e) h = h

-- a value that is removed, and then inserted elsewhere
pub moved_of : (path : List (List ℕ)) (n : Node) (text without mid new : List ℕ) → mid ≡ without →
    IsRemoved path n text without → IsInserted mid new ⊎ (HasOtherHeaders text new ⊎ HasOtherKey path text new) →
    IsMovedText path n text new
moved_of path n text without mid new e r (inl i) = inl (without, r, subst (λ (m : List ℕ). IsInserted m new) e i)
moved_of path n text without mid new e r (inr h) = inr h

-- a value that is moved, in its tree and in its text, is an edit that is made
pub edit_moved : {E : Type 0} (e : Edit) (target : Bor (List (Bor (List ℕ)))) (w : Node) (root : Value) (text : List ℕ) →
    e.change ≡ changes.MoveTo target → IsTree text depth_limit root → found (map now_of e.path.now) (view root) ≡ Some w →
    (r : Result (String Global) E) →
    IfOk r (λ new. IsMoved (map now_of target.now) (map now_of e.path.now) w (view root) (string_bytes new)) →
    IfOk r (λ new. IsMovedText (map now_of e.path.now) (view root) text (string_bytes new)) →
    IfOk r (λ new. AddsNoComment [] text (string_bytes new)) → IfOk r (λ new. EditMade e text (string_bytes new))
edit_moved e target w root text is tree was (Ok new) (mid, gone, (after, read, put)) kept none =
    let path : List (List ℕ) = map now_of e.path.now in
    let made : IsMade (changes.MoveTo target) path (view root) (string_bytes new) = (after, read, (w, mid, was, gone, put)) in
    let keeps : Keeps (changes.MoveTo target) path (view root) text (string_bytes new) = (kept, none) in
    (root, tree, subst (λ (c : Change). IsMade c path (view root) (string_bytes new)) (sym is) made, subst (λ (c : Change). Keeps c path (view root) text (string_bytes new)) (sym is) keeps)
edit_moved e target w root text is tree was (Err x) moved kept none = moved
