-- Edits that are refused.
use Rattle.toml_span_lex.proofs.Common.{arith, ◌≡◌, ◌<◌, ◌∙◌, inl, inr, refl, sym, ap, ℕ, ◌+◌, List, ◌∷◌, ◌++◌, length, take, drop, drop_more, take-append-drop, get_or, map, false, Result, Ok, Err, IfErr, IfOk, String, Global, string_bytes, length-take-le, Bor, subst}
use Rattle.std.specs.declared.alloc.AllocError.{AllocError}
use Rattle.toml_span_lex.specs.declared.stop.Stop.{Stop}
use Rattle.toml_span_lex.specs.declared.stop.Stop.TheVariants as stops
use Rattle.toml_span_read.specs.Data.{depth_limit}
use Rattle.toml_span_tree.specs.Node.{Node}
use Rattle.toml_span_tree.specs.Value.{view}
use Rattle.toml_span_tree.specs.declared.value.Value.{Value}
use Rattle.toml_span.specs.Parsing.{IsTree}
use Rattle.toml_span_edit.specs.Edited.{EditsMade}
use Rattle.toml_span_edit.specs.Kept.{Keeps}
use Rattle.toml_span_edit.specs.Paths.{Path}
use Rattle.toml_span_edit.specs.Refused.{AreRefused, CannotMakeOver, IsFinished, IsOfResult, IsRefused, IsRefusedAs, IsRefusedAt, IsRefusedChange, IsTrueReason, IsUnread, IsUnwritten, UnlessMemory, is_there, refusal}
use Rattle.toml_span_edit.specs.declared.edits.Change.{Change}
use Rattle.toml_span_edit.specs.declared.edits.Change.TheVariants as changes
use Rattle.toml_span_edit.specs.declared.edits.Edit.{Edit}
use Rattle.toml_span_edit.specs.declared.edits.EditError.{EditError}
use Rattle.toml_span_edit.specs.declared.reason.Reason.{Reason}
use Rattle.toml_span_edit.specs.declared.reason.Reason.TheVariants as reasons
use Rattle.toml_span_edit.proofs.Steps.{now_of}

-- a new text that is not a document, or has another tree, is a reason to refuse the change
of_result : (change : Change) (path : Path) (n : Node) (text new : List ℕ) (reason : Reason) →
    Keeps change path n text new → IsOfResult reason new → IsTrueReason reason change path n text
of_result change path n text new (reasons.InvalidDocument s) keeps h = absurd h
of_result change path n text new (reasons.InvalidPath s) keeps h = absurd h
of_result change path n text new reasons.Nothing keeps h = absurd h
of_result change path n text new (reasons.NoValue s) keeps h = h
of_result change path n text new reasons.Root keeps h = absurd h
of_result change path n text new reasons.NotLiteral keeps h = absurd h
of_result change path n text new reasons.NoKey keeps h = absurd h
of_result change path n text new (reasons.AlreadyThere s) keeps h = absurd h
of_result change path n text new reasons.NoTable keeps h = absurd h
of_result change path n text new reasons.NoArray keeps h = absurd h
of_result change path n text new reasons.PastEnd keeps h = absurd h
of_result change path n text new reasons.NoInlineTable keeps h = absurd h
of_result change path n text new (reasons.ResultInvalid s) keeps h = inr (new, keeps, h)
of_result change path n text new reasons.WouldDiffer keeps h = h

pub unwritten_refused : (change : Change) (path : Path) (n : Node) (text new : List ℕ) (stop : Stop Reason) →
    Keeps change path n text new → IsUnwritten new stop → IsRefusedChange change path n text stop
unwritten_refused change path n text new (stops.Memory e) keeps h = h
unwritten_refused change path n text new (stops.Fault reason) keeps h = of_result change path n text new reason keeps h

-- a change that is refused is an edit that is refused
pub change_refused : {A : Type 0} (e : Edit) (root : Value) (text : List ℕ) → IsTree text depth_limit root →
    (r : Result A (Stop Reason)) → IfErr r (IsRefusedChange e.change (map now_of e.path.now) (view root) text) →
    IfErr r (UnlessMemory (CannotMakeOver e.change (map now_of e.path.now) (view root) text)) → IfErr r (IsRefused e text)
change_refused e root text tree (Ok x) h over = h
change_refused e root text tree (Err (stops.Memory error)) h over = h
change_refused e root text tree (Err (stops.Fault reason)) h over = inr (root, tree, h, over)

-- a move does not write over a literal
move_not_over : (change : Change) (target : Bor (List (Bor (List ℕ)))) (path : Path) (n : Node) (text : List ℕ) →
    change ≡ changes.MoveTo target → CannotMakeOver change path n text
move_not_over change target path n text is = subst (λ (c : Change). CannotMakeOver c path n text) (sym is) tt

pub move_refused : {A : Type 0} (e : Edit) (target : Bor (List (Bor (List ℕ)))) (root : Value) (text : List ℕ) →
    e.change ≡ changes.MoveTo target → IsTree text depth_limit root → (r : Result A (Stop Reason)) →
    IfErr r (IsRefusedChange e.change (map now_of e.path.now) (view root) text) → IfErr r (IsRefused e text)
move_refused e target root text is tree (Ok x) h = h
move_refused e target root text is tree (Err (stops.Memory error)) h = h
move_refused e target root text is tree (Err (stops.Fault reason)) h =
    inr (root, tree, h, move_not_over e.change target (map now_of e.path.now) (view root) text is)

pub unread_refused : (e : Edit) (text : List ℕ) (stop : Stop Reason) → IsUnread text stop → IsRefused e text stop
unread_refused e text (stops.Memory error) h = h
unread_refused e text (stops.Fault reason) h = inl h

-- a move whose path names nothing
pub nothing_refused : (e : Edit) (target : Bor (List (Bor (List ℕ)))) (root : Value) (text : List ℕ) →
    e.change ≡ changes.MoveTo target → IsTree text depth_limit root →
    is_there (map now_of e.path.now) (view root) ≡ false → IsRefused e text (stops.Fault reasons.Nothing)
nothing_refused e target root text is tree h =
    inr (root, tree, h, move_not_over e.change target (map now_of e.path.now) (view root) text is)

-- the edit at a position is refused after those before it are made
pub edits_refused : (es : List Edit) (i : ℕ) (d : Edit) (text before : List ℕ) (stop : Stop EditError) →
    i < length es → EditsMade (take i es) text before → IsRefusedAt i (get_or es i d) before stop → AreRefused es text stop
edits_refused es i d text before (stops.Memory e) h done r = r
edits_refused es i d text before (stops.Fault error) h done r =
    let split : es ≡ take i es ++ (get_or es i d ∷ drop (i + 1) es) =
    sym (take-append-drop i es) ∙ ap (λ (l : List Edit). take i es ++ l) (drop_more es i d h) in
    let size : i ≡ length (take i es) = sym (length-take-le i es (omega (arith, h))) in
    (take i es, drop (i + 1) es, get_or es i d, before, split, done, r.0 ∙ size, r.1, r.2)

-- the error of an edit that is refused has its position and its path
pub refused_as : (index : ℕ) (path : Result (String Global) AllocError) (name : List ℕ) (e : Edit) (text : List ℕ) (stop : Stop Reason) →
    IfOk path (λ p. string_bytes p ≡ name) → IsRefused e text stop → IsRefusedAs index name e text (refusal index path stop)
refused_as index (Ok path) name e text (stops.Fault reason) same refused = (refl, same, refused)
refused_as index (Err error) name e text (stops.Fault reason) same refused = tt
refused_as index path name e text (stops.Memory error) same refused = tt

pub finished : (es : List Edit) (text : List ℕ) (r : Result (String Global) (Stop EditError)) →
    IfOk r (λ new. EditsMade es text (string_bytes new)) → IfErr r (AreRefused es text) → IsFinished es text r
finished es text (Ok new) made refused = made
finished es text (Err stop) made refused = refused
