-- What the port of a document is read as.
use Rattle.toml_span_lex.proofs.Common.{◌≡◌, ℕ, ◌^◌, inr, IfOk, IfErr, List, [], ◌∷◌, length, Option, Some, None, option_map, MatchOption, Result, Ok, Err, codes, refl, sym, ap, ◌∙◌, subst, pos, ⊤, none-some, same_Some}
use Rattle.toml_span_lex.specs.declared.span.Span.{Span}
use Rattle.toml_span_lex.specs.declared.stop.Stop.{Stop}
use Rattle.toml_span_lex.specs.declared.stop.Stop.TheVariants as stops
use Rattle.toml_span_tree.specs.declared.error.Error.{Error}
use Rattle.toml_span_tree.specs.declared.value.Value.{Value}
use Rattle.toml_span_tree.specs.Error.{ErrorContent, content_of, missing_field}
use Rattle.toml_span_tree.specs.Node.{Node, node, Members, taken, scalar, array, table, text, integer, float, boolean, datetime}
use Rattle.toml_span_tree.specs.Path.{Path, Place, Shape, shape_taken, shape_scalar, shape_array, shape_table, key, place_of, shape_of}
use Rattle.toml_span_tree.specs.Value.{view}
use Rattle.toml_span_tree.specs.Errors.{Errors, one}
use Rattle.toml_span_typed.specs.Reads.{Gives, read_integer, unsigned}
use Rattle.toml_span_typed.specs.TableHelper.{State, OpensTable, Requires, fresh, missing}
use Rattle.toml_span.specs.Claims.{claims}
use Rattle.toml_span.specs.Flat.{flat}
use Rattle.toml_span.specs.Parsing.{IsTree, IsRoot}
use Rattle.toml_span_laws.specs.Document.{IsDocument, IsValueOf, subtree, without_key}
use Rattle.toml_span_laws.specs.Helpers.{ReadsPart, RequiresAt, except}
use Rattle.toml_span_laws.proofs.Fields.{opens-over, required-at}
use Rattle.toml_span_example.proofs.uses.Conclusions.{number-shape}
use Rattle.toml_span_example.specs.uses.Fields.{NoPort, face, inner_with, lacks, number, read_or, required_field, whole}

-- ---- the document of a tree

on-document : (s : List ℕ) (root : Value) (P : (Path → Option Place) → Type 0) → IsTree s 128 root → ((places : Path → Option Place) → IsValueOf places (view root) → P places) → IsDocument s P
on-document s root P tree holds =
    let (bs, has, made) = tree in (bs, has.0, has.1, holds (flat (length s) (claims bs)) (made.ordered, made.shows))

-- ---- a value and its place read the same

integer-face : (name : List ℕ) (limit : ℕ) (n : Node) → read_integer name (unsigned limit) n ≡ read_integer name (unsigned limit) (face (place_of (None, n)))
integer-face name limit (node taken at) = refl
integer-face name limit (node (scalar (text s)) at) = refl
integer-face name limit (node (scalar (integer z)) at) = refl
integer-face name limit (node (scalar (float x)) at) = refl
integer-face name limit (node (scalar (boolean b)) at) = refl
integer-face name limit (node (scalar (datetime d)) at) = refl
integer-face name limit (node (array ns) at) = refl
integer-face name limit (node (table ms) at) = refl

read-place : (otherwise : Result ℕ Errors) (o : Option Place) (value : Node) → Some (place_of (None, value)) ≡ option_map without_key o → read_or otherwise number o ≡ number value
read-place otherwise None value is = absurd (none-some (place_of (None, value)) (sym is))
read-place otherwise (Some x) value is =
    sym (ap (λ y. number (face y)) (same_Some (place_of (None, value)) (without_key x) is)) ∙ sym (integer-face (codes "u16") (2 ^ 16) value)

-- ---- `required`

-- the read of the value below a key is that of the value at the key
part-read : (otherwise : Result ℕ Errors) (places : Path → Option Place) (name : List ℕ) (r : Result ℕ Errors) → ReadsPart (Gives number) (subtree places (key name ∷ [])) r → read_or otherwise number (places (key name ∷ [])) ≡ r
part-read otherwise places name r (value, left, is, given) = read-place otherwise (places (key name ∷ [])) value (is.1 []) ∙ sym given.0

-- the field in the answer
abbrev ReadAs : Result ℕ Errors → Result ℕ (Stop Error) → Type 0
ReadAs field (Ok x) = field ≡ Ok x
ReadAs field (Err (stops.Fault error)) = (faults : Errors) × (field ≡ Err faults) × (content_of error ≡ faults.last)
ReadAs field (Err (stops.Memory error)) = ⊤

fault-read : (places : Path → Option Place) (span : Span) (name : List ℕ) (before after : State) (error : Error) (o : Option Place) → before.span ≡ span → places (key name ∷ []) ≡ o
    → MatchOption o (content_of error ≡ missing name before) (λ place. (faults : Errors) × ReadsPart (Gives number) (subtree places (key name ∷ [])) (Err faults) × (content_of error ≡ faults.last))
    → ReadAs (required_field number name span places) (Err (stops.Fault error))
fault-read places span name before after error None at is told =
    (one (lacks name span), ap (read_or (Err (one (lacks name span))) number) is, told ∙ ap (lacks name) at)
fault-read places span name before after error (Some x) at is (faults, given, told) =
    (faults, part-read (Err (one (lacks name span))) places name (Err faults) given, told)

without-state : {A C : Type 0} {B D : Place → Type 0} (o : Option Place) → MatchOption o A B → (A → C) → ((place : Place) → B place → D place) → MatchOption o C D
without-state None h f g = f h
without-state (Some x) h f g = g x h

field-read : (places : Path → Option Place) (span : Span) (name : List ℕ) (before after : State) (answer : Result ℕ (Stop Error)) → before.span ≡ span → RequiresAt (Gives number) name places before answer after
    → ReadAs (required_field number name span places) answer
field-read places span name before after (Ok x) at (given, noted) = part-read (Err (one (lacks name span))) places name (Ok x) given
field-read places span name before after (Err (stops.Fault error)) at h =
    fault-read places span name before after error (places (key name ∷ [])) at refl
    (without-state (places (key name ∷ [])) h (λ a. a.0) (λ place b. (b.0, b.1, b.2)))
field-read places span name before after (Err (stops.Memory error)) at h = tt

-- ---- a port

opened-at : (m : Node) (s : State) (ms : Members) (span : Span) → m ≡ node (table ms) span → OpensTable m (Ok s) → s.span ≡ span
opened-at m s ms span is h =
    let same : Ok s ≡ Ok (fresh ms span) = subst (λ n. OpensTable n (Ok s)) is h in
    let opened : s ≡ fresh ms span = cc in
    ap (λ t. t.span) opened

port-step : (s : List ℕ) (root : Value) (places : Path → Option Place) (before after : State) (answer : Result ℕ (Stop Error)) → IsRoot (length s) root → IsValueOf places (view root) → OpensTable (view root) (Ok before)
    → Requires (Gives number) (codes "port") before answer after → ReadAs (required_field number (codes "port") (whole s) places) answer
port-step s root places before after answer (ms, is) value opens read =
    let over = opens-over places (view root) before value opens in
    let at = required-at (Gives number) places (codes "port") before after answer over.0 read in
    field-read places (whole s) (codes "port") before after answer (opened-at (view root) before ms (whole s) is opens)
    (subst (λ l. RequiresAt (Gives number) (codes "port") (except l places) before answer after) over.1 at)

face-shape : (x : Shape) → shape_of (inner_with x) ≡ x
face-shape shape_taken = refl
face-shape (shape_scalar s) = refl
face-shape shape_array = refl
face-shape shape_table = refl

number-at : (otherwise : Errors) (o : Option Place) (n : ℕ) → read_or (Err otherwise) number o ≡ Ok n → (place : Place) × (o ≡ Some place) × (place.shape ≡ shape_scalar (integer (pos n)))
number-at otherwise None n h = cc
number-at otherwise (Some x) n h = (x, refl, sym (face-shape x.shape) ∙ number-shape (2 ^ 16) (codes "u16") (face x) n (sym h))

pub port-read : (s : List ℕ) (root : Value) (before after : State) (answer : Result ℕ (Stop Error)) → IsTree s 128 root → IsRoot (length s) root → OpensTable (view root) (Ok before)
    → Requires (Gives number) (codes "port") before answer after
    → IfOk answer (λ port. IsDocument s (λ places. (place : Place) × (places (key (codes "port") ∷ []) ≡ Some place) × (place.shape ≡ shape_scalar (integer (pos port)))))
port-read s root before after (Ok port) tree is opens read =
    on-document s root _ tree (λ places value. number-at _ (places (key (codes "port") ∷ [])) port (port-step s root places before after (Ok port) is value opens read))
port-read s root before after (Err stop) tree is opens read = tt

pub port-refused : (s : List ℕ) (root : Value) (before after : State) (answer : Result ℕ (Stop Error)) → IsTree s 128 root → IsRoot (length s) root → OpensTable (view root) (Ok before)
    → Requires (Gives number) (codes "port") before answer after → IfErr answer (NoPort s)
port-refused s root before after (Ok port) tree is opens read = tt
port-refused s root before after (Err (stops.Memory error)) tree is opens read = tt
port-refused s root before after (Err (stops.Fault error)) tree is opens read =
    inr (on-document s root (λ places. (faults : Errors) × (required_field number (codes "port") (whole s) places ≡ Err faults) × (content_of error ≡ faults.last)) tree
    (λ places value. port-step s root places before after (Err (stops.Fault error)) is value opens read))
