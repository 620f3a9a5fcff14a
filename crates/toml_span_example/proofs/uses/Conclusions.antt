-- What callers conclude from the clauses of `parse` and of the tree.
use Rattle.toml_span_lex.proofs.Common.{◌≡◌, ◌↔◌, ℕ, pos, negsuc, Bool, true, false, nat_lt, if◌then◌else◌, List, Option, Some, None, option_map, Ok, length, refl, sym, ap, ◌∙◌, subst, true≢false, none-some, same_Some}
use Rattle.toml_span_lex.specs.declared.span.Span.{Span}
use Rattle.toml_span_tree.specs.declared.value.Value.{Value}
use Rattle.toml_span_tree.specs.Node.{Node, node, taken, scalar, array, table, text, integer, float, boolean, datetime}
use Rattle.toml_span_tree.specs.Path.{Path, Place, shape_scalar, shape_of, place_of, reached}
use Rattle.toml_span_tree.specs.Pointer.{pointed}
use Rattle.toml_span_tree.specs.Value.{view, inner_of, span_of, is_taken}
use Rattle.toml_span_tree.proofs.PointerLaws.{pointed-is}
use Rattle.toml_span_tree.proofs.Values.{view_is}
use Rattle.toml_span_typed.specs.Reads.{read_integer, or_out_of, unsigned}
use Rattle.toml_span_read.specs.Data.{ParsedSection}
use Rattle.toml_span.specs.Claims.{claims}
use Rattle.toml_span.specs.Flat.{flat, ShowsExactly}
use Rattle.toml_span.specs.Parsing.{IsTree}
use Rattle.toml_span_laws.specs.Document.{IsDocument, HasPlaceAt}
use Rattle.toml_span.proofs.ShownWhole.{shown-filled}

-- ---- what a pointer names in a tree, and the value there

abbrev At : Type 0
At = Option Span × Node

node-place : (o : Option At) (m : Node) → option_map (λ r. r.1) o ≡ Some m → (k : Option Span) × (option_map place_of o ≡ Some (place_of (k, m)))
node-place None m h = absurd (none-some m h)
node-place (Some r) m h = (r.0, ap (λ (n : Node). Some (place_of (r.0, n))) (same_Some r.1 m h))

place-node : (o : Option At) (x : Place) → option_map place_of o ≡ Some x → (k : Option Span) × (m : Node) × (option_map (λ r. r.1) o ≡ Some m) × (place_of (k, m) ≡ x)
place-node None x h = absurd (none-some x h)
place-node (Some r) x h = (r.0, r.1, refl, same_Some (place_of r) x h)

-- where the pointer names a value, that value is
pub pointed-stands : (pointer : List ℕ) (n m : Node) (places : Path → Option Place) (P : Place → Type 0) → ShowsExactly n places → pointed pointer n ≡ Some m
    → ((k : Option Span) → P (place_of (k, m))) → HasPlaceAt pointer places P
pointed-stands pointer n m places P shows is h =
    let (names, path, cut, named, there, whole) = (pointed-is pointer n m).0 is in
    let at = node-place (reached path (None, n)) m there in
    (names, path, place_of (at.0, m), cut, named, sym (shows path) ∙ at.1, h at.0)

-- the value at the pointer's path in the tree of sections is the one that it names
pub stands-pointed : (pointer : List ℕ) (n : Node) (length : ℕ) (bs : List ParsedSection) (P : Place → Type 0) → ShowsExactly n (flat length (claims bs)) → HasPlaceAt pointer (flat length (claims bs)) P
    → (k : Option Span) × (m : Node) × (pointed pointer n ≡ Some m) × P (place_of (k, m))
stands-pointed pointer n length bs P shows (names, path, place, cut, named, is, h) =
    let (k, m, there, same) = place-node (reached path (None, n)) place (shows path ∙ is) in
    let held : is_taken m ≡ true → ⊥ = λ t. true≢false (sym t ∙ shown-filled n length bs shows path m there) in
    (k, m, (pointed-is pointer n m).1 (names, path, cut, named, there, λ t. absurd (held t)), subst P (sym same) h)

-- ---- answers of callers

-- An answer read from the value that the pointer names is read from the value there in the flat document.
pub reads-value : {X : Type 0} (s pointer : List ℕ) (root : Value) (m : Node) (o : Option X) (P : X → Place → Type 0) → IsTree s 128 root → pointed pointer (view root) ≡ Some m
    → ((k : Option Span) (x : X) → (o ≡ Some x) ↔ P x (place_of (k, m))) → IsDocument s (λ places. (x : X) → (o ≡ Some x) ↔ HasPlaceAt pointer places (P x))
reads-value s pointer root m o P tree is reads =
    let (bs, has, made) = tree in
    (bs, has.0, has.1, λ x. (stands bs made.shows x, answers bs made.shows x))
  where
    stands : (bs : List ParsedSection) → ShowsExactly (view root) (flat (length s) (claims bs)) → (x : _) → o ≡ Some x → HasPlaceAt pointer (flat (length s) (claims bs)) (P x)
    stands bs shows x h = pointed-stands pointer (view root) m (flat (length s) (claims bs)) (P x) shows is (λ k. (reads k x).0 h)

    answers : (bs : List ParsedSection) → ShowsExactly (view root) (flat (length s) (claims bs)) → (x : _) → HasPlaceAt pointer (flat (length s) (claims bs)) (P x) → o ≡ Some x
    answers bs shows x h =
        let (k, w, found, holds) = stands-pointed pointer (view root) (length s) bs (P x) shows h in
        (reads k x).1 (subst (λ (w : Node). P x (place_of (k, w))) (same_Some w m (sym found ∙ is)) holds)

-- If the pointer names nothing, no value is read.
pub reads-nothing : {X : Type 0} (s pointer : List ℕ) (root : Value) (P : X → Place → Type 0) → IsTree s 128 root → pointed pointer (view root) ≡ None
    → IsDocument s (λ places. (x : X) → (None ≡ Some x) ↔ HasPlaceAt pointer places (P x))
reads-nothing s pointer root P tree is =
    let (bs, has, made) = tree in
    (bs, has.0, has.1, λ x. (λ h. absurd (none-some x h), nowhere bs made.shows x))
  where
    nowhere : (bs : List ParsedSection) → ShowsExactly (view root) (flat (length s) (claims bs)) → (x : _) → HasPlaceAt pointer (flat (length s) (claims bs)) (P x) → None ≡ Some x
    nowhere bs shows x h =
        let (k, w, found, holds) = stands-pointed pointer (view root) (length s) bs (P x) shows h in
        absurd (none-some w (sym is ∙ found))

pub span-place : (v : Value) (k : Option Span) (span : Span) → (Some v.span ≡ Some span) ↔ (span_of (view v) ≡ span)
span-place v k span =
    let same : span_of (view v) ≡ v.span = ap span_of (view_is v) in
    (λ h. same ∙ same_Some v.span span h, λ h. ap Some (sym same ∙ h))

-- ---- a number that is read

held-below : (b : Bool) (type : List ℕ) (span : Span) (m n : ℕ) → Ok n ≡ or_out_of type span (if b then Some m else None) → m ≡ n
held-below true type span m n h = cc
held-below false type span m n h = cc

pub number-shape : (limit : ℕ) (type : List ℕ) (value : Node) (n : ℕ) → Ok n ≡ read_integer type (unsigned limit) value → shape_of (inner_of value) ≡ shape_scalar (integer (pos n))
number-shape limit type (node taken span) n h = cc
number-shape limit type (node (scalar (text s)) span) n h = cc
number-shape limit type (node (scalar (integer (pos m))) span) n h = ap (λ m. shape_scalar (integer (pos m))) (held-below (nat_lt m limit) type span m n h)
number-shape limit type (node (scalar (integer (negsuc m))) span) n h = cc
number-shape limit type (node (scalar (float x)) span) n h = cc
number-shape limit type (node (scalar (boolean b)) span) n h = cc
number-shape limit type (node (scalar (datetime d)) span) n h = cc
number-shape limit type (node (array ns) span) n h = cc
number-shape limit type (node (table ms) span) n h = cc
