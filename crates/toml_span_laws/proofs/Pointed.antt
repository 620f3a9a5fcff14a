-- What a pointer names in a document's tree is what the flat document has there.
use Rattle.toml_span_lex.proofs.Common.{◌≡◌, ◌↔◌, ℕ, zero, suc, List, [], ◌∷◌, ◌++◌, length, Option, Some, None, option_map, refl, sym, ap, ◌∙◌, subst, inl, inr, true≢false, ⊤, IfSome, option_and_then, cases_Bool, bytes_eq, arith, nat_tests, common_steps}
use Rattle.toml_span_lex.specs.declared.span.Span.{Span}
use Rattle.toml_span_tree.specs.Node.{Node, Items, no_items, item, Members, no_members, member, entry_at, element_at}
use Rattle.toml_span_tree.specs.Path.{Path, Step, Place, reached, at_step, place_of, node_at}
use Rattle.toml_span_tree.specs.Pointer.{pointed, pointer_segments, NamesPath}
use Rattle.toml_span_tree.specs.Value.{inner_of, view}
use Rattle.toml_span_tree.specs.declared.value.Value.{Value}
use Rattle.toml_span_tree.proofs.PointerLaws.{pointed-is}
use Rattle.toml_span_read.proofs.ReadSound.{document_sound}
use Rattle.toml_span_read.specs.Data.{ParsedSection}
use Rattle.toml_span_read.specs.Grammar.{SpellsDocument}
use Rattle.toml_span.specs.Claims.{claims}
use Rattle.toml_span.specs.Flat.{flat, ShowsExactly}
use Rattle.toml_span.specs.Ordered.{IsOrdered, AreOrdered, MembersOrdered}
use Rattle.toml_span.specs.Parsing.{IsTree}
use Rattle.toml_span.proofs.ShownWhole.{shown-filled}
use Rattle.toml_span_laws.specs.Document.{HasPlaceAt, without_key, subtree, IsValueOf, PointsAt}
use Rattle.toml_span_laws.proofs.FirstClash.{mapped}
use Rattle.toml_span_laws.proofs.OneSpelled.{document_unique}
use Rattle.toml_span_laws.proofs.OneTree.{At, one-value}

-- ---- below a path

further : (p q : Path) (o : Option At) → ((x : At) → reached (p ++ q) x ≡ option_and_then (reached q) (reached p x))
    → option_and_then (reached (p ++ q)) o ≡ option_and_then (reached q) (option_and_then (reached p) o)
further p q o on = grind (arith, nat_tests, common_steps)

pub reached-on : (p q : Path) (x : At) → reached (p ++ q) x ≡ option_and_then (reached q) (reached p x)
reached-on [] q x = refl
reached-on (s ∷ p) q x = further p q (at_step s (inner_of x.1)) (λ y. reached-on p q y)

-- what is found is in order
abbrev InOrder : Option At → Type 0
InOrder o = IfSome o (λ x. IsOrdered x.1)

element-ordered : (i : ℕ) (ns : Items) → AreOrdered ns → InOrder (element_at i ns)
element-ordered i no_items h = tt
element-ordered zero (item n ns) h = h.0
element-ordered (suc i) (item n ns) h = element-ordered i ns h.1

entry-ordered : (name : List ℕ) (ms : Members) → MembersOrdered ms → InOrder (entry_at name ms)
entry-ordered name no_members h = tt
entry-ordered name (member other at n ms) h = elim (cases_Bool (bytes_eq name other)) [ inl here ↦ rw here h.1 | inr off ↦ rw off (entry-ordered name ms h.2) ]

below-ordered : (s : Step) (n : Node) → IsOrdered n → InOrder (at_step s (inner_of n))
below-ordered s n h = grind (arith, nat_tests, common_steps, element-ordered, entry-ordered)

step-ordered : (p : Path) (o : Option At) → InOrder o → ((x : At) → IsOrdered x.1 → InOrder (reached p x)) → InOrder (option_and_then (reached p) o)
step-ordered p o h f = grind (arith, nat_tests, common_steps)

reached-ordered : (p : Path) (x : At) → IsOrdered x.1 → InOrder (reached p x)
reached-ordered [] x h = h
reached-ordered (s ∷ p) x h = step-ordered p (at_step s (inner_of x.1)) (below-ordered s x.1 h) (reached-ordered p)

pub part-value : (places : Path → Option Place) (n : Node) (path : Path) (x : At) → IsValueOf places n → reached path (None, n) ≡ Some x → IsValueOf (subtree places path) x.1
part-value places n path x h is = (rw is at (reached-ordered path (None, n) h.0), grind (arith, nat_tests, common_steps, reached-on))

-- ---- the place at a path

pub node-reached : (o : Option At) (m : Node) → option_map (λ r. r.1) o ≡ Some m → (k : Option Span) × (o ≡ Some (k, m))
node-reached o m h = let (x, is, same) = mapped (λ r. r.1) o m h in (x.0, is ∙ ap (λ (n : Node). Some (x.0, n)) same)

stands : (pointer : List ℕ) (n m : Node) (places : Path → Option Place) → ShowsExactly n places → pointed pointer n ≡ Some m → HasPlaceAt pointer places (λ place. ⊤)
stands pointer n m places shows is = grind (arith, nat_tests, common_steps, node-reached, pointed-is pointer n m)

-- ---- trees of documents

names-value : (pointer : List ℕ) (n m : Node) (length : ℕ) (bs : List ParsedSection) → IsValueOf (flat length (claims bs)) n → pointed pointer n ≡ Some m → PointsAt pointer (flat length (claims bs)) m
names-value pointer n m length bs h is = grind (arith, nat_tests, common_steps, node-reached, part-value (flat length (claims bs)) n, pointed-is pointer n m)

-- the value at a path that the segments name is named
found-there : (pointer : List ℕ) (names : List (List ℕ)) (path : Path) (place : Place) (n : Node) (length : ℕ) (bs : List ParsedSection) → ShowsExactly n (flat length (claims bs))
    → pointer_segments pointer ≡ Some names → NamesPath names path → flat length (claims bs) path ≡ Some place
    → (m : Node) × (k : Option Span) × (reached path (None, n) ≡ Some (k, m)) × (pointed pointer n ≡ Some m)
found-there pointer names path place n length bs shows cut named is =
    let (x, at, same) = mapped place_of (reached path (None, n)) place (shows path ∙ is) in
    let there : node_at path n ≡ Some x.1 = ap (option_map (λ r. r.1)) at in
    let filled = shown-filled n length bs shows path x.1 there in
    (x.1, x.0, at, (pointed-is pointer n x.1).1 (names, path, cut, named, there, λ t. absurd (true≢false (sym t ∙ filled))))

value-named : (pointer : List ℕ) (n m : Node) (length : ℕ) (bs : List ParsedSection) → IsValueOf (flat length (claims bs)) n → PointsAt pointer (flat length (claims bs)) m → pointed pointer n ≡ Some m
value-named pointer n m length bs h (names, path, cut, named, value) =
    let places = flat length (claims bs) in
    let (place, stands, same) = mapped without_key (places path) (place_of (None, m)) (sym (value.1 [])) in
    let (w, k, at, is) = found-there pointer names path place n length bs h.1 cut named stands in
    is ∙ ap Some (one-value (subtree places path) w m (part-value places n path (k, w) h at) value)

pub tree-value : (text : List ℕ) (limit : ℕ) (root : Value) (bs : List ParsedSection) → IsTree text limit root → SpellsDocument bs text limit → IsValueOf (flat (length text) (claims bs)) (view root)
tree-value text limit root bs h spelled =
    let (cs, has, tree) = h in
    (tree.ordered, subst (λ l. ShowsExactly (view root) (flat (length text) (claims l))) (document_unique text limit cs bs (document_sound cs text limit has.0) spelled) tree.shows)

pub pointer-value : (text : List ℕ) (limit : ℕ) (root : Value) (bs : List ParsedSection) (pointer : List ℕ) (m : Node) → IsTree text limit root → SpellsDocument bs text limit
    → (pointed pointer (view root) ≡ Some m) ↔ PointsAt pointer (flat (length text) (claims bs)) m
pointer-value text limit root bs pointer m tree spelled =
    let value = tree-value text limit root bs tree spelled in
    (names-value pointer (view root) m (length text) bs value, value-named pointer (view root) m (length text) bs value)

pub pointer-some : (text : List ℕ) (limit : ℕ) (root : Value) (bs : List ParsedSection) (pointer : List ℕ) → IsTree text limit root → SpellsDocument bs text limit
    → ((m : Node) × (pointed pointer (view root) ≡ Some m)) ↔ HasPlaceAt pointer (flat (length text) (claims bs)) (λ place. ⊤)
pointer-some text limit root bs pointer tree spelled =
    let value = tree-value text limit root bs tree spelled in (
      λ found. stands pointer (view root) found.0 (flat (length text) (claims bs)) value.1 found.1,
      λ there.
          let at = found-there pointer there.0 there.1 there.2 (view root) (length text) bs value.1 there.3 there.4 there.5 in
          (at.0, at.3),
    )
