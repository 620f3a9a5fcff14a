-- Each piece of a tree's row is where the way to it leads.
use Rattle.toml_span_lex.proofs.Common.{◌≡◌, ℕ, zero, suc, ◌+◌, ◌<◌, List, [], ◌∷◌, ◌++◌, map, take, reverse, length, get_or, Option, Some, None, option_map, option_and_then, inl, inr, refl, sym, ap, ◌∙◌, subst, arith, cases_Bool, bytes_eq, nat_tests, common_steps}
use Rattle.toml_span_lex.specs.declared.span.Span.{Span}
use Rattle.toml_span_tree.specs.Node.{Node, node, Inner, taken, scalar, array, table, Items, no_items, item, Members, no_members, member, entry_at, element_at}
use Rattle.toml_span_tree.specs.Value.{inner_of}
use Rattle.toml_span_tree.specs.Path.{Step, key, position, Path, at_step, reached, place_of}
use Rattle.toml_span.specs.Ordered.{HasOneEach, InnerHasOneEach, ItemsHaveOneEach, MembersHaveOneEach}
use Rattle.toml_span.proofs.Ordered.{same-name, first-entry, later-entry}
use Rattle.toml_span_serde.specs.Misfits.{IsPlaceIn}
use Rattle.toml_span_serde.specs.Pieces.{Piece, pieces, held_pieces, items_pieces, members_pieces}
use Rattle.toml_span_serde.specs.Tasks.{piece_content, piece_of}
use Rattle.toml_span_serde.specs.Walk.{Way, ended, after, walked, way_at}
use Rattle.toml_span_serde.specs.declared.pieces.Piece.{Piece as Made}

abbrev pub Found : Type 0
Found = Option Span × Node

-- each of the pieces, beginning with that way, is where the way to it leads
abbrev pub AllNamed : Node → Way → List Piece → Type 0
AllNamed root way [] = Unit {0}
AllNamed root way (p ∷ ps) =
    IsPlaceIn (reverse (way_at p.content way)) p.span root × AllNamed root (after p.content way) ps

-- ---- a walk

walked-append : (xs ys : List Piece) (way : Way) → walked (xs ++ ys) way ≡ walked ys (walked xs way)
walked-append [] ys way = refl
walked-append (x ∷ xs) ys way = walked-append xs ys (after x.content way)

abbrev counted : ℕ → Items → ℕ
counted i no_items = i
counted i (item n ns) = counted (i + 1) ns

-- ---- after a value

mutual
  pub walked-node : (n : Node) (way : Way) → walked (pieces n) way ≡ ended way
  walked-node (node i span) way = walked-held i span way

  walked-held : (i : Inner) (span : Span) (way : Way) → walked (held_pieces span i) way ≡ ended way
  walked-held taken span way = refl
  walked-held (scalar s) span way = refl
  walked-held (array ns) span way = grind (arith, nat_tests, common_steps, walked-items ns 0 way, walked-append)
  walked-held (table ms) span way = grind (arith, nat_tests, common_steps, walked-members ms way, walked-append)

  pub walked-items : (ns : Items) (i : ℕ) (way : Way) → walked (items_pieces ns) (position i ∷ way) ≡ position (counted i ns) ∷ way
  walked-items no_items i way = refl
  walked-items (item n ns) i way = grind (arith, nat_tests, common_steps, walked-items ns (i + 1) way, walked-node n (position i ∷ way), walked-append)

  pub walked-members : (ms : Members) (way : Way) → walked (members_pieces ms) way ≡ way
  walked-members no_members way = refl
  walked-members (member name span n ms) way = grind (arith, nat_tests, common_steps, walked-members ms way, walked-node n (key name ∷ way), walked-append)

-- ---- one step down

none-some : {A : Type 0} {x : A} → None ≡ Some x → ⊥
none-some e = cc

further : (p q : Path) (o : Option Found) → ((x : Found) → reached (p ++ q) x ≡ option_and_then (reached q) (reached p x))
    → option_and_then (reached (p ++ q)) o ≡ option_and_then (reached q) (option_and_then (reached p) o)
further p q o on = grind (arith, nat_tests, common_steps)

reached-on : (p q : Path) (x : Found) → reached (p ++ q) x ≡ option_and_then (reached q) (reached p x)
reached-on [] q x = refl
reached-on (s ∷ p) q x = further p q (at_step s (inner_of x.1)) (λ y. reached-on p q y)

-- a later entry is found where it was, after another one with another name
later : (other name : List ℕ) (span : Span) (n : Node) (ms : Members) (x : Found) → entry_at name ms ≡ None → entry_at other ms ≡ Some x → entry_at other (member name span n ms) ≡ Some x
later other name span n ms x once is = elim (cases_Bool (bytes_eq other name)) [
  | inl same ↦ absurd (none-some (sym once ∙ ap (λ a. entry_at a ms) (sym (same-name other name same)) ∙ is))
  | inr off ↦ later-entry other name span n ms off ∙ is
]

module _ (root : Node) where
  abbrev Leads : Way → Found → Type 0
  Leads way x = reached (reverse way) (None, root) ≡ Some x

  step-down : (s : Step) (way : Way) (k : Option Span) (i : Inner) (span : Span) (x : Found) → Leads way (k, node i span) → at_step s i ≡ Some x → Leads (s ∷ way) x
  step-down s way k i span x there is = grind (arith, nat_tests, common_steps, reached-on)

  moved : (way : Way) (i j : ℕ) (x : Found) → i ≡ j → Leads (position j ∷ way) x → Leads (position i ∷ way) x
  moved way i j x e there = ap (λ p. reached (reverse (position p ∷ way)) (None, root)) e ∙ there

  append-named : (way : Way) (xs ys : List Piece) → AllNamed root way xs → AllNamed root (walked xs way) ys → AllNamed root way (xs ++ ys)
  append-named way [] ys a b = b
  append-named way (x ∷ xs) ys a b = (a.0, append-named (after x.content way) xs ys a.1 b)

  here : (way : Way) (k : Option Span) (i : Inner) (span : Span) → Leads way (k, node i span) → IsPlaceIn (reverse way) span root
  here way k i span there = (place_of (k, node i span), ap (option_map place_of) there, inl refl)

  mutual
    named-node : (n : Node) (way : Way) (k : Option Span) → HasOneEach n → Leads way (k, n) → AllNamed root way (pieces n)
    named-node (node i span) way k one there = named-held i span way k one there

    named-held : (i : Inner) (span : Span) (way : Way) (k : Option Span) → InnerHasOneEach i → Leads way (k, node i span) → AllNamed root way (held_pieces span i)
    named-held taken span way k one there = (here way k taken span there, tt)
    named-held (scalar s) span way k one there = (here way k (scalar s) span there, tt)
    named-held (array ns) span way k one there =
        let down = λ (j : ℕ) (m : Node). step-down (position j) way k (array ns) span (None, m) there in
        let items = named-items ns 0 way one (λ j m e. moved way (0 + j) j (None, m) (omega arith) (down j m e)) in
        grind (arith, nat_tests, common_steps, items, append-named, here, walked-items)
    named-held (table ms) span way k one there =
        let members = named-members ms way one (λ name x e. step-down (key name) way k (table ms) span x there e) in
        grind (arith, nat_tests, common_steps, members, append-named, here, walked-members)

    named-items : (ns : Items) (i : ℕ) (way : Way) → ItemsHaveOneEach ns → ((j : ℕ) (m : Node) → element_at j ns ≡ Some (None, m) → Leads (position (i + j) ∷ way) (None, m))
        → AllNamed root (position i ∷ way) (items_pieces ns)
    named-items no_items i way one there = tt
    named-items (item n ns) i way one there =
        let first : Leads (position i ∷ way) (None, n) = moved way i (i + 0) (None, n) (omega arith) (there 0 n refl) in
        append-named (position i ∷ way) (pieces n) (items_pieces ns) (named-node n (position i ∷ way) None one.0 first)
        (subst (λ w. AllNamed root w (items_pieces ns)) (sym (walked-node n (position i ∷ way)))
        (named-items ns (i + 1) way one.1 (λ j m e. moved way (i + 1 + j) (i + suc j) (None, m) (omega arith) (there (suc j) m e))))

    named-members : (ms : Members) (way : Way) → MembersHaveOneEach ms → ((name : List ℕ) (x : Found) → entry_at name ms ≡ Some x → Leads (key name ∷ way) x)
        → AllNamed root way (members_pieces ms)
    named-members no_members way one there = tt
    named-members (member name span n ms) way one there =
        let found : Leads (key name ∷ way) (Some span, n) = there name (Some span, n) (first-entry name span n ms) in
        let by_key : IsPlaceIn (reverse (key name ∷ way)) span root = (place_of (Some span, n), ap (option_map place_of) found, inr refl) in (
          by_key,
          append-named (key name ∷ way) (pieces n) (members_pieces ms) (named-node n (key name ∷ way) (Some span) one.1 found)
              (subst (λ w. AllNamed root w (members_pieces ms)) (sym (walked-node n (key name ∷ way)))
              (named-members ms way one.2 (λ other x e. there other x (later other name span n ms x one.0 e)))),
        )

-- each piece of a row is where the way to it leads
pub named-at : (root : Node) (k : ℕ) (ps : List Made) (p : Made) (way : Way) → k < length ps → get_or ps k p ≡ p → AllNamed root way (map piece_of ps)
    → IsPlaceIn (reverse (way_at (piece_content p.content) (walked (map piece_of (take k ps)) way))) p.span root
named-at root k [] p way inside is named = absurd (omega (arith, inside))
named-at root zero (q ∷ ps) p way inside is named = grind (arith, nat_tests, common_steps)
named-at root (suc k) (q ∷ ps) p way inside is named = named-at root k ps p (after (piece_content q.content) way) (omega arith) is named.1

-- so does each piece of a tree's row
pub named : (root : Node) (k : ℕ) (ps : List Made) (p : Made) → map piece_of ps ≡ pieces root → HasOneEach root → k < length ps → get_or ps k p ≡ p
    → IsPlaceIn (reverse (way_at (piece_content p.content) (walked (map piece_of (take k ps)) []))) p.span root
named root k ps p is one inside here =
    named-at root k ps p [] inside here (subst (AllNamed root []) (sym is) (named-node root root [] None one refl))
