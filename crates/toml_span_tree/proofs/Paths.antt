-- Places after a change at a path.
use Rattle.toml_span_lex.proofs.Common.{arith, common_steps, nat_tests, ◌≡◌, ◌≢◌, ℕ, zero, suc, List, [], ◌∷◌, true, false, Option, Some, None, option_map, ◌⊎◌, inr, refl, ap, ◌∙◌, ⊤, bytes_eq, bytes_eq-Decides}
use Rattle.toml_span_lex.specs.declared.span.Span.{Span}
use Rattle.toml_span_tree.specs.Node.{Node, Inner, Items, no_items, item, Members, no_members, member, entry_at, element_at}
use Rattle.toml_span_tree.specs.Value.{inner_of, span_of}
use Rattle.toml_span_tree.specs.Path.{Step, key, position, Path, Place, shape_of, at_step, reached, place_of, place_at, node_at, set_entry, set_element, set_at_step, put, BeginsWith}

abbrev pub Found : Type 0
Found = Option Span × Node

-- at the place of the change
pub entry_at-set : (name : List ℕ) (ms : Members) (e : Found) (w : Node) → entry_at name ms ≡ Some e → entry_at name (set_entry name w ms) ≡ Some (e.0, w)
entry_at-set name no_members e w h = cc
entry_at-set name (member other span n ms) e w h = grind (arith, nat_tests, common_steps, entry_at-set name ms e w)

pub element_at-set : (i : ℕ) (ns : Items) (e : Found) (w : Node) → element_at i ns ≡ Some e → element_at i (set_element i w ns) ≡ Some (e.0, w)
element_at-set i no_items e w h = cc
element_at-set zero (item n ns) e w h = grind (arith, nat_tests, common_steps)
element_at-set (suc i) (item n ns) e w h = element_at-set i ns e w h

pub below-set : (s : Step) (i : Inner) (e : Found) (w : Node) → at_step s i ≡ Some e → at_step s (set_at_step s w i) ≡ Some (e.0, w)
below-set s i e w h = grind (arith, nat_tests, common_steps, entry_at-set, element_at-set)

reached-put_step : (s : Step) (path : Path) (e : Found) (w : Node) (r : Found) → ((f : Found) → reached path f ≡ Some r → reached path (f.0, put path w f.1) ≡ Some (r.0, w))
    → reached (s ∷ path) e ≡ Some r → reached (s ∷ path) (e.0, put (s ∷ path) w e.1) ≡ Some (r.0, w)
reached-put_step s path e w r ih h = grind (arith, nat_tests, common_steps, below-set)

-- the new value is reached, by the same key
pub reached-put : (path : Path) (e : Found) (w : Node) (r : Found) → reached path e ≡ Some r → reached path (e.0, put path w e.1) ≡ Some (r.0, w)
reached-put [] e w r h = grind (arith, nat_tests, common_steps)
reached-put (s ∷ path) e w r h = reached-put_step s path e w r (λ f. reached-put path f w r) h

pub node_at-put : (path : Path) (n m w : Node) → node_at path n ≡ Some m → node_at path (put path w n) ≡ Some w
node_at-put path n m w h = grind (arith, nat_tests, common_steps, reached-put path (None, n) w)

-- and its place has the span of the old key
pub place_at-put : (path : Path) (n w : Node) (p : Place) → place_at path n ≡ Some p → place_at path (put path w n) ≡ Some (record { shape = shape_of (inner_of w); key_span = p.key_span; span = span_of w })
place_at-put path n w p h = grind (arith, nat_tests, common_steps, reached-put path (None, n) w)

-- elsewhere
pub bytes_same : (a b : List ℕ) → bytes_eq a b ≡ true → a ≡ b
bytes_same a b h = (bytes_eq-Decides a b).0 h

pub entry_at-other : (q name : List ℕ) (ms : Members) (w : Node) → bytes_eq q name ≡ false → entry_at q (set_entry name w ms) ≡ entry_at q ms
entry_at-other q name no_members w apart = refl
entry_at-other q name (member other span n ms) w apart = grind (arith, nat_tests, common_steps, bytes_same name other, entry_at-other q name ms w)

pub element_at-other : (j i : ℕ) (ns : Items) (w : Node) → j ≢ i → element_at j (set_element i w ns) ≡ element_at j ns
element_at-other j i no_items w apart = refl
element_at-other zero i (item n ns) w apart = grind (arith, nat_tests, common_steps)
element_at-other (suc j) zero (item n ns) w apart = refl
element_at-other (suc j) (suc i) (item n ns) w apart = element_at-other j i ns w (λ e. apart (ap suc e))

abbrev pub StepsApart : Step → Step → Type 0
StepsApart (key q) (key name) = bytes_eq q name ≡ false
StepsApart (key q) (position i) = ⊤
StepsApart (position j) (key name) = ⊤
StepsApart (position j) (position i) = j ≢ i

pub below-other : (t s : Step) (i : Inner) (w : Node) → StepsApart t s → at_step t (set_at_step s w i) ≡ at_step t i
below-other t s i w apart = grind (arith, nat_tests, common_steps, entry_at-other, element_at-other)

pub same_or_apart : (t s : Step) → (t ≡ s) ⊎ StepsApart t s
same_or_apart (key q) (key name) = grind (arith, nat_tests, common_steps, bytes_same q name)
same_or_apart (key q) (position i) = inr tt
same_or_apart (position j) (key name) = inr tt
same_or_apart (position j) (position i) = grind (arith, nat_tests, common_steps)

shape_of-set : (s : Step) (i : Inner) (w : Node) → shape_of (set_at_step s w i) ≡ shape_of i
shape_of-set s i w = grind (arith, nat_tests, common_steps)

-- the place at a path that does not begin with the path of the change
abbrev pub Shown : Path → Found → Option Place
Shown path e = option_map place_of (reached path e)

shown_here : (path : Path) (s : Step) (e : Found) (w : Node) → Shown [] (e.0, put (s ∷ path) w e.1) ≡ Shown [] e
shown_here path s e w = grind (arith, nat_tests, common_steps, shape_of-set)

shown_below : (path q : Path) (t s : Step) (e : Found) (w : Node) → (t ≡ s) ⊎ StepsApart t s → (t ≡ s → BeginsWith path q → ⊥)
    → ((f : Found) → (BeginsWith path q → ⊥) → Shown q (f.0, put path w f.1) ≡ Shown q f) → Shown (t ∷ q) (e.0, put (s ∷ path) w e.1) ≡ Shown (t ∷ q) e
shown_below path q t s e w which off ih = grind (arith, nat_tests, common_steps, below-set, below-other)

pub shown-other : (path q : Path) (e : Found) (w : Node) → (BeginsWith path q → ⊥) → Shown q (e.0, put path w e.1) ≡ Shown q e
shown-other [] q e w off = absurd (off (q, refl))
shown-other (s ∷ path) [] e w off = shown_here path s e w
shown-other (s ∷ path) (t ∷ q) e w off =
    shown_below path q t s e w (same_or_apart t s) (λ same begins. off (begins.0, ap (λ t. t ∷ q) same ∙ ap (λ r. s ∷ r) begins.1)) (λ f h. shown-other path q f w h)

-- a change leaves the place at every path that does not begin with its own
pub place_at-other : (path q : Path) (n w : Node) → (BeginsWith path q → ⊥) → place_at q (put path w n) ≡ place_at q n
place_at-other path q n w off = shown-other path q (None, n) w off
