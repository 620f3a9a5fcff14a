-- What a branch has at a step: what it keeps there, and the invariants.
use Rattle.toml_span_lex.proofs.Common.{rules, ◌≡◌, ℕ, true, false, cond, List, [], ◌∷◌, length, Option, Some, None, option_map, refl, sym, ap, ◌∙◌, subst, arith, ⊤, vec_len, ◌==◌, box_value, lookup, lookup_entry, eqb-false, nil_from_length, none-some, nat_tests, common_steps}
use Rattle.std.proofs.lemmas.Bool.{eqb-true}
use Rattle.toml_span_lex.specs.declared.key.Key.{Key}
use Rattle.toml_span_tree.specs.Path.{Path, Step, key, position}
use Rattle.toml_span_tree.specs.Value.{view}
use Rattle.toml_span_tree.specs.declared.value.Value.{Value}
use Rattle.toml_span.specs.declared.branch.Branch.{Branch, the_lemmas}
use Rattle.toml_span.specs.declared.branch.Branch.TheOpen.{Branch-F}
use Rattle.toml_span.specs.declared.branch.Branch.TheViews.{roll-Branch, out-Branch}
use Rattle.toml_span.specs.Ordered.{IsOrdered}
use Rattle.toml_span_read.specs.Paths.{same_step}
use Rattle.toml_span.specs.code.Machine.{Cell, CellMap, no_cell, no_cells, graft}
use Rattle.toml_span.specs.code.Tree.{IsEntry, IsFresh, IsNamed, IsOpen, IsScope, IsTableOrArray, NoArray, Sound, sound, cell_at, cells, child, child_in, closed, closed_in, closed_cell, count_at, counts, entries, item, infos, or_closed, or_nothing, or_zero, own_cell}
use Rattle.toml_span_lex.specs.Key.{is_named}
use Rattle.toml_span_read.proofs.PathLemmas.{same_step-eq, same_step-self}
use Rattle.toml_span.proofs.Grafts.{fun_ext, graft-is, path_ext}

pub roll-out : (n : Branch) → roll-Branch (out-Branch n) ≡ n
roll-out n = search (rules, the_lemmas)

pub out-roll : (n : Branch-F Branch) → out-Branch (roll-Branch n) ≡ n
out-roll n = search (rules, the_lemmas)

-- ---- a step

-- a branch, or a value and its key
abbrev pub Slot : Type 0
Slot = Option Branch × Option (Key × Value)

abbrev pub slot_in : Step → Branch-F Branch → Slot
slot_in (key name) n = (child_in name n.tables, closed_in name n.values)
slot_in (position i) n = (item i n.entries.items, None)

abbrev pub slot : Step → Branch → Slot
slot s n = slot_in s (out-Branch n)

abbrev pub slot_cell : Slot → CellMap
slot_cell x p = or_closed (option_map (cell_at p) x.0) (closed_cell x.1 p)

abbrev pub slot_count : Slot → Path → ℕ
slot_count x p = or_zero (option_map (count_at p) x.0)

or_none : (o : Option Cell) → or_nothing o ≡ or_closed o no_cell
or_none o = grind (arith, nat_tests, common_steps)

pub cells-step : (n : Branch) (s : Step) (p : Path) → cells n (s ∷ p) ≡ slot_cell (slot s n) p
unfolding cell_at
cells-step n s p = grind (arith, nat_tests, common_steps, or_none)

pub counts-step : (n : Branch) (s : Step) (p : Path) → counts n (s ∷ p) ≡ slot_count (slot s n) p
unfolding count_at
counts-step n s p = grind (arith, nat_tests, common_steps)

pub cells-slot : (n : Branch) (s : Step) (x : Slot) → slot s n ≡ x → (λ p. cells n (s ∷ p)) ≡ slot_cell x
cells-slot n s x h = fun_ext (λ p. cells-step n s p ∙ ap (λ y. slot_cell y p) h)

pub counts-slot : (n : Branch) (s : Step) (x : Slot) → slot s n ≡ x → (λ p. counts n (s ∷ p)) ≡ slot_count x
counts-slot n s x h = fun_ext (λ p. counts-step n s p ∙ ap (λ y. slot_count y p) h)

-- with a branch there, or with none
pub cells-at : (n : Branch) (s : Step) (o : Option Branch) → (slot s n).0 ≡ o → (λ p. cells n (s ∷ p)) ≡ slot_cell (o, (slot s n).1)
cells-at n s o h = cells-slot n s (o, (slot s n).1) (λ i. (h i, (slot s n).1))

pub counts-at : (n : Branch) (s : Step) (o : Option Branch) → (slot s n).0 ≡ o → (λ p. counts n (s ∷ p)) ≡ slot_count (o, (slot s n).1)
counts-at n s o h = counts-slot n s (o, (slot s n).1) (λ i. (h i, (slot s n).1))

pub counts-here : (n : Branch) → counts n [] ≡ length (entries n)
unfolding count_at
counts-here n = refl

-- whether there are entries
pub no-entries : (n : Branch) → (vec_len (out-Branch n).entries == 0) ≡ true → entries n ≡ []
no-entries n h = nil_from_length (entries n) (omega (arith, eqb-true (vec_len (out-Branch n).entries) 0 h, (out-Branch n).entries.ok.0))

pub some-entries : (n : Branch) → (vec_len (out-Branch n).entries == 0) ≡ false → entries n ≡ [] → ⊥
some-entries n h none = eqb-false (vec_len (out-Branch n).entries) 0 h (omega (arith, ap length none, (out-Branch n).entries.ok.0))

-- ---- invariants

abbrev pub IsGood : Option Branch → Option (Key × Value) → Step → Type 0
IsGood None None s = ⊤
IsGood None (Some e) s = IsOrdered (view e.1)
IsGood (Some c) o (key k) = (o ≡ None) × IsNamed (infos c) × Sound c
IsGood (Some c) o (position i) = (entries c ≡ []) × IsEntry (infos c) × Sound c

abbrev pub GoodAt : Branch → Step → Type 0
GoodAt n s = IsGood (slot s n).0 (slot s n).1 s

pub sound-shape : (n : Branch) → Sound n → IsTableOrArray n (entries n)
sound-shape n (sound m shape named added ordered below inside) = shape

pub sound-good : (n : Branch) → Sound n → (s : Step) → GoodAt n s
sound-good n v1 s = grind (arith, nat_tests, common_steps)

pub good-child : (n : Branch) (k : List ℕ) (c : Branch) → GoodAt n (key k) → child k n ≡ Some c → (closed k n ≡ None) × IsNamed (infos c) × Sound c
good-child n k c good is = subst (λ o. IsGood o (closed k n) (key k)) is good

pub good-entry : (n : Branch) (i : ℕ) (c : Branch) → GoodAt n (position i) → item i (entries n) ≡ Some c → (entries c ≡ []) × IsEntry (infos c) × Sound c
good-entry n i c good is = subst (λ o. IsGood o None (position i)) is good

pub good-value : (n : Branch) (k : List ℕ) (e : Key × Value) → GoodAt n (key k) → closed k n ≡ Some e → IsOrdered (view e.1)
good-value n k e good is = grind (arith, nat_tests, common_steps)

pub sound-from : (n : Branch) → IsTableOrArray n (entries n) → ((s : Step) → GoodAt n s) → Sound n
sound-from n shape good =
    sound n shape (λ k c is. let g = good-child n k c (good (key k)) is in (g.0, g.1)) (λ i c is. let g = good-entry n i c (good (position i)) is in (g.0, g.1))
    (λ k e is. good-value n k e (good (key k)) is) (λ k c is. (good-child n k c (good (key k)) is).2) (λ i c is. (good-entry n i c (good (position i)) is).2)

-- a table is not claimed as an array
pub scope-infos : (n : Branch) → IsScope n → NoArray (infos n)
scope-infos n h = subst (IsTableOrArray n) h.1 (sound-shape n h.0)

pub scope-from : (n : Branch) → NoArray (infos n) → entries n ≡ [] → ((s : Step) → GoodAt n s) → IsScope n
scope-from n plain none good = (sound-from n (subst (IsTableOrArray n) (sym none) plain) good, none)

-- ---- fresh branches, and arrays of tables

bare-slot : (n : Branch) → (out-Branch n).tables.entries ≡ [] → (out-Branch n).values.entries ≡ [] → (k : List ℕ) → slot (key k) n ≡ (None, None)
bare-slot n tables values k = λ i. (option_map box_value (lookup (is_named k) (tables i)), lookup_entry (is_named k) (values i))

fresh-slot : (n : Branch) → IsFresh n → (s : Step) → slot s n ≡ (None, None)
fresh-slot n h s = grind (arith, nat_tests, common_steps, bare-slot)

pub cells-fresh : (n : Branch) → IsFresh n → cells n ≡ no_cells
unfolding cell_at
cells-fresh n h = path_ext (ap own_cell h.no_infos) (λ s p. cells-step n s p ∙ ap (λ x. slot_cell x p) (fresh-slot n h s))

pub counts-fresh : (n : Branch) → IsFresh n → counts n ≡ (λ p. 0)
unfolding count_at
counts-fresh n h = path_ext (ap length h.no_entries) (λ s p. counts-step n s p ∙ ap (λ x. slot_count x p) (fresh-slot n h s))

pub scope-fresh : (n : Branch) → IsFresh n → IsScope n
scope-fresh n h = scope-from n (rw h.no_infos tt) h.no_entries (λ s. rw (fresh-slot n h s) tt)

pub open-good : (n : Branch) → IsOpen n → (s : Step) → GoodAt n s
open-good n h s = grind (arith, nat_tests, common_steps, bare-slot)

-- ---- something else at a step

-- the same branch, except at one step
pub record Sets (s : Step) (x : Slot) (n new : Branch) : Type 0 where
  pub claims : infos new ≡ infos n
  pub stands : (t : Step) → slot t new ≡ cond (same_step s t) x (slot t n)

pub sets-roll : (s : Step) (x : Slot) (n : Branch) (b : Branch-F Branch) → b.infos.items ≡ infos n → ((t : Step) → slot_in t b ≡ cond (same_step s t) x (slot t n)) → Sets s x n (roll-Branch b)
sets-roll s x n b claims stands = record { claims = ap (λ (m : Branch-F Branch). m.infos.items) (out-roll b) ∙ claims; stands = λ t. ap (slot_in t) (out-roll b) ∙ stands t }

sets-here : (s : Step) (x : Slot) (n new : Branch) → Sets s x n new → slot s new ≡ x
sets-here s x n new sets = sets.stands s ∙ ap (λ b. cond b x (slot s n)) (same_step-self s)

sets-apart : (s : Step) (x : Slot) (n new : Branch) → Sets s x n new → (t : Step) → same_step s t ≡ false → slot t new ≡ slot t n
sets-apart s x n new sets t off = sets.stands t ∙ ap (λ b. cond b x (slot t n)) off

pub cells-sets : (s : Step) (x : Slot) (n new : Branch) → Sets s x n new → cells new ≡ graft s (cells n) (slot_cell x)
unfolding cell_at
cells-sets s x n new sets =
    graft-is s (cells n) (slot_cell x) (cells new) (ap own_cell sets.claims) (cells-slot new s x (sets-here s x n new sets))
    (λ t p off. cells-step new t p ∙ ap (λ y. slot_cell y p) (sets-apart s x n new sets t off) ∙ sym (cells-step n t p))

-- over counts that differ at the branch itself
pub counts-sets : (s : Step) (x : Slot) (n new : Branch) (e : Path → ℕ) → Sets s x n new → length (entries new) ≡ e []
    → ((t : Step) (p : Path) → counts n (t ∷ p) ≡ e (t ∷ p)) → counts new ≡ graft s e (slot_count x)
unfolding count_at
counts-sets s x n new e sets here same =
    graft-is s e (slot_count x) (counts new) here (counts-slot new s x (sets-here s x n new sets))
    (λ t p off. counts-step new t p ∙ ap (λ y. slot_count y p) (sets-apart s x n new sets t off) ∙ sym (counts-step n t p) ∙ same t p)

pub good-sets : (s : Step) (x : Slot) (n new : Branch) → Sets s x n new → IsGood x.0 x.1 s → ((t : Step) → GoodAt n t) → (t : Step) → GoodAt new t
good-sets s x n new sets here old t = grind (arith, nat_tests, common_steps, same_step-eq)

-- at a name
sets-none : (k : List ℕ) (x : Slot) (n new : Branch) → Sets (key k) x n new → entries n ≡ [] → entries new ≡ []
sets-none k x n new sets none = go (entries new) (ap (λ (y : Slot). y.0) (sets.stands (position 0)) ∙ ap (item 0) none)
  where
    go : (xs : List Branch) → item 0 xs ≡ None → xs ≡ []
    go [] h = refl
    go (y ∷ xs) h = absurd (none-some y (sym h))

pub counts-named : (k : List ℕ) (x : Slot) (n new : Branch) → Sets (key k) x n new → IsScope n → counts new ≡ graft (key k) (counts n) (slot_count x)
unfolding count_at
counts-named k x n new sets before = counts-sets (key k) x n new (counts n) sets (ap length (sets-none k x n new sets before.1 ∙ sym before.1)) (λ t p. refl)

pub scope-named : (k : List ℕ) (x : Slot) (n new : Branch) → Sets (key k) x n new → IsGood x.0 x.1 (key k) → IsScope n → IsScope new × (infos new ≡ infos n)
scope-named k x n new sets good before =
    (scope-from new (subst NoArray (sym sets.claims) (scope-infos n before)) (sets-none k x n new sets before.1) (good-sets (key k) x n new sets good (sound-good n before.0)), sets.claims)
