-- A branch with another entry, or with its latest entry changed.
use Rattle.toml_span_lex.proofs.Common.{◌≡◌, ℕ, suc, ◌<◌, ◌≤◌, cond, length, get_or, set, List, [], ◌∷◌, ◌++◌, Some, None, Result, Ok, Err, OnOk, refl, sym, ap, ◌∙◌, subst, inr, arith, nat_eq, nat_tests, common_steps}
use Rattle.std.proofs.lemmas.Bool.{eq-eqb}
use Rattle.toml_span_tree.specs.Path.{Path, position}
use Rattle.toml_span.specs.declared.claims.ClaimInfo.{ClaimInfo}
use Rattle.toml_span.specs.declared.claims.ClaimKind.TheVariants.{TableElement}
use Rattle.toml_span.specs.declared.branch.Branch.{Branch}
use Rattle.toml_span.specs.declared.branch.Branch.TheViews.{out-Branch, roll-Branch}
use Rattle.toml_span.specs.declared.branch.Branch.TheOpen.{Branch-F}
use Rattle.toml_span.specs.Claims.{Claims}
use Rattle.toml_span.specs.code.Machine.{graft}
use Rattle.toml_span.specs.code.ClaimInfos.{PlaceError, remember}
use Rattle.toml_span.specs.code.Placing.{Opening, Opens, Passes, Reaches}
use Rattle.toml_span.specs.code.Relative.{counts_after_adding, under}
use Rattle.toml_span.specs.code.Tree.{IsArray, IsChild, IsEntry, IsFresh, IsHeld, IsNamed, IsOpen, IsScope, IsTableOrArray, Sound, count_at, cells, counts, entries, is_entry_kind, item, infos}
use Rattle.toml_span.proofs.Claimed.{entry-remember}
use Rattle.toml_span.proofs.Grafts.{graft-itself}
use Rattle.toml_span.proofs.Nodes.{Sets, Slot, cells-at, cells-fresh, cells-sets, counts-at, counts-fresh, counts-here, counts-sets, good-entry, good-sets, open-good, out-roll, scope-fresh, sets-roll, slot, slot_in, sound-from, sound-good, sound-shape}
use Rattle.toml_span.proofs.Placed.{cond-slot, on_ok, reaches-below, reaches-stops}

-- ---- lists

item-push : (xs : List Branch) (w : Branch) (i : ℕ) → item i (xs ++ w ∷ []) ≡ cond (nat_eq (length xs) i) (Some w) (item i xs)
item-push [] w i = grind (arith, nat_tests, common_steps)
item-push (x ∷ xs) w i = grind (arith, nat_tests, common_steps, item-push xs w)

item-set : (xs : List Branch) (m : ℕ) (w : Branch) → m < length xs → (i : ℕ) → item i (set xs m w) ≡ cond (nat_eq m i) (Some w) (item i xs)
item-set [] m w h i = absurd (omega arith)
item-set (x ∷ xs) m w h i = grind (arith, nat_tests, common_steps, item-set xs)

pub item-at : (xs : List Branch) (m : ℕ) (d : Branch) → m < length xs → item m xs ≡ Some (get_or xs m d)
item-at [] m d h = absurd (omega arith)
item-at (x ∷ xs) m d h = grind (arith, nat_tests, common_steps, item-at xs)

item-past : (xs : List Branch) (m : ℕ) → length xs ≤ m → item m xs ≡ None
item-past [] m h = refl
item-past (x ∷ xs) m h = grind (arith, nat_tests, common_steps, item-past xs)

-- ---- another entry at an index

-- the same branch, with w as the entry at the index m
pub record PutsEntry (m : ℕ) (w n new : Branch) : Type 0 where
  pub sets : Sets (position m) (Some w, None) n new
  pub values : (out-Branch new).values ≡ (out-Branch n).values
  pub tables : (out-Branch new).tables ≡ (out-Branch n).tables

puts : (m : ℕ) (w n : Branch) (b : Branch-F Branch) → b.infos.items ≡ infos n → b.values ≡ (out-Branch n).values → b.tables ≡ (out-Branch n).tables
    → ((i : ℕ) → item i b.entries.items ≡ cond (nat_eq m i) (Some w) (item i (entries n))) → PutsEntry m w n (roll-Branch b)
puts m w n b claims values tables items = grind (arith, nat_tests, common_steps, cond-slot, out-roll, sets-roll, slot, slot_in)

pub puts-set : (m : ℕ) (w n : Branch) (b : Branch-F Branch) → b.infos.items ≡ infos n → b.values ≡ (out-Branch n).values → b.tables ≡ (out-Branch n).tables
    → m < length (entries n) → b.entries.items ≡ set (entries n) m w → PutsEntry m w n (roll-Branch b)
puts-set m w n b claims values tables within written = puts m w n b claims values tables (λ i. ap (item i) written ∙ item-set (entries n) m w within i)

-- a new entry has no entries below it
counts-pushed : (m : ℕ) (w n new : Branch) → PutsEntry m w n new → item m (entries n) ≡ None → length (entries new) ≡ suc (length (entries n)) → counts w ≡ (λ p. 0) → counts new ≡ counts_after_adding (counts n)
unfolding count_at
counts-pushed m w n new puts past many none =
    counts-sets (position m) (Some w, None) n new (counts_after_adding (counts n)) puts.sets many (λ t p. refl)
    ∙ ap (graft (position m) (counts_after_adding (counts n))) (none ∙ sym (counts-at n (position m) None past)) ∙ graft-itself (position m) (counts_after_adding (counts n))

-- ---- invariants

array-named : (n : Branch) → IsArray n → IsNamed (infos n)
array-named n h = subst IsNamed (sym h.only) (ap is_entry_kind h.array, tt)

shape-of : (n : Branch) (i : ℕ) (x : Branch) → item i (entries n) ≡ Some x → (IsTableOrArray n (entries n) → IsArray n) × (IsArray n → IsTableOrArray n (entries n))
shape-of n i x found = grind (arith, nat_tests, common_steps)

held-put : (m : ℕ) (w n new : Branch) → PutsEntry m w n new → IsOpen n → IsScope w → IsEntry (infos w) → IsHeld new
held-put m w n new puts h table claimed =
    (sound-from new ((shape-of new m w here).1 array) (good-sets (position m) (Some w, None) n new puts.sets (table.1, claimed, table.0) (open-good n h)), array-named new array)
  where
    here : item m (entries new) ≡ Some w
    here = ap (λ (y : Slot). y.0) (puts.sets.stands (position m) ∙ ap (λ b. cond b (Some w, None) (slot (position m) n)) (eq-eqb m m refl))

    array : IsArray new
    array = record {
      claim = h.array.claim;
      only = puts.sets.claims ∙ h.array.only;
      array = h.array.array;
      no_values = ap (λ v. v.entries) puts.values ∙ h.array.no_values;
      no_tables = ap (λ t. t.entries) puts.tables ∙ h.array.no_tables;
    }

-- an array that has entries can take another one
pub open-array : (n : Branch) (i : ℕ) (x : Branch) → item i (entries n) ≡ Some x → Sound n → IsOpen n
open-array n i x found h = let good = λ (j : ℕ) (c : Branch) (is : item j (entries n) ≡ Some c). good-entry n j c (sound-good n h (position j)) is in record {
  array = (shape-of n i x found).0 (sound-shape n h);
  added = λ j c is. ((good j c is).0, (good j c is).1);
  below = λ j c is. (good j c is).2;
}

-- ---- what is placed in an entry

-- in the latest one
pub reaches-entry : (k : ClaimInfo) (m : ℕ) (n new x w : Branch) (r : Result (Unit {0}) PlaceError) (cs : (Path → ℕ) → Claims) (c : (Path → ℕ) → Path → ℕ)
    → item m (entries n) ≡ Some x → PutsEntry m w n new → length (entries new) ≡ length (entries n) → Opening IsScope k x w r (cs (counts x)) (c (counts x))
    → Passes n new r (under (position m) (cs (λ p. counts n (position m ∷ p)))) (graft (position m) (counts n) (c (λ p. counts n (position m ∷ p))))
reaches-entry k m n new x w r cs c found puts many h =
    subst (λ f. Passes n new r (under (position m) (cs f)) (graft (position m) (counts n) (c f))) (sym (counts-at n (position m) (Some x) found))
    (reaches-below IsChild IsHeld IsScope (λ v. IsScope v × (infos v ≡ remember (infos x) k)) (position m) n new x w r (cs (counts x)) (c (counts x)) (graft (position m) (counts n) (c (counts x)))
    (cells-at n (position m) (Some x) found) (λ before. let g = added before.0 in (g.2, g.0))
    (on_ok r _ (λ before now. (
      cells-sets (position m) (Some w, None) n new puts.sets,
      λ same. counts-sets (position m) (Some w, None) n new (counts n) puts.sets (many ∙ sym (counts-here n)) (λ t p. refl) ∙ ap (graft (position m) (counts n)) same,
      held-put m w n new puts (open-array n m x found before.0) now.0 (subst IsEntry (sym now.1) (entry-remember (infos x) k (added before.0).1)),
    ))) h)
  where
    added : Sound n → (entries x ≡ []) × IsEntry (infos x) × Sound x
    added h = good-entry n m x (sound-good n h (position m)) found

-- in a new one, which is pushed to the list of entries if nothing fails
reaches-added : (k : ClaimInfo) (n new x w : Branch) (r : Result (Unit {0}) PlaceError) (cs : Claims) (c : Path → ℕ) → IsFresh x
    → OnOk r ((c ≡ counts x) × (k.kind ≡ TableElement) × PutsEntry (length (entries n)) w n new × (length (entries new) ≡ suc (length (entries n))))
    → Opening (Opens TableElement) k x w r cs c → Reaches IsOpen IsHeld n new r (under (position (counts n [])) cs) (counts_after_adding (counts n))
reaches-added k n new x w r cs c fresh made h =
    subst (λ i. Reaches IsOpen IsHeld n new r (under (position i) cs) (counts_after_adding (counts n))) (sym (counts-here n))
    (reaches-below IsOpen IsHeld (Opens TableElement) (λ v. IsScope v × (infos v ≡ remember (infos x) k)) (position m) n new x w r cs c (counts_after_adding (counts n))
    (cells-at n (position m) None past ∙ sym (cells-fresh x fresh)) (λ before. ((scope-fresh x fresh).0, inr (refl, fresh.no_entries))) (set r made) h)
  where
    m : ℕ
    m = length (entries n)

    past : item m (entries n) ≡ None
    past = item-past (entries n) m (omega arith)

    set : (r : Result (Unit {0}) PlaceError) → OnOk r ((c ≡ counts x) × (k.kind ≡ TableElement) × PutsEntry (length (entries n)) w n new × (length (entries new) ≡ suc (length (entries n))))
        → OnOk r (IsOpen n → IsScope w × (infos w ≡ remember (infos x) k) → (cells new ≡ graft (position m) (cells n) (cells w)) × (counts w ≡ c → counts new ≡ counts_after_adding (counts n)) × IsHeld new)
    set (Err e) made = tt
    set (Ok u) made = λ before now. (
      cells-sets (position m) (Some w, None) n new made.2.sets,
      λ same. counts-pushed m w n new made.2 past made.3 (same ∙ made.0 ∙ counts-fresh x fresh),
      held-put m w n new made.2 before now.0 (subst IsEntry (sym (now.1 ∙ ap (λ l. remember l k) fresh.no_infos)) made.1),
    )

pub reaches-pushed : (k : ClaimInfo) (n : Branch) (b : Branch-F Branch) (x w : Branch) (cs : Claims) → k.kind ≡ TableElement → IsFresh x → b.infos.items ≡ infos n → b.values ≡ (out-Branch n).values
    → b.tables ≡ (out-Branch n).tables → b.entries.items ≡ entries n ++ w ∷ [] → Opening (Opens TableElement) k x w (Ok tt) cs (counts x)
    → Reaches IsOpen IsHeld n (roll-Branch b) (Ok tt) (under (position (counts n [])) cs) (counts_after_adding (counts n))
reaches-pushed k n b x w cs entry fresh claims values tables pushed h =
    let many : length b.entries.items ≡ suc (length (entries n)) = grind (arith, nat_tests, common_steps) in
    reaches-added k n (roll-Branch b) x w (Ok tt) cs (counts x) fresh (
      refl,
      entry,
      puts (length (entries n)) w n b claims values tables (λ i. ap (item i) pushed ∙ item-push (entries n) w i),
      ap (λ (a : Branch-F Branch). length a.entries.items) (out-roll b) ∙ many,
    ) h

pub reaches-added-err : (k : ClaimInfo) (n new x w : Branch) (r q : Result (Unit {0}) PlaceError) (e : PlaceError) (cs : Claims) (c d : Path → ℕ) → IsFresh x → r ≡ Err e → q ≡ Err e
    → Opening (Opens TableElement) k x w r cs c → Reaches IsOpen IsHeld n new q (under (position (counts n [])) cs) d
reaches-added-err k n new x w r q e cs c d fresh is same h = rw same (reaches-stops IsOpen IsHeld n new new e (under (position (counts n [])) cs) (counts_after_adding (counts n)) d (reaches-added k n new x w (Err e) cs c fresh tt (rw is at h)))
