-- A value that is assigned to a name.
use Rattle.std.specs.Option.{option_or}
use Rattle.toml_span_lex.proofs.Common.{◌≡◌, ℕ, cond, List, [], ◌∷◌, Option, Some, None, Result, Ok, Err, refl, sym, ap, ◌∙◌, subst, insert_entry, lookup_entry, bytes_eq, none-some, arith, nat_tests, common_steps}
use Rattle.toml_span_read.proofs.EarlierTree.{key_cmp}
use Rattle.toml_span_lex.specs.declared.key.Key.{Key}
use Rattle.toml_span_tree.specs.Path.{Path, Step, key, position}
use Rattle.toml_span_tree.specs.Value.{view}
use Rattle.toml_span_tree.specs.declared.value.Value.{Value}
use Rattle.toml_span_read.specs.Data.{ParsedValue as Read, parsed_span, simple_key}
use Rattle.toml_span.specs.code.ClaimInfos.{PlaceError}
use Rattle.toml_span_lex.specs.declared.stop.Stop.TheVariants.{Memory, Fault}
use Rattle.toml_span.specs.declared.claims.ClaimInfo.{ClaimInfo}
use Rattle.toml_span.specs.declared.claims.ClaimKind.TheVariants.{Assigned}
use Rattle.toml_span.specs.declared.branch.Branch.{Branch}
use Rattle.toml_span.specs.declared.branch.Branch.TheViews.{out-Branch, roll-Branch}
use Rattle.toml_span.specs.declared.branch.Branch.TheOpen.{Branch-F}
use Rattle.toml_span_read.specs.Paths.{same_path, same_step}
use Rattle.toml_span.specs.Claims.{claimed, assigned, pair_info, value_claims}
use Rattle.toml_span.specs.code.Machine.{Cell, CellMap, no_cells, change, with_claim, OkOrClash, earliest_clash, clash_found, show_all, put_all, graft}
use Rattle.toml_span.specs.code.Placing.{Places, IsFinished, ValueGives}
use Rattle.toml_span.specs.code.Relative.{pair_at}
use Rattle.toml_span.specs.code.Tree.{child_in, infos, entries, child, closed, closed_in, closed_cell, child_infos, item, cells, cell_at, counts, value_cell, value_shows, IsScope}
use Rattle.toml_span_lex.specs.Key.{is_named}
use Rattle.toml_span.proofs.Grafts.{fun_ext, graft-itself, reported-under, put_all-under}
use Rattle.toml_span.proofs.Nodes.{Sets, cells-at, cells-sets, counts-at, counts-named, scope-named, sets-roll, slot, slot_in}
use Rattle.toml_span.proofs.Placed.{assigned_twice, cond-same, cond-slot, gives-err, held-child, infos-found, met-first, named-clashes, places-refused}
use Rattle.toml_span.proofs.KeyMaps.{holds-insert}
use Rattle.toml_span.proofs.Shown.{show_all-infos}
use Rattle.toml_span.proofs.Values.{put_all-value, reported-value, value-shown}

-- ---- where it clashes

abbrev value_info : Key → Read → ClaimInfo
value_info k v = pair_info Assigned k.span (parsed_span v)

-- with a branch of its name
pub refused-child : (n new : Branch) (k : Key) (v : Read) (q : Result (Unit {0}) PlaceError) (e : PlaceError) (m : ClaimInfo) (P : Unit {0} → Type 0) (d : Path → ℕ)
    → m ≡ value_info k v → q ≡ Err e → OkOrClash (Err e) (earliest_clash (child_infos (child (simple_key k).name n)) m (simple_key k).name) P → Places n new q (pair_at [] (simple_key k) v) d
unfolding pair_at cell_at
refused-child n new k v q (Memory e) m P d same is h = rw is (λ before. tt)
refused-child n new k v q (Fault t) m P d same is h =
    rw is (places-refused n new (simple_key k).name (Err (Fault t)) (assigned [] (simple_key k) v) (value_claims v []) P d refl
    (λ before. (tt, go (child (simple_key k).name n) refl (rw same at h))))
  where
    go : (o : Option Branch) → child (simple_key k).name n ≡ o → OkOrClash (Err (Fault t)) (earliest_clash (child_infos o) (value_info k v) (simple_key k).name) P
        → OkOrClash (Err (Fault t)) (earliest_clash (cells n (key (simple_key k).name ∷ [])).infos (value_info k v) (simple_key k).name) P
    go None c h = absurd (none-some _ h)
    go (Some x) c h = ap (λ f. earliest_clash (f []).infos (value_info k v) (simple_key k).name) (cells-at n (key (simple_key k).name) (Some x) c) ∙ h

-- if it does not, there is no branch of that name
pub missing-free : (n : Branch) (k : List ℕ) (m : ClaimInfo) (name : List ℕ) → IsScope n → m.kind ≡ Assigned → earliest_clash (child_infos (child k n)) m name ≡ None → child k n ≡ None
missing-free n k m name before is h = go (child k n) refl
  where
    go : (o : Option Branch) → child k n ≡ o → o ≡ None
    go None c = refl
    go (Some x) c =
        let named = (held-child n x k c before).1 in
        let none : earliest_clash (infos x) m name ≡ None = ap (λ o. earliest_clash (child_infos o) m name) (sym c) ∙ h in
        grind (arith, nat_tests, common_steps, met-first, named-clashes)

-- with a value of the same name
pub refused-value : (n new : Branch) (k earlier : Key) (x : Value) (v : Read) (r : Result (Unit {0}) PlaceError) (ms : List ClaimInfo) (m : ClaimInfo) (name : List ℕ) (P : Unit {0} → Type 0) (d : Path → ℕ)
    → (IsScope n → child (simple_key k).name n ≡ None) → closed (simple_key k).name n ≡ Some (earlier, x) → ms ≡ pair_info Assigned earlier.span x.span ∷ [] → name ≡ (simple_key k).name
    → m ≡ value_info k v → OkOrClash r (earliest_clash ms m name) P → Places n new r (pair_at [] (simple_key k) v) d
unfolding pair_at
refused-value n new k earlier x v r ms m name P d missing found is same info h =
    let at = pair_info Assigned earlier.span x.span in
    places-refused n new (simple_key k).name r (assigned [] (simple_key k) v) (value_claims v []) P d refl (λ before.
    let given : OkOrClash r (earliest_clash (at ∷ []) (value_info k v) (simple_key k).name) P = rw (is, info, same) at h in
    let there = ap (λ f. (f []).infos) (cells-at n (key (simple_key k).name) None (missing before)) ∙ infos-found _ earlier x _ found refl in
    (assigned_twice r at (value_info k v) _ _ ⊥ refl refl given, rw there given))

-- ---- the claims of a value in a scope that has none of its name

cell-is : (a b : Cell) → a.infos ≡ b.infos → a.shown ≡ b.shown → a ≡ b
cell-is a b m s = λ i. record { infos = m i; shown = s i }

-- a finished value shows what was claimed
value-cells : (k : Key) (x : Value) (v : Read) → IsFinished v x → value_cell k.span (view x) ≡ put_all (change no_cells [] (with_claim (assigned [] (simple_key k) v))) (value_claims v [])
unfolding change same_path
value-cells k x v h = fun_ext at ∙ sym (put_all-value (change no_cells [] (with_claim (assigned [] (simple_key k) v))) v [])
  where
    st : CellMap
    st = change no_cells [] (with_claim (assigned [] (simple_key k) v))

    own : (p : Path) → (value_cell k.span (view x) p).infos ≡ (st p).infos
    own [] = ap (λ y. pair_info Assigned k.span y.span ∷ []) (h.0 (Some k.span))
    own (s ∷ q) = refl

    shows : (p : Path) → (value_cell k.span (view x) p).shown ≡ value_shows (Some k.span) (view x) p
    shows [] = refl
    shows (s ∷ q) = refl

    at : (p : Path) → value_cell k.span (view x) p ≡ show_all st (value_claims v []) p
    at p =
        cell-is (value_cell k.span (view x) p) (show_all st (value_claims v []) p) (own p ∙ sym (show_all-infos st (value_claims v []) p))
        (shows p ∙ sym (value-shown v x (Some k.span) (with_claim (assigned [] (simple_key k) v)) h refl p))

-- ---- a value of a new name

-- its clashes are those inside the value
reported-free : (n : Branch) (k : Key) (v : Read) → child (simple_key k).name n ≡ None → closed (simple_key k).name n ≡ None → clash_found (cells n) (pair_at [] (simple_key k) v) ≡ clash_found no_cells (value_claims v [])
unfolding clash_found pair_at
reported-free n k v missing free =
    let name = (simple_key k).name in
    let own = λ (f : CellMap). clash_found (change f [] (with_claim (assigned [] (simple_key k) v))) (value_claims v []) in
    reported-under (key name) (cells n) (claimed (assigned [] (simple_key k) v) (value_claims v []))
    ∙ ap (λ f. option_or (earliest_clash (f []).infos (value_info k v) name) (own (λ q. cells n (key name ∷ q)))) (cells-at n (key name) None missing ∙ ap closed_cell free)
    ∙ reported-value (change (λ q. cells n (key name ∷ q)) [] (with_claim (assigned [] (simple_key k) v))) v []

pub assigned-err : (n new : Branch) (k : Key) (v : Read) (value : Result Value PlaceError) (q : Result (Unit {0}) PlaceError) (e : PlaceError) (m : ClaimInfo) (d : Path → ℕ)
    → m.kind ≡ Assigned → earliest_clash (child_infos (child (simple_key k).name n)) m (simple_key k).name ≡ None → closed (simple_key k).name n ≡ None → value ≡ Err e → q ≡ Err e
    → ValueGives value v → Places n new q (pair_at [] (simple_key k) v) d
assigned-err n new k v value q e m d kind admitted free was is h before = grind (arith, nat_tests, common_steps, gives-err, missing-free, reported-free)

pub assigned-ok : (n new : Branch) (k : Key) (x : Value) (v : Read) (value : Result Value PlaceError) (m : ClaimInfo)
    → m.kind ≡ Assigned → earliest_clash (child_infos (child (simple_key k).name n)) m (simple_key k).name ≡ None → closed (simple_key k).name n ≡ None → value ≡ Ok x
    → ValueGives value v → Sets (key (simple_key k).name) (child (simple_key k).name n, Some (k, x)) n new → Places n new (Ok tt) (pair_at [] (simple_key k) v) (counts n)
unfolding pair_at put_all
assigned-ok n new k x v value m kind admitted free was h sets before =
    let name = (simple_key k).name in
    let given : ValueGives (Ok x) v = rw was at h in
    let missing = missing-free n name m name before kind admitted in
    let none : (λ p. cells n (key name ∷ p)) ≡ no_cells = cells-at n (key name) None missing ∙ ap closed_cell free in
    let own = λ (f : CellMap). put_all (change f [] (with_claim (assigned [] (simple_key k) v))) (value_claims v []) in
    let now : Sets (key name) (None, Some (k, x)) n new = subst (λ o. Sets (key name) (o, Some (k, x)) n new) missing sets in (
      reported-free n k v missing free ∙ given.0,
      (
        cells-sets (key name) (None, Some (k, x)) n new now ∙ ap (graft (key name) (cells n)) (value-cells k x v given.1 ∙ ap own (sym none))
            ∙ sym (put_all-under (key name) (cells n) (claimed (assigned [] (simple_key k) v) (value_claims v []))),
        counts-named name (None, Some (k, x)) n new now before ∙ ap (graft (key name) (counts n)) (sym (counts-at n (key name) None missing)) ∙ graft-itself (key name) (counts n),
        scope-named name (None, Some (k, x)) n new now given.1.2 before,
      ),
    )

-- the map of the values after `insert`
pub sets-value : (n : Branch) (b : Branch-F Branch) (k : Key) (x : Value) → closed (simple_key k).name n ≡ None → b.infos.items ≡ infos n → b.entries.items ≡ entries n
    → b.tables ≡ (out-Branch n).tables → b.values.entries ≡ insert_entry key_cmp (out-Branch n).values.entries k x → Sets (key (simple_key k).name) (child (simple_key k).name n, Some (k, x)) n (roll-Branch b)
sets-value n b k x free claims added tables written = sets-roll (key (simple_key k).name) (child (simple_key k).name n, Some (k, x)) n b claims at
  where
    at : (t : Step) → slot_in t b ≡ cond (same_step (key (simple_key k).name) t) (child (simple_key k).name n, Some (k, x)) (slot t n)
    at (key name) =
        let here : closed_in name b.values ≡ cond (bytes_eq (simple_key k).name name) (Some (k, x)) (closed name n) = ap (lookup_entry (is_named name)) written ∙ holds-insert k x (out-Branch n).values.entries free name in
        let rest : child_in name b.tables ≡ cond (bytes_eq (simple_key k).name name) (child (simple_key k).name n) (child name n) = ap (child_in name) tables ∙ cond-same (simple_key k).name name (λ l. child l n) in
        grind (arith, nat_tests, common_steps, cond-slot)
    at (position i) = ap (λ ns. (item i ns, None)) added
