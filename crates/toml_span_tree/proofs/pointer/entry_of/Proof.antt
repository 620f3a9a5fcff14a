-- The value with a key's name in a table or in an array is lent.
use Rattle.toml_span_tree.proofs.Walks.{◌≡◌, ℕ, ◌<◌, ◌+◌, [], ◌∷◌, length, refl, sym, ap, ◌∙◌, w64, MutBor, proved, id⊢, ftrue, flft, named, erased, Ty, vptr, fact, tables, ‵, raw, ◌⊛◌, at_ret, ◌$◌, ◌∵◌, !, qed, move, drop, use1, use2, split, split3, fsplit3, group, enter, of_opd, addr, stop, no_more, and_then, returns, alloc_all, pass_all, free_all, look_at, get, through, sets, sets_last, lands_as, env, yes, no, MutRef, mut_vals, mut_Tells, plain, mut_ref_to, named_lft, heard, only, calls_at, lasts, triple_of, Stays, walk_of, stay_dropped, Goes-dropped, Goes-spent_ref, ends_at, framed, NamedLft, ShrRef, shr_vals, shr_Tells, shr_ref_to, Lfts, follows, shows, mem, facts, owned, uint_vals, uint_Makes, usize, open_ref, load, fld, first, exec, switches_on, vrt, look_tag, whole, ⊎_elim, BTreeMap, Vec, Global, Some, IsSome, slice_index_or, ◌^◌, with_item, cow_str_bytes, Key, Value, Table, Array, get_member, view, inner_view, members_view, entry, lends_member, lends_item, lends_entry, begins, ends, hands, hands1, gives, lends, follows_then, after, head, arm_body, then_runs}
use mathlib.Core.Path.{subst}
use Rattle.toml_span_tree.specs.Pointer.{position_of}
use Rattle.toml_span_tree.proofs.Lent.{kind-of, table-entry, table-set, array-asks, within, array-is, array-set}
use Rattle.toml_span_tree.proofs.Loans.{so_of, so_on}
use Rattle.toml_span_tree.proofs.Payloads.{I, table_row, array_row, of_table, of_array, opened, lent}
use Rattle.toml_span_tree.proofs.pointer.entry_of.Statement.{statement}
use Rattle.toml_span_lex.specs.contracts.key.Key as key
use Rattle.toml_span_tree.specs.contracts.value.Value as value
use Rattle.toml_span_tree.specs.contracts.value.ValueInner as inner
use Rattle.toml_span_tree.proofs.value.ValueInner.TheLaws as laws
use Rattle.toml_span_tree.specs.contracts.pointer.member_of as g
use Rattle.toml_span_tree.proofs.pointer.member_of.Met as g-thm
use Rattle.toml_span_tree.specs.contracts.pointer.position_named as p
use Rattle.toml_span_tree.proofs.pointer.position_named.Met as p-thm
use Rattle.toml_span_tree.specs.contracts.pointer.item_of as h
use Rattle.toml_span_tree.proofs.pointer.item_of.Met as h-thm
use Rattle.toml_span_tree.specs.contracts.pointer.entry_of as f
use Rattle.toml_span_tree.proofs.pointer.entry_of.Code as code

abbrev a_of : Lfts 3 → NamedLft
a_of κs = named_lft 3 1 tt κs

abbrev stayed : Stays f.ended.signature.params f.ended.kept
stayed = (stay_dropped (mut_ref_to (0 ∷ []) tt (plain (λ κs. inner.the_row (a_of κs)))) no, (stay_dropped (shr_ref_to (2 ∷ []) tt (plain (λ κs. key.the_row (a_of κs)))) yes, tt))

pub entry_of_spec : {M : Type 1} → statement M
entry_of_spec 𝓤 𝓛 𝓜 𝓡 wired =
    let c = f.clauses 𝓛 𝓜.mem 𝓡.returns in
    let 𝓣 = tables 𝓤 𝓛.H 𝓜 𝓡 𝓡.env in
    let fn = code.function in
    proved 𝓛 f.ended stayed c 𝓜 𝓡 (Goes-spent_ref 𝓛 3 (0 ∷ []) tt (plain (λ κs. inner.the_row (a_of κs))), (Goes-dropped 𝓛 3 (shr_ref_to (2 ∷ []) tt (plain (λ κs. key.the_row (a_of κs)))) yes (λ κs x e. refl), tt))
    f.Key.name code.function (code.unfolded 𝓤 𝓛.H 𝓜 𝓡 wired)
    (λ κs. (mut_vals, (shr_vals, tt))) (λ κs. (mut_Tells (named 0) κs.0 (inner.the_row (a_of κs)), (shr_Tells (named 2) κs.1.1.0 (key.the_row (a_of κs)), tt))) (λ κs qs bounds a _ are.
    let κ = κs.0 in let q = qs.0 in let κ' = κs.1.0 in let q' = qs.1.0 in let κ'' = κs.1.1.0 in let q'' = qs.1.1.0 in
    let r = a.0 in let name = a.1.0 in let b = r.ref_ptr.0 in let o = r.ref_ptr.1 in let γ = r.ghost_name in let text = cow_str_bytes name.now.name in let α = a_of κs in
    let V = value.the_row α in let R = I α in let ω : Ty = laws.mir erased in
    let Y : (walk_of 𝓛 f.ended stayed c).Ghost = ((κs, qs, bounds, a, (mut_vals r, (shr_vals name, tt))), tt) in
    let Post = (walk_of 𝓛 f.ended stayed c).post Y in
    let tokens = ‵ (flft κ q) ⊛ ‵ (flft κ' q') ⊛ ‵ (flft κ'' q'') ⊛ ‵ ftrue in let two = ‵ (flft κ q) ⊛ ‵ (flft κ' q') ⊛ ‵ ftrue in
    qed 𝓛 ((tokens ⊛ ‵ ((MutRef (named 0) κ R).own_val r (mut_vals r)) ⊛ ‵ ((ShrRef (named 2) κ'' (key.the_row α)).own_val name (shr_vals name)) ⊛ ‵ ftrue)
    ∷ raw (fact 𝓤 (IsSome (entry text (inner_view r.now)))) ∷ []) ∵ begins ! (λ asked.
    -- [the reference; the key; the tokens]
    enter ! _ _ _ _ _ $ alloc_all ! (λ l. pass_all ! refl ((tt, tt), ((tt, tt), tt)) $ let En = env fn.locals l in
    move ! (2 ∷ []) $ split3 ! $ move ! (3 ∷ 0 ∷ []) $ fsplit3 ! $ drop ! $ open_ref ! tt (mem R) $
    -- [the enum, open; the open borrow, in three entries; κ'; κ''; the key]
    ⊎_elim (λ is_table. let m = is_table.0 in let F = table_row α in
    opened ! (of_table α) r.now m is_table.1 b o ω refl (λ us.
    first ! $ switches_on ! (load ! (through ! refl (vrt ! refl (fld ! refl (stop !)))) (look_tag ! 0 (whole !))) $
    exec ! 𝓣.C 𝓣.Λ En (arm_body 0 (head fn.body)) (then_runs 𝓛 𝓣.C 𝓣.Λ En (after 1 fn.body) (at_ret En Post)) $
    lent ! tt (of_table α) m κ q γ b o ω refl (λ δ.
    let t : MutBor (BTreeMap Key Value) = record { ref_ptr = (b, o + 8); ghost_name = δ; now = m } in
    -- [the entries' reference; κ; what is lent; κ'; κ''; the key]
    sets ! (addr ! (through ! refl (vrt ! refl (fld ! refl (stop !))))) refl (tt, tt) $
    sets ! (addr ! (through ! refl (stop !))) refl (tt, tt) $
    let G = triple_of 𝓛 g.signature (g.spec 𝓛 𝓜.mem 𝓡.returns) in
    let z : G.Ghost = ((κs, qs, bounds, (t, (name, tt)), (mut_vals t, (shr_vals name, tt))), tt) in
    move ! (1 ∷ 3 ∷ 4 ∷ []) $ group ! 3 $ move ! (1 ∷ 3 ∷ 0 ∷ []) $ hands ! (subst IsSome (table-entry r.now m text is_table.1) asked) (G.pre z) (id⊢ 𝓤 _) $
    calls_at ! (framed 𝓤 𝓛.H 𝓜 𝓣) G (g-thm.met 𝓤 𝓛 𝓜 𝓡 (code.calls-toml_span_tree::pointer::member_of 𝓡.env wired)) z (and_then ! (get ! refl) (and_then ! (get ! refl) (no_more !))) (λ v.
    lends ! tt κ V v tokens (lasts g.ended κs z.0.3) (lends_member t text) (λ y. get_member text (members_view m.entries) ≡ Some (view y.now)) (id⊢ 𝓤 _) (λ y there vis. lands_as ! vis refl (tt, tt) $
    -- [the value's reference; what is lent of the entries; the tokens; what is lent of the enum]
    sets_last ! (addr ! (through ! refl (stop !))) refl (tt, tt) $
    exec ! 𝓣.C 𝓣.Λ En (after 1 fn.body) (at_ret En Post) $
    sets ! (of_opd ! (get ! refl)) refl (tt, tt) $
    move ! (3 ∷ 1 ∷ []) $ use2 𝓛 (‵ (lends_entry r text y)) (so_on 𝓛 R F V r t y Table _ _ (λ w n. table-set r.now m text w n is_table.1)) $
    returns ! (look_at ! 0 refl) $ free_all ! refl $ move ! (1 ∷ []) $
    ends ! (ends_at 𝓛 f.ended stayed c Y (vptr y.ref_ptr.0 y.ref_ptr.1) y (tt, (tt, tt)) (tt, (tt, tt))) (table-entry r.now m text is_table.1 ∙ there))))))
    (λ is_array. let m = is_array.0 in let F = array_row α in let at = array-asks r.now m text is_array.1 asked in let i = at.0 in
    opened ! (of_array α) r.now m is_array.1 b o ω refl (λ us.
    first ! $ switches_on ! (load ! (through ! refl (vrt ! refl (fld ! refl (stop !)))) (look_tag ! 0 (whole !))) $
    exec ! 𝓣.C 𝓣.Λ En (arm_body 1 (head fn.body)) (then_runs 𝓛 𝓣.C 𝓣.Λ En (after 1 fn.body) (at_ret En Post)) $
    lent ! tt (of_array α) m κ q γ b o ω refl (λ δ.
    let t : MutBor (Vec Value Global) = record { ref_ptr = (b, o + 8); ghost_name = δ; now = m } in
    -- [the elements' reference; κ; what is lent; κ'; κ''; the key]
    sets ! (addr ! (through ! refl (vrt ! refl (fld ! refl (stop !))))) refl (tt, tt) $
    let N = triple_of 𝓛 p.signature (p.spec 𝓛 𝓜.mem 𝓡.returns) in
    let zn : N.Ghost = (((κ'', (κ', tt)), (q'', (q', tt)), (bounds.1.0, tt), (name, tt), (shr_vals name, tt)), tt) in
    move ! (4 ∷ []) $ split ! $ move ! (0 ∷ 5 ∷ 1 ∷ []) $ group ! 3 $ move ! (4 ∷ 0 ∷ []) $ hands1 ! (id⊢ 𝓤 _) (N.pre zn) (id⊢ 𝓤 _) $
    calls_at ! (framed 𝓤 𝓛.H 𝓜 𝓣) N (p-thm.met 𝓤 𝓛 𝓜 𝓡 (code.calls-toml_span_tree::pointer::position_named 𝓡.env wired)) zn (and_then ! (get ! refl) (no_more !)) (λ v₀.
    gives ! tt usize v₀ (‵ (flft κ'' q'') ⊛ ‵ (flft κ' q') ⊛ ‵ ftrue) (lasts p.ended zn.0.0 zn.0.3) (λ j. raw (fact 𝓤 ((n : ℕ) → position_of text ≡ Some n → n < 2 ^ 64 → j ≡ n))) (id⊢ 𝓤 _) (λ j.
    heard ! _ (λ told. facts ! usize _ (shows 𝓛 usize) j (v₀ ∷ []) (λ isu.
    let same : j ≡ i = told i at.1 (within m i at.2).1 in
    let pos : position_of text ≡ Some j = at.1 ∙ ap Some (sym same) in let less : j < length m.items = subst (λ (u : ℕ). u < length m.items) (sym same) at.2 in
    lands_as ! (ap only isu.0) refl (tt, record { fits = isu.1 }) $
    -- [κ'', κ' and nothing; the elements' reference; κ; what is lent]
    sets ! (addr ! (through ! refl (stop !))) refl (tt, tt) $
    let G = triple_of 𝓛 h.signature (h.spec 𝓛 𝓜.mem 𝓡.returns) in
    let z : G.Ghost = (((κ, (κ', tt)), (q, (q', tt)), (bounds.0, tt), (t, (j, tt)), (mut_vals t, (uint_vals w64 j, tt))), tt) in
    split3 ! $ move ! (4 ∷ 1 ∷ 2 ∷ []) $ group ! 3 $ owned ! usize _ (uint_Makes 𝓛 w64) j (uint_vals w64 j) (refl, isu.1) $ move ! (3 ∷ 0 ∷ 1 ∷ []) $
    hands ! (within m j less).0 (G.pre z) (id⊢ 𝓤 _) $
    calls_at ! (framed 𝓤 𝓛.H 𝓜 𝓣) G (h-thm.met 𝓤 𝓛 𝓜 𝓡 (code.calls-toml_span_tree::pointer::item_of 𝓡.env wired)) z (and_then ! (get ! refl) (and_then ! (get ! refl) (no_more !))) (λ v.
    lends ! tt κ V v two (lasts h.ended z.0.0 z.0.3) (lends_item t j) (λ y. y.now ≡ slice_index_or m.items j y.now) (id⊢ 𝓤 _) (λ y there vis. lands_as ! vis refl (tt, tt) $
    -- [the value's reference; what is lent of the elements; the tokens of κ and κ'; κ''; what is lent of the enum]
    sets_last ! (addr ! (through ! refl (stop !))) refl (tt, tt) $
    exec ! 𝓣.C 𝓣.Λ En (after 1 fn.body) (at_ret En Post) $
    sets ! (of_opd ! (get ! refl)) refl (tt, tt) $
    move ! (4 ∷ 1 ∷ []) $ use2 𝓛 (‵ (follows R V γ y.ghost_name (λ w. Array (with_item m j w)))) (follows_then 𝓛 R F V Array (with_item m j) γ δ y.ghost_name) $
    use1 𝓛 (‵ (lends_entry r text y)) (so_of 𝓛 R V r y (λ w. Array (with_item m j w)) _ (λ w. array-set r.now m text j w is_array.1 pos)) $
    returns ! (look_at ! 0 refl) $ free_all ! refl $ move ! (2 ∷ []) $ split3 ! $ move ! (0 ∷ 1 ∷ 5 ∷ 2 ∷ []) $ group ! 4 $ move ! (2 ∷ 1 ∷ []) $
    ends ! (ends_at 𝓛 f.ended stayed c Y (vptr y.ref_ptr.0 y.ref_ptr.1) y (tt, (tt, tt)) (tt, (tt, tt))) (array-is r.now m text j y.now is_array.1 pos less there))))))))))
    (kind-of r.now text asked))))
