-- The value with a key's name is lent.
use Rattle.toml_span_tree.proofs.Walks.{◌≡◌, [], ◌∷◌, refl, proved, id⊢, emp, ftrue, flft, named, vptr, fact, fact_i, tables, ‵, raw, ◌⊛◌, ◌$◌, ◌∵◌, !, qed, move, use2, split, split3, enter, addr, stop, no_more, and_then, returns, alloc_all, pass_all, free_all, look_at, get, through, sets, lands_as, yes, no, MutRef, mut_vals, mut_Tells, plain, mut_ref_to, named_lft, calls_at, lasts, triple_of, Stays, stay_dropped, Goes-dropped, Goes-spent_ref, ends_at, framed, NamedLft, ShrRef, shr_vals, shr_Tells, shr_ref_to, Lfts, Some, IsSome, cow_str_bytes, view, inner_view, entry, untaken_entry, lends_entry, lends_child, begins, ends, hands, hands1, lends, group}
use Rattle.toml_span_tree.proofs.Lent.{held-of, entry-under, child-is, child-set}
use Rattle.toml_span_tree.proofs.Loans.{so_on}
use Rattle.toml_span_tree.specs.code.Lending.{lends_inner}
use Rattle.toml_span_tree.proofs.pointer.child_of.Statement.{statement}
use Rattle.toml_span_lex.specs.contracts.key.Key as key
use Rattle.toml_span_tree.specs.contracts.value.Value as value
use Rattle.toml_span_tree.specs.contracts.value.ValueInner as inner
use Rattle.toml_span_tree.specs.contracts.pointer.inner_of as g
use Rattle.toml_span_tree.proofs.pointer.inner_of.Met as g-thm
use Rattle.toml_span_tree.specs.contracts.pointer.entry_of as h
use Rattle.toml_span_tree.proofs.pointer.entry_of.Met as h-thm
use Rattle.toml_span_tree.specs.contracts.pointer.child_of as f
use Rattle.toml_span_tree.proofs.pointer.child_of.Code as code

abbrev a_of : Lfts 3 → NamedLft
a_of κs = named_lft 3 1 tt κs

abbrev stayed : Stays f.ended.signature.params f.ended.kept
stayed = (stay_dropped (mut_ref_to (0 ∷ []) tt (plain (λ κs. value.the_row (a_of κs)))) no, (stay_dropped (shr_ref_to (2 ∷ []) tt (plain (λ κs. key.the_row (a_of κs)))) yes, tt))

pub child_of_spec : {M : Type 1} → statement M
child_of_spec 𝓤 𝓛 𝓜 𝓡 wired =
    let c = f.clauses 𝓛 𝓜.mem 𝓡.returns in
    let 𝓣 = tables 𝓤 𝓛.H 𝓜 𝓡 𝓡.env in
    proved 𝓛 f.ended stayed c 𝓜 𝓡 (Goes-spent_ref 𝓛 3 (0 ∷ []) tt (plain (λ κs. value.the_row (a_of κs))), (Goes-dropped 𝓛 3 (shr_ref_to (2 ∷ []) tt (plain (λ κs. key.the_row (a_of κs)))) yes (λ κs x e. refl), tt))
    f.Key.name code.function (code.unfolded 𝓤 𝓛.H 𝓜 𝓡 wired)
    (λ κs. (mut_vals, (shr_vals, tt))) (λ κs. (mut_Tells (named 0) κs.0 (value.the_row (a_of κs)), (shr_Tells (named 2) κs.1.1.0 (key.the_row (a_of κs)), tt))) (λ κs qs bounds a _ are.
    let κ = κs.0 in let q = qs.0 in let κ' = κs.1.0 in let q' = qs.1.0 in let κ'' = κs.1.1.0 in let q'' = qs.1.1.0 in
    let r = a.0 in let name = a.1.0 in let text = cow_str_bytes name.now.name in let α = a_of κs in let V = value.the_row α in let I = inner.the_row α in
    let tokens = ‵ (flft κ q) ⊛ ‵ (flft κ' q') ⊛ ‵ (flft κ'' q'') ⊛ ‵ ftrue in
    let two = ‵ (flft κ q) ⊛ ‵ (flft κ' q') ⊛ ‵ ftrue in
    qed 𝓛 ((tokens ⊛ ‵ ((MutRef (named 0) κ V).own_val r (mut_vals r)) ⊛ ‵ ((ShrRef (named 2) κ'' (key.the_row α)).own_val name (shr_vals name)) ⊛ ‵ ftrue)
    ∷ raw (fact 𝓤 (IsSome (untaken_entry text (view r.now)))) ∷ []) ∵ begins ! (λ asked.
    -- [the reference; the key; the tokens]
    enter ! _ _ _ _ _ $ alloc_all ! (λ l. pass_all ! refl ((tt, tt), ((tt, tt), tt)) $
    sets ! (addr ! (through ! refl (stop !))) refl (tt, tt) $
    let G = triple_of 𝓛 g.signature (g.spec 𝓛 𝓜.mem 𝓡.returns) in
    let z : G.Ghost = (((κ, (κ', tt)), (q, (q', tt)), (bounds.0, tt), (r, tt), (mut_vals r, tt)), tt) in
    move ! (2 ∷ []) $ split3 ! $ move ! (2 ∷ []) $ split ! $ move ! (2 ∷ 3 ∷ 1 ∷ []) $ group ! 3 $ move ! (2 ∷ 0 ∷ []) $
    hands1 ! (fact_i 𝓤 _ (emp 𝓤) (held-of r.now text asked)) (G.pre z) (id⊢ 𝓤 _) $
    calls_at ! (framed 𝓤 𝓛.H 𝓜 𝓣) G (g-thm.met 𝓤 𝓛 𝓜 𝓡 (code.calls-toml_span_tree::pointer::inner_of 𝓡.env wired)) z (and_then ! (get ! refl) (no_more !)) (λ v.
    lends ! tt κ I v two (lasts g.ended z.0.0 z.0.3) (lends_inner r) (λ x. r.now.value ≡ Some x.now) (id⊢ 𝓤 _) (λ x is vis. lands_as ! vis refl (tt, tt) $
    -- [the inner reference; what is lent; the tokens of κ and κ'; κ''; the key]
    sets ! (addr ! (through ! refl (stop !))) refl (tt, tt) $
    let G' = triple_of 𝓛 h.signature (h.spec 𝓛 𝓜.mem 𝓡.returns) in
    let z' : G'.Ghost = ((κs, qs, bounds, (x, (name, tt)), (mut_vals x, (shr_vals name, tt))), tt) in
    move ! (2 ∷ []) $ split3 ! $ move ! (0 ∷ 1 ∷ 5 ∷ 2 ∷ []) $ group ! 4 $ move ! (1 ∷ 3 ∷ 0 ∷ []) $
    hands ! (entry-under r.now x.now text is asked) (G'.pre z') (id⊢ 𝓤 _) $
    calls_at ! (framed 𝓤 𝓛.H 𝓜 𝓣) G' (h-thm.met 𝓤 𝓛 𝓜 𝓡 (code.calls-toml_span_tree::pointer::entry_of 𝓡.env wired)) z' (and_then ! (get ! refl) (and_then ! (get ! refl) (no_more !))) (λ v'.
    lends ! tt κ V v' tokens (lasts h.ended κs z'.0.3) (lends_entry x text) (λ y. entry text (inner_view x.now) ≡ Some (view y.now)) (id⊢ 𝓤 _) (λ y there vis'. lands_as ! vis' refl (tt, tt) $
    move ! (3 ∷ 1 ∷ []) $
    use2 𝓛 (‵ (lends_child r text y)) (so_on 𝓛 V I V r x y (λ w. record { value = Some w; span = r.now.span }) _ _ (λ w t m. child-set r.now x.now text w t is m)) $
    returns ! (look_at ! 0 refl) $ free_all ! refl $ move ! (1 ∷ []) $
    ends ! (ends_at 𝓛 f.ended stayed c ((κs, qs, bounds, a, (mut_vals r, (shr_vals name, tt))), tt) (vptr y.ref_ptr.0 y.ref_ptr.1) y (tt, (tt, tt)) (tt, (tt, tt))) (child-is r.now x.now text (view y.now) is asked there))))))))
