-- An element is lent.
use Rattle.toml_span_tree.proofs.Walks.{◌≡◌, ◌<◌, [], ◌∷◌, refl, w64, full_share, proved, id⊢, emp, ftrue, flft, named, vptr, fact, fact_i, tables, ‵, raw, ◌⊛◌, ◌$◌, ◌∵◌, !, qed, move, keep, use0, use2, split, split3, join, enter, addr, stop, no_more, and_then, returns, alloc_all, pass_all, free_all, look_at, get, through, sets, lands_as, usize, yes, no, uint_vals, uint_Tells, MutRef, mut_vals, mut_Tells, RattleType, plain, mut_ref_to, named_lft, calls_at, lasts, triple_of, Stays, stay_dropped, Goes-dropped, Goes-spent_ref, ends_at, framed, NamedLft, Laws, arg, layout, arg_laws, glues, bare, Dict, impl, tcons, tnil, dnil, not-mem-nil, Lfts, vec_len, slice_index_or, ◌⊑◌, ghosts, begins, ends, args, lends, group, lends_item}
use Rattle.std.specs.contracts.impls.GlobalAllocator.TheImpl.{dict}
use Rattle.toml_span_tree.proofs.pointer.item_of.Statement.{statement}
use Rattle.toml_span_tree.specs.contracts.value.Value as value
use Rattle.toml_span_tree.proofs.value.Value.TheLaws as value_laws
use Rattle.std.specs.contracts.alloc.Global as global
use Rattle.std.proofs.alloc.Global.TheLaws as global_laws
use Rattle.std.specs.contracts.vec.Vec as vec
use Rattle.std.proofs.impls.GlobalAllocator.TheImpl.Met as allocator
use Rattle.std.specs.contracts.impls.VecIndexMutUsize.index_mut as g
use Rattle.std.proofs.impls.VecIndexMutUsize.index_mut.Met as g-thm
use Rattle.toml_span_tree.specs.contracts.pointer.item_of as f
use Rattle.toml_span_tree.proofs.pointer.item_of.Code as code

abbrev a_of : Lfts 2 → NamedLft
a_of κs = named_lft 2 1 tt κs

abbrev array_row : NamedLft → RattleType
array_row a = vec.the_row (value.the_row a) global.the_row ghosts

abbrev stayed : Stays f.ended.signature.params f.ended.kept
stayed = (stay_dropped (mut_ref_to (0 ∷ []) tt (plain (λ κs. array_row (a_of κs)))) no, (stay_dropped (plain (λ _. usize)) yes, tt))

-- the types, as the call has them
module _ (a : NamedLft) where
  abbrev Z : RattleType
  Z = arg (bare (layout (value.the_row a))) no (value.the_row a)

  abbrev LZ : Laws Z
  LZ = arg_laws (bare (layout (value.the_row a))) no (value.the_row a) (value_laws.the_row_laws a) refl

abbrev A : RattleType
A = arg (bare (layout global.the_row)) no global.the_row

abbrev LA : Laws A
LA = arg_laws (bare (layout global.the_row)) no global.the_row global_laws.the_row_laws refl

abbrev drops : Dict
drops = impl ("toml_span_tree::Destruct++none::drop" ∷ []) (tcons (layout A) tnil) dnil

pub item_of_spec : {M : Type 1} → statement M
unfolding Rattle.toml_span_tree.proofs.Destruct++none.drop.Code.code
item_of_spec 𝓤 𝓛 𝓜 𝓡 wired =
    let c = f.clauses 𝓛 𝓜.mem 𝓡.returns in
    let 𝓣 = tables 𝓤 𝓛.H 𝓜 𝓡 𝓡.env in
    proved 𝓛 f.ended stayed c 𝓜 𝓡 (Goes-spent_ref 𝓛 2 (0 ∷ []) tt (plain (λ κs. array_row (a_of κs))), (Goes-dropped 𝓛 2 (plain (λ _. usize)) yes (λ κs x e. refl), tt))
    f.Key.name code.function (code.unfolded 𝓤 𝓛.H 𝓜 𝓡 wired)
    (λ κs. (mut_vals, (uint_vals w64, tt))) (λ κs. (mut_Tells (named 0) κs.0 (array_row (a_of κs)), (uint_Tells w64, tt))) (λ κs qs bounds a _ are.
    let κ = κs.0 in let q = qs.0 in let r = a.0 in let i = a.1.0 in let b = r.ref_ptr.0 in let o = r.ref_ptr.1 in let α = a_of κs in
    let R = array_row α in let V = value.the_row α in
    let tokens = ‵ (flft κ q) ⊛ ‵ (flft κs.1.0 qs.1.0) ⊛ ‵ ftrue in
    qed 𝓛 ((tokens ⊛ ‵ ((MutRef (named 0) κ R).own_val r (mut_vals r)) ⊛ ‵ (usize.own_val i (uint_vals w64 i)) ⊛ ‵ ftrue) ∷ raw (fact 𝓤 (i < vec_len r.now)) ∷ []) ∵ begins ! (λ asked.
    -- [the reference; the index; the tokens]
    enter ! _ _ _ _ _ $ alloc_all ! (λ l. pass_all ! refl ((tt, tt), ((tt, record { fits = are.1.0.1 }), tt)) $
    sets ! (addr ! (through ! refl (stop !))) refl (tt, tt) $
    let met = g-thm.met 𝓤 𝓛 𝓜 𝓡 (code.calls-std_alloc::vec::lends::VecIndexMutUsize::index_mut 𝓡.env wired) (Z α) A (LZ α) LA ghosts dict drops
    (allocator.passed 𝓡.env (code.calls-std_heap::GlobalAllocator::allocate 𝓡.env wired) (code.calls-std_heap::GlobalAllocator::deallocate 𝓡.env wired) (code.calls-std_heap::GlobalAllocator::grow 𝓡.env wired) (code.calls-std_heap::GlobalAllocator::shrink 𝓡.env wired) _ 𝓤 𝓛 𝓜 𝓡)
    (glues "toml_span_tree::Destruct++none::drop" 𝓡.env (code.calls-toml_span_tree::Destruct++none::drop 𝓡.env wired) A LA _ 𝓤 𝓛 𝓜 𝓡) in
    let E = g.ended (Z α) A ghosts dict drops in
    let G = triple_of 𝓛 E.signature (g.spec (Z α) A ghosts dict drops 𝓛 𝓜.mem 𝓡.returns) in
    let z : G.Ghost = (((κ, (κs.1.0, ([], tt))), (q, (qs.1.0, (full_share, tt))), (bounds.0, ((λ x m. absurd (not-mem-nil m)), tt)), (r, (i, tt)), (mut_vals r, (uint_vals w64 i, tt))), tt) in
    move ! (2 ∷ []) $ split3 ! $ use0 𝓛 (‵ (flft [] full_share)) (𝓛.lfts.lft-nil full_share) $ move ! (1 ∷ 2 ∷ 0 ∷ 3 ∷ []) $ group ! 4 $ move ! (1 ∷ 2 ∷ []) $ args ! $
    -- [what the call takes; the facts that it asks for]
    use0 𝓛 (raw (fact 𝓤 (i < vec_len r.now))) (fact_i 𝓤 _ (emp 𝓤) asked) $ use0 𝓛 (raw (fact 𝓤 ([] ⊑ A.lives))) (fact_i 𝓤 _ (emp 𝓤) (λ x m. m)) $ join ! $
    use0 𝓛 (raw (fact 𝓤 (κs.1.0 ⊑ (Z α).lives))) (fact_i 𝓤 _ (emp 𝓤) (value_laws.the_within α κs.1.0 (λ x m. m))) $ join ! $
    move ! (1 ∷ 0 ∷ []) $ use2 𝓛 (raw (G.pre z)) (id⊢ 𝓤 _) $
    calls_at ! (framed 𝓤 𝓛.H 𝓜 𝓣) G met z (and_then ! (get ! refl) (and_then ! (get ! refl) (no_more !))) (λ v.
    lends ! tt κ V v (‵ (flft κ q) ⊛ ‵ (flft κs.1.0 qs.1.0) ⊛ ‵ (flft [] full_share) ⊛ ‵ ftrue) (lasts E z.0.0 z.0.3) (lends_item r i) (λ x. x.now ≡ slice_index_or r.now.items i x.now) (id⊢ 𝓤 _) (λ x is vis.
    lands_as ! vis refl (tt, tt) $
    -- [the element's reference; what is lent; the tokens]
    sets ! (addr ! (through ! refl (stop !))) refl (tt, tt) $
    returns ! (look_at ! 0 refl) $ free_all ! refl $ move ! (2 ∷ []) $ split3 ! $ move ! (2 ∷ []) $ split ! $ move ! (2 ∷ 3 ∷ 1 ∷ []) $ group ! 3 $ keep ! (2 ∷ 3 ∷ 0 ∷ []) $
    ends ! (ends_at 𝓛 f.ended stayed c ((κs, qs, bounds, a, (mut_vals r, (uint_vals w64 i, tt))), tt) (vptr x.ref_ptr.0 x.ref_ptr.1) x (tt, (tt, tt)) (tt, (tt, tt))) is)))))
