-- The value at a key is lent.
use Rattle.toml_span_tree.proofs.Walks.{◌∙◌, ap, ◌≡◌, [], ◌∷◌, refl, lit<, full_share, Bor, MutBor, proved, id⊢, emp, ftrue, flft, named, vptr, fact, fact_i, tables, ‵, raw, ◌⊛◌, at_ret, ◌$◌, ◌∵◌, !, qed, move, keep, drop, use0, use1, use2, split, split3, join, rewrite, enter, of_opd, addr, stop, no_more, and_then, returns, alloc_all, pass_all, free_all, look_at, get, through, sets, sets_last, lands_as, env, yes, no, MutRef, mut_vals, mut_Tells, RattleType, follows_so, plain, mut_ref_to, named_lft, nothing, heard, calls_at, lasts, triple_of, Stays, walk_of, stay_dropped, Goes-dropped, Goes-spent_ref, ends_at, framed, NamedLft, ShrRef, shr_vals, shr_Tells, shr_ref_to, arg, layout, Laws, arg_laws, arg_copy, of_field, of_copyable, glues, bare, Dict, impl, tcons, tnil, dnil, not-mem-nil, left, right, Lfts, ◌⊑◌, ⊑_meet, BTreeMap, Option, IsSome, Key, Value, ⊤, get_tag, get_in, vrt, in_variant, whole, fld, first, exec, switches_on, after, head, arm_body, then_runs, lends_member, begins, ends, args, gives, group, cow_str_bytes, get_member, members_view}
use denote.Struct.Field.{shr_ref_field}
use denote.Struct.Laws.{shr_ref_laws, shr_ref_copy}
use denote.Param.Laws.{IsCopy}
use denote.Param.Shared.{copy_shared}
use Rattle.std.specs.declared.collections.btree_map.Comparable.{Ghosts}
use Rattle.std.specs.Option.{ghost_name_of, IfSome}
use Rattle.std.specs.Map.{lookup}
use Rattle.std.specs.List.{IsAmong}
use Rattle.std.specs.BTreeMap.{WritesThrough, values, IsOrdered}
use Rattle.std.specs.Prelude.{option_map}
use Rattle.toml_span_tree.proofs.Values.{at_name}
use Rattle.toml_span_tree.proofs.Lent.{member-some}
use Rattle.toml_span_tree.proofs.Puts.{member-is, view-set_value}
use Rattle.toml_span_tree.proofs.Loans.{so_some, some_opened, held}
use Rattle.toml_span_tree.proofs.pointer.member_of.Statement.{statement}
use Rattle.toml_span_tree.specs.contracts.value.Value as value
use Rattle.toml_span_tree.proofs.value.Value.TheLaws as value_laws
use Rattle.toml_span_lex.specs.contracts.key.Key as key
use Rattle.toml_span_lex.proofs.key.Key.TheLaws as key_laws
use Rattle.std.specs.contracts.option.Option as O
use Rattle.std.specs.contracts.alloc.Global as global
use Rattle.std.proofs.alloc.Global.TheLaws as global_laws
use Rattle.std.specs.contracts.collections.BTreeMap as tree
use Rattle.std.specs.contracts.impls.GlobalAllocator.TheImpl as heap
use Rattle.std.proofs.impls.GlobalAllocator.TheImpl.Met as allocator
use Rattle.std.specs.contracts.impls.RefComparable.TheImpl as query
use Rattle.std.proofs.impls.RefComparable.TheImpl.Met as query-met
use Rattle.std.specs.contracts.prelude.RefClone.TheImpl as ref_clone
use Rattle.std.proofs.prelude.RefClone.TheImpl.Met as ref_clone-met
use Rattle.toml_span_lex.specs.contracts.key.KeyEq.TheImpl as is_eq
use Rattle.toml_span_lex.specs.contracts.key.KeyOrd.TheImpl as ord
use Rattle.toml_span_lex.specs.contracts.key.KeyPartialEq.TheImpl as eq
use Rattle.toml_span_lex.specs.contracts.key.KeyPartialOrd.TheImpl as partial_ord
use Rattle.toml_span_lex.proofs.key.KeyEq.TheImpl.Met as is_eq-met
use Rattle.toml_span_lex.proofs.key.KeyOrd.TheImpl.Met as ord-met
use Rattle.toml_span_lex.proofs.key.KeyPartialEq.TheImpl.Met as eq-met
use Rattle.toml_span_lex.proofs.key.KeyPartialOrd.TheImpl.Met as partial_ord-met
use Rattle.std.specs.contracts.collections.BTreeMap.get_mut as g
use Rattle.std.proofs.collections.BTreeMap.get_mut.Met as g-thm
use Rattle.toml_span_tree.specs.contracts.pointer.member_of as f
use Rattle.toml_span_tree.proofs.pointer.member_of.Code as code

abbrev a_of : Lfts 3 → NamedLft
a_of κs = named_lft 3 1 tt κs

abbrev table_row : NamedLft → RattleType
table_row a = tree.the_row (key.the_row a) (value.the_row a) global.the_row ord.ghosts eq.ghosts partial_ord.ghosts heap.ghosts

abbrev stayed : Stays f.ended.signature.params f.ended.kept
stayed = (stay_dropped (mut_ref_to (0 ∷ []) tt (plain (λ κs. table_row (a_of κs)))) no, (stay_dropped (shr_ref_to (2 ∷ []) tt (plain (λ κs. key.the_row (a_of κs)))) yes, tt))

-- the types, as the call has them
module _ (a : NamedLft) where
  abbrev K : RattleType
  K = arg (bare (layout (key.the_row a))) no (key.the_row a)

  abbrev LK : Laws K
  LK = arg_laws (bare (layout (key.the_row a))) no (key.the_row a) (key_laws.the_row_laws a) refl

  abbrev V : RattleType
  V = arg (bare (layout (value.the_row a))) no (value.the_row a)

  abbrev LV : Laws V
  LV = arg_laws (bare (layout (value.the_row a))) no (value.the_row a) (value_laws.the_row_laws a) refl

  abbrev compares : Ghosts (Bor Key) Key
  compares = query.ghosts K ord.ghosts ord.dict is_eq.ghosts is_eq.dict eq.ghosts eq.dict partial_ord.ghosts partial_ord.dict

  abbrev compares_dict : Dict
  compares_dict = query.dict K ord.ghosts ord.dict is_eq.ghosts is_eq.dict eq.ghosts eq.dict partial_ord.ghosts partial_ord.dict

  module _ (k : NamedLft) where
    abbrev Q : RattleType
    Q = arg (bare (layout (shr_ref_field k (key.the_row a) tt).row)) no (shr_ref_field k (key.the_row a) tt).row

    abbrev LQ : Laws Q
    LQ = arg_laws (bare (layout (shr_ref_field k (key.the_row a) tt).row)) no (shr_ref_field k (key.the_row a) tt).row
        (of_field (shr_ref_field k (key.the_row a) tt) (shr_ref_laws k (key.the_row a) tt) refl (copy_shared (shr_ref_field k (key.the_row a) tt) (shr_ref_copy k (key.the_row a) tt (key_laws.the_row_laws a).shr_laws))) refl

    abbrev CQ : IsCopy Q
    CQ = arg_copy (bare (layout (shr_ref_field k (key.the_row a) tt).row)) no (shr_ref_field k (key.the_row a) tt).row
        (of_copyable (shr_ref_field k (key.the_row a) tt) (shr_ref_copy k (key.the_row a) tt (key_laws.the_row_laws a).shr_laws)) refl

abbrev A : RattleType
A = arg (bare (layout global.the_row)) no global.the_row

abbrev LA : Laws A
LA = arg_laws (bare (layout global.the_row)) no global.the_row global_laws.the_row_laws refl

abbrev drops : Dict
drops = impl ("toml_span_tree::Destruct++none::drop" ∷ []) (tcons (layout A) tnil) dnil

pub member_of_spec : {M : Type 1} → statement M
unfolding Rattle.toml_span_tree.proofs.Destruct++none.drop.Code.code
member_of_spec 𝓤 𝓛 𝓜 𝓡 wired =
    let c = f.clauses 𝓛 𝓜.mem 𝓡.returns in
    let 𝓣 = tables 𝓤 𝓛.H 𝓜 𝓡 𝓡.env in
    proved 𝓛 f.ended stayed c 𝓜 𝓡 (Goes-spent_ref 𝓛 3 (0 ∷ []) tt (plain (λ κs. table_row (a_of κs))), (Goes-dropped 𝓛 3 (shr_ref_to (2 ∷ []) tt (plain (λ κs. key.the_row (a_of κs)))) yes (λ κs x e. refl), tt))
    f.Key.name code.function (code.unfolded 𝓤 𝓛.H 𝓜 𝓡 wired)
    (λ κs. (mut_vals, (shr_vals, tt))) (λ κs. (mut_Tells (named 0) κs.0 (table_row (a_of κs)), (shr_Tells (named 2) κs.1.1.0 (key.the_row (a_of κs)), tt))) (λ κs qs bounds a _ are.
    let κ = κs.0 in let q = qs.0 in let κ' = κs.1.0 in let q' = qs.1.0 in let κ'' = κs.1.1.0 in let q'' = qs.1.1.0 in
    let r = a.0 in let name = a.1.0 in let b = r.ref_ptr.0 in let o = r.ref_ptr.1 in let α = a_of κs in let β : NamedLft = record { mir = named 2; lft = κ'' } in
    let R = table_row α in let W = value.the_row α in
    let keyed = ord-met.bound 𝓡.env (code.calls-toml_span_lex::key::KeyOrd::cmp 𝓡.env wired) κ' _ 𝓤 𝓛 𝓜 𝓡 in
    let eqs = is_eq-met.bound 𝓡.env κ' _ 𝓤 𝓛 𝓜 𝓡 in
    let sames = eq-met.bound 𝓡.env (code.calls-toml_span_lex::key::KeyPartialEq::eq 𝓡.env wired) κ' _ 𝓤 𝓛 𝓜 𝓡 in
    let partials = partial_ord-met.bound 𝓡.env (code.calls-toml_span_lex::key::KeyPartialOrd::partial_cmp 𝓡.env wired) κ' _ 𝓤 𝓛 𝓜 𝓡 in
    let met = g-thm.met 𝓤 𝓛 𝓜 𝓡 (code.calls-std_collections::btree_map::BTreeMap::get_mut 𝓡.env wired) (K α) (V α) A (Q α β) (LK α) (LV α) LA (LQ α β) (CQ α β)
    ord.ghosts ord.dict is_eq.ghosts is_eq.dict eq.ghosts eq.dict partial_ord.ghosts partial_ord.dict heap.ghosts heap.dict drops (compares α) (compares_dict α) (ref_clone.ghosts (K α)) (ref_clone.dict (K α))
    (record { total = keyed.total; matches_partial_cmp = keyed.matches_partial_cmp; matches_eq = keyed.matches_eq; cmp = keyed.cmp }) (record { laws = eqs.laws }) (record { laws = sames.laws; eq = sames.eq }) (record { laws = partials.laws; partial_cmp = partials.partial_cmp })
    (allocator.passed 𝓡.env (code.calls-std_heap::GlobalAllocator::allocate 𝓡.env wired) (code.calls-std_heap::GlobalAllocator::deallocate 𝓡.env wired) (code.calls-std_heap::GlobalAllocator::grow 𝓡.env wired) (code.calls-std_heap::GlobalAllocator::shrink 𝓡.env wired) _ 𝓤 𝓛 𝓜 𝓡)
    (glues "toml_span_tree::Destruct++none::drop" 𝓡.env (code.calls-toml_span_tree::Destruct++none::drop 𝓡.env wired) A LA _ 𝓤 𝓛 𝓜 𝓡)
    (let m = query-met.bound 𝓡.env (code.calls-std_collections::btree_map::comparable::RefComparable::compare 𝓡.env wired) κ'' (K α) (LK α) (key_laws.the_within α κ'' bounds.1.0) ord.ghosts ord.dict is_eq.ghosts is_eq.dict eq.ghosts eq.dict partial_ord.ghosts partial_ord.dict _ 𝓤 𝓛 𝓜 𝓡
    (record { total = keyed.total; matches_partial_cmp = keyed.matches_partial_cmp; matches_eq = keyed.matches_eq; cmp = keyed.cmp }) (record { laws = eqs.laws }) (record { laws = sames.laws; eq = sames.eq }) (record { laws = partials.laws; partial_cmp = partials.partial_cmp }) in
    record { respects_cmp = m.respects_cmp; below_greater = m.below_greater; compare = m.compare })
    (record { clone = (ref_clone-met.bound 𝓡.env (code.calls-core::clone::RefClone::clone 𝓡.env wired) κ'' (K α) (LK α) (key_laws.the_within α κ'' bounds.1.0) _ 𝓤 𝓛 𝓜 𝓡).clone }) in
    let E = g.ended (K α) (V α) A (Q α β) ord.ghosts ord.dict is_eq.ghosts is_eq.dict eq.ghosts eq.dict partial_ord.ghosts partial_ord.dict heap.ghosts heap.dict drops (compares α) (compares_dict α) (ref_clone.ghosts (K α)) (ref_clone.dict (K α)) in
    let G = triple_of 𝓛 E.signature (g.spec (K α) (V α) A (Q α β) ord.ghosts ord.dict is_eq.ghosts is_eq.dict eq.ghosts eq.dict partial_ord.ghosts partial_ord.dict heap.ghosts heap.dict drops (compares α) (compares_dict α) (ref_clone.ghosts (K α)) (ref_clone.dict (K α)) 𝓛 𝓜.mem 𝓡.returns) in
    let z : G.Ghost = (((κ, (κ', (κ', ([], (κ'', tt))))), (q, (left q', (right q', (full_share, (q'', tt))))), (bounds.0, (bounds.0, ((λ x m. absurd (not-mem-nil m)), tt))), (r, (name, tt)), (mut_vals r, (shr_vals name, tt))), tt) in
    let fn = code.function in
    let Y : (walk_of 𝓛 f.ended stayed c).Ghost = ((κs, qs, bounds, a, (mut_vals r, (shr_vals name, tt))), tt) in
    let Post = (walk_of 𝓛 f.ended stayed c).post Y in
    let OR = O.the_row (MutRef (named 0) κ W) in
    let within = key_laws.the_within α κ'' bounds.1.0 in
    let es = r.now.entries in let text = cow_str_bytes name.now.name in
    let tokens = ‵ (flft κ q) ⊛ ‵ (flft κ' q') ⊛ ‵ (flft κ'' q'') ⊛ ‵ ftrue in
    qed 𝓛 ((tokens ⊛ ‵ ((MutRef (named 0) κ R).own_val r (mut_vals r)) ⊛ ‵ ((ShrRef (named 2) κ'' (key.the_row α)).own_val name (shr_vals name)) ⊛ ‵ ftrue)
    ∷ raw (fact 𝓤 (IsSome (get_member text (members_view es)))) ∷ []) ∵ begins ! (λ asked.
    -- [the reference; the key; the tokens]
    enter ! _ _ _ _ _ $ alloc_all ! (λ l. pass_all ! refl ((tt, tt), ((tt, tt), tt)) $ let En = env fn.locals l in
    sets ! (addr ! (through ! refl (stop !))) refl (tt, tt) $
    move ! (2 ∷ []) $ split3 ! $ move ! (1 ∷ []) $ use1 𝓛 (‵ (flft κ' (left q')) ⊛ ‵ (flft κ' (right q'))) (𝓛.lfts.lft_split κ' q') $ split ! $
    use0 𝓛 (‵ (flft [] full_share)) (𝓛.lfts.lft-nil full_share) $ move ! (3 ∷ 1 ∷ 2 ∷ 0 ∷ 4 ∷ []) $ group ! 5 $ move ! (1 ∷ 2 ∷ 0 ∷ []) $ args ! $
    -- [what the call takes; the facts that it asks for]
    nothing ! $ use0 𝓛 (raw (fact 𝓤 (κ'' ⊑ (Q α β).lives))) (fact_i 𝓤 _ (emp 𝓤) (⊑_meet κ'' κ'' (K α).lives (λ x m. m) within)) $ join ! $
    use0 𝓛 (raw (fact 𝓤 ([] ⊑ A.lives))) (fact_i 𝓤 _ (emp 𝓤) (λ x m. m)) $ join ! $
    use0 𝓛 (raw (fact 𝓤 (κ' ⊑ (V α).lives))) (fact_i 𝓤 _ (emp 𝓤) (value_laws.the_within α κ' (λ x m. m))) $ join ! $
    use0 𝓛 (raw (fact 𝓤 (κ' ⊑ (K α).lives))) (fact_i 𝓤 _ (emp 𝓤) (key_laws.the_within α κ' (λ x m. m))) $ join ! $
    move ! (1 ∷ 0 ∷ []) $ use2 𝓛 (raw (G.pre z)) (id⊢ 𝓤 _) $
    calls_at ! (framed 𝓤 𝓛.H 𝓜 𝓣) G met z (and_then ! (get ! refl) (and_then ! (get ! refl) (no_more !))) (λ v.
    let P : Value → BTreeMap Key Value → Type 0 = WritesThrough ord.ghosts.cmp (ord.ghosts.cmp name.now) r.now in
    let P₀ : BTreeMap Key Value → Type 0 = λ n. n ≡ r.now in
    gives ! tt OR v (‵ (flft κ q) ⊛ ‵ (flft κ' (left q')) ⊛ ‵ (flft κ' (right q')) ⊛ ‵ (flft [] full_share) ⊛ ‵ (flft κ'' q'') ⊛ ‵ ftrue) (lasts E z.0.0 z.0.3)
    (λ y. ‵ (follows_so R W r.ghost_name (ghost_name_of y) P P₀) ⊛ raw (fact 𝓤 (option_map (λ x. x.now) y ≡ lookup (at_name text) es)) ⊛ raw (fact 𝓤 (IfSome y (λ x. IsAmong (values r.now) x.now))) ⊛ raw (fact 𝓤 (IsOrdered ord.ghosts.cmp r.now)))
    (id⊢ 𝓤 _) (λ y. split ! $ move ! (1 ∷ []) $ split ! $ heard ! _ (λ told. drop ! $ let some_y = member-some y text es told asked in let x = some_y.0 in
    -- [what is lent; the option; the tokens]
    rewrite ! 0 (λ (u : Option (MutBor Value)). ‵ (follows_so R W r.ghost_name (ghost_name_of u) P P₀)) some_y.1 refl $
    use1 𝓛 (‵ (lends_member r text x)) (so_some 𝓛 R W r x P _ P₀ (λ _. ⊤) (λ w n h. ap members_view h.0 ∙ view-set_value text es w) r.now tt) $
    rewrite ! 1 (λ (u : Option (MutBor Value)). ‵ (OR.own_val u (v ∷ []))) some_y.1 refl $ move ! (1 ∷ []) $
    use1 𝓛 (raw (fact 𝓤 (v ≡ held 𝓛 κ W x v)) ⊛ ‵ ((MutRef (named 0) κ W).own_val x (mut_vals x))) (some_opened 𝓛 κ W x v) $ split ! $ heard ! _ (λ vis.
    -- [the reference; what is lent; the tokens]
    move ! (2 ∷ []) $ split3 ! $ move ! (2 ∷ []) $ split3 ! $ move ! (4 ∷ 0 ∷ []) $ use2 𝓛 (‵ (flft κ' q')) (𝓛.lfts.lft_join κ' q') $ move ! (3 ∷ 0 ∷ 2 ∷ []) $ group ! 3 $
    -- [the tokens; nothing; the reference; what is lent]
    lands_as ! vis refl (tt, (record { fits = lit< tt }, (tt, tt))) $
    first ! $ switches_on ! (get_tag ! (vrt ! refl (fld ! refl (stop !))) (whole !)) $
    exec ! 𝓣.C 𝓣.Λ En (arm_body 0 (head (after 2 fn.body))) (then_runs 𝓛 𝓣.C 𝓣.Λ En (after 3 fn.body) (at_ret En Post)) $
    sets ! (of_opd ! (get_in ! (vrt ! refl (fld ! refl (stop !))) (in_variant ! 1 0 refl refl (whole !)))) refl (tt, tt) $
    sets_last ! (addr ! (through ! refl (stop !))) refl (tt, tt) $
    exec ! 𝓣.C 𝓣.Λ En (after 3 fn.body) (at_ret En Post) $
    sets ! (of_opd ! (get ! refl)) refl (tt, tt) $
    returns ! (look_at ! 0 refl) $ free_all ! refl $ keep ! (2 ∷ 3 ∷ 0 ∷ []) $
    ends ! (ends_at 𝓛 f.ended stayed c Y (vptr x.ref_ptr.0 x.ref_ptr.1) x (tt, (tt, tt)) (tt, (tt, tt))) (member-is y x text es told some_y.1))))))))
